-- Files that are put one after another.
use Rattle.std.proofs.Common.{◌≡◌, Ok, Err, Result, ℕ, ◌+◌, ◌<◌, Bool, true, false, List, ◌∷◌, ◌++◌, length, refl, ap, ap₂, sym, ◌∙◌}
use Rattle.std.proofs.Common.{append_assoc, get_or}
use Rattle.std.specs.List.{list_all}
use Rattle.std.proofs.lemmas.{Bool.false≢true, List.Folds.list_all_at}
use Rattle.cdi_model.specs.declared.{decl.Decl.Decl, refusal.Refusal.Refusal, refusal.Refusal.TheVariants.TooMany}
use Rattle.cdi_model.specs.{DeclList.is_too_many, Edits.edited_all}
use Rattle.cdi_container.specs.Editing.{answer_of_put, changes_in, put_among, put_of}
use Rattle.cdi_container.specs.declared.answer.PutDone.{PutDone}
use Rattle.cdi_script.specs.Left.{left_by_change}
use Rattle.cdi_sources.specs.declared.source.Source.{Source}
use Rattle.cdi_assembly.specs.Put.{answer_to_text, is_declaration, left_by_source, left_by_sources, refused_as, refused_from, Refused}

module _ (ds after : List Decl) (s : Source) (rest left : List Source) (put : after ≡ left_by_source ds s) (next : left ≡ s ∷ rest) where
  pub one_put : (all : List Decl) → left_by_sources ds left ≡ all → left_by_sources after rest ≡ all
  one_put all held = ap (λ d. left_by_sources d rest) put ∙ ap (left_by_sources ds) (sym next) ∙ held

  pub one_told : (position : ℕ) (told more all : List Refused) → more ≡ told ++ refused_as position (answer_to_text ds s.text.items)
      → told ++ refused_from position ds left ≡ all → more ++ refused_from (position + 1) after rest ≡ all
  one_told position told more all one held =
      ap₂ (λ list d. list ++ refused_from (position + 1) d rest) one put
      ∙ append_assoc told (refused_as position (answer_to_text ds s.text.items)) (refused_from (position + 1) (left_by_source ds s) rest)
      ∙ ap (λ files. told ++ refused_from position ds files) (sym next) ∙ held

-- each of some declarations is one
pub is_one : (sources : List Source) (n : ℕ) (s : Source) → n < length sources → get_or sources n s ≡ s
    → list_all is_declaration sources ≡ true → is_declaration s ≡ true
is_one sources n s within here all = by (is_declaration s) refl
  where
    by : (b : Bool) → is_declaration s ≡ b → is_declaration s ≡ true
    by true e = e
    by false e = absurd (false≢true (sym (list_all_at is_declaration sources n s within (ap is_declaration here ∙ e)) ∙ all))

-- ---- what a put leaves, by its answer

pub left_if_accepted : (ds after : List Decl) (asked : Result Decl Refusal) (put : PutDone) → answer_of_put ds asked ≡ Ok put
    → after ≡ edited_all ds (changes_in (put_of asked)) → after ≡ left_by_change ds (put_of asked)
left_if_accepted ds after (Ok d) put h e = by (is_too_many ds d) refl
  where
    by : (b : Bool) → is_too_many ds d ≡ b → after ≡ left_by_change ds (put_of (Ok d))
    by true t = absurd (let no : Err TooMany ≡ Ok put = rw t at h in cc)
    by false t = rw t e
left_if_accepted ds after (Err r) put h e = cc

pub left_if_refused : (ds after : List Decl) (asked : Result Decl Refusal) (r : Refusal) → answer_of_put ds asked ≡ Err r
    → after ≡ ds → after ≡ left_by_change ds (put_of asked)
left_if_refused ds after (Ok d) r h e = by (is_too_many ds d) refl
  where
    by : (b : Bool) → is_too_many ds d ≡ b → after ≡ left_by_change ds (put_of (Ok d))
    by true t = rw t e
    by false t = absurd (let no : Ok (put_among ds d) ≡ Err r = rw t at h in cc)
left_if_refused ds after (Err s) r h e = e
