-- The declarations that the commands of a script leave, where what is kept of its lines serves for them.
use Rattle.cdi_script.proofs.Common.{◌≡◌, ℕ, List, [], ◌∷◌, ◌++◌, refl, ap, sym, ◌∙◌, append_assoc, subst, Option, Some, None}
use Rattle.cdi_script.proofs.Common.{option_to_list, append-nil, feed, Decl, Command, NoFeed, begun_from, ended_from, last_line}
use Rattle.cdi_script.proofs.Common.{ServesCompleted, ServesTaken, Mode, commands_of_lines, mode_of_lines, outside, taken, unclosed}
use Rattle.cdi_lines.specs.Lines.{lines}
use Rattle.cdi_script.proofs.Open.{serves_serving_taken, serves_taken, serves_unclosed}
use Rattle.cdi_script.proofs.{Serving.serves_itself, Taking.ended_from-no_feed, Taking.begun_from-no_feed}
use Rattle.cdi_script.specs.{Left.left_by, Left.left_by_all, Reads.left_commands, Reads.Reads}

pub left-append : (ds : List Decl) (before after : List Command)
    → left_by_all ds (before ++ after) ≡ left_by_all (left_by_all ds before) after
left-append ds [] after = refl
left-append ds (c ∷ before) after = left-append (left_by ds c) before after

-- ---- lines

ended-first : (begun line after : List ℕ) → NoFeed line → ended_from begun (line ++ feed ∷ after) ≡ (begun ++ line) ∷ ended_from [] after
ended-first begun [] after h = ap (λ l. l ∷ ended_from [] after) (sym (append-nil begun))
ended-first begun (b ∷ line) after h = rw h.0 (ended-first (begun ++ b ∷ []) line after h.1
    ∙ ap (λ l. l ∷ ended_from [] after) (append_assoc begun (b ∷ []) line))

begun-first : (begun line after : List ℕ) → NoFeed line → begun_from begun (line ++ feed ∷ after) ≡ begun_from [] after
begun-first begun [] after h = refl
begun-first begun (b ∷ line) after h = rw h.0 (begun-first (begun ++ b ∷ []) line after h.1)

first_line : (line after : List ℕ) → NoFeed line → lines (line ++ feed ∷ after) ≡ line ∷ lines after
first_line line after h = ap (λ ls. ls ++ last_line (begun_from [] (line ++ feed ∷ after))) (ended-first [] line after h)
    ∙ ap (λ l. line ∷ (ended_from [] after ++ last_line l)) (begun-first [] line after h)

only_line : (line : List ℕ) → NoFeed line → lines line ≡ last_line line
only_line line h = ap (λ ls. ls ++ last_line (begun_from [] line)) (ended_from-no_feed [] line h)
    ∙ ap last_line (begun_from-no_feed [] line h)

last_is : (line : List ℕ) → (line ≡ [] → ⊥) → last_line line ≡ line ∷ []
last_is [] some = absurd (some refl)
last_is (b ∷ line) some = refl

-- ---- what is left

pub reads_all : (script : List ℕ) → Reads outside [] (lines script) (left_commands outside (lines script))
reads_all script = record { meant = outside; serves = record { batch = tt; text = tt }; leaves = λ ds. refl }

same_left : (ds : List Decl) (kept completed : Option Command) → ServesCompleted kept completed
    → left_by_all ds (option_to_list kept) ≡ left_by_all ds (option_to_list completed)
same_left ds None None h = refl
same_left ds None (Some command) h = absurd h
same_left ds (Some kept) None h = absurd h
same_left ds (Some kept) (Some command) h = h.1 ds

-- a line more
module _ (old new : Mode) (read more : List Command) (kept : Option Command) (line : List ℕ) (left : List (List ℕ)) (whole : List Command)
    (grows : more ≡ read ++ option_to_list kept) (taking : ServesTaken kept new (taken old line)) where
  reads_one : Reads old read (line ∷ left) whole → Reads new more left whole
  reads_one r = record {
    meant = (taken r.meant line).mode;
    serves = all.mode;
    leaves = λ ds. ap (λ cs. left_by_all (left_by_all ds cs) rest) grows
        ∙ ap (λ d. left_by_all d rest) (left-append ds read (option_to_list kept)
        ∙ same_left (left_by_all ds read) kept (taken r.meant line).command all.command)
        ∙ sym (left-append (left_by_all ds read) (option_to_list (taken r.meant line).command) rest)
        ∙ ap (left_by_all (left_by_all ds read)) (sym (append_assoc (option_to_list (taken r.meant line).command)
        (commands_of_lines (taken r.meant line).mode left) (unclosed (mode_of_lines (taken r.meant line).mode left))))
        ∙ r.leaves ds;
  }
    where
      all : ServesTaken kept new (taken r.meant line)
      all = serves_serving_taken kept new (taken old line) (taken r.meant line) taking
          (serves_taken old r.meant line line r.serves (serves_itself line))

      rest : List Command
      rest = left_commands (taken r.meant line).mode left

module _ (old new : Mode) (read more : List Command) (kept : Option Command) (line : List ℕ) (whole : List Command)
    (grows : more ≡ read ++ option_to_list kept) (taking : ServesTaken kept new (taken old line)) where
  -- a line that a line feed ends
  pub reads_line : (text after : List ℕ) → NoFeed line → text ≡ line ++ feed ∷ after → Reads old read (lines text) whole
      → Reads new more (lines after) whole
  reads_line text after none is r = reads_one old new read more kept line (lines after) whole grows taking
      (subst (λ ls. Reads old read ls whole) (ap lines is ∙ first_line line after none) r)

  -- the last line, which none ends
  pub reads_last : NoFeed line → (line ≡ [] → ⊥) → Reads old read (lines line) whole → Reads new more [] whole
  reads_last none some r = reads_one old new read more kept line [] whole grows taking
      (subst (λ ls. Reads old read ls whole) (only_line line none ∙ last_is line some) r)

-- the end of the script, where no line is left
pub reads_end : (mode : Mode) (read : List Command) (whole : List Command) → Reads mode read [] whole → (ds : List Decl)
    → left_by_all ds (read ++ unclosed mode) ≡ left_by_all ds whole
reads_end mode read whole r ds = left-append ds read (unclosed mode)
    ∙ ap (left_by_all (left_by_all ds read)) (serves_unclosed mode r.meant r.serves) ∙ r.leaves ds
