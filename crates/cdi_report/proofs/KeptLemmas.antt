-- What is settled stays so over a draft that does not concern it.
use Rattle.cdi_report.proofs.Common.{◌≡◌, Bool, true, false, List, [], ◌∷◌, Option, Some, None, refl, sym, ap, ◌∙◌, AllByRecursion}
use Rattle.cdi_report.proofs.Common.{false≢true, or_parts, kind_of, name_of_decl, find_decl, edited_all, edited_keys, is_among, Decl, Edit, DeclKey}
use Rattle.cdi_report.proofs.Common.{key_of, not, edits_keep_decl, filter, Promised, unchanged_of, is_changed, AreSettled, Unsettled}
use Rattle.cdi_report.proofs.Common.{edits_keep_others, AreDistinct, is_name, Moved, Staged, each-found, IsFound, knows, State}
use Rattle.cdi_report.proofs.Common.{subjects_at_fault, IsAlike, AreNamed, IsLeft, flat_map, not-true, all-weaker, arith}
use Rattle.cdi_live.specs.State.{TakesOver}
use Rattle.cdi_faults.specs.{declared.fault.Code.Code, Codes.all_codes}
use Rattle.cdi_validate.specs.Faults.{faults_of_code}
use Rattle.cdi_report.proofs.{StayLemmas.left_alike, StayLemmas.left_stay, StayLemmas.left_were_present, UnmovedLemmas.not-edited}
use Rattle.cdi_report.proofs.TogetherLemmas.{all-passed, filter-filter, together-stay}
use Rattle.cdi_report.specs.Stays.{IsReadied, SettledStay, Stays}

-- the faults of a declaration are the same where those of each code are
same-faults : (ds es : List Decl) (book : List Promised) (d : Decl)
    → ((code : Code) → subjects_at_fault code ds book d ≡ subjects_at_fault code es book d) → (codes : List Code)
    → flat_map (faults_of_code ds book d) codes ≡ flat_map (faults_of_code es book d) codes
same-faults ds es book d same [] = refl
same-faults ds es book d same (code ∷ codes) = grind (arith, same-faults ds es book d same codes)

-- what holds of each of a list holds of one that is found there
found-all : (P : Decl → Type 0) (ds : List Decl) → AllByRecursion P ds → (d : Decl) → IsFound ds d → P d
found-all P [] all d found = absurd (let no : ◌≡◌ {A = Option Decl} None (Some d) = found in cc)
found-all P (e ∷ ds) all d found = grind (arith, found-all P ds all.1 d, all.1, all.0)

module _ (old : State) (next : Staged) (new : State) (book : List Promised) (u : Unsettled) (before : AreDistinct old.decls)
    (after : AreDistinct new.decls) (ready : IsReadied old next u) (taken : TakesOver old next new)
    (settled : AreSettled old.decls (knows old) book u) where
  -- what has not changed is not concerned
  same-apart : (k : DeclKey) → is_changed u k ≡ false → is_among ready.keys k ≡ false
  same-apart k same = grind (arith, false≢true)

  left : (d : Decl) → find_decl (kind_of d) (name_of_decl d) new.decls ≡ Some d → is_changed u (key_of d) ≡ false
      → IsLeft old ready.draft next new ready.keys d
  left d found same = grind (arith, same-apart)

  was : (d : Decl) → find_decl (kind_of d) (name_of_decl d) new.decls ≡ Some d → is_changed u (key_of d) ≡ false
      → find_decl (kind_of d) (name_of_decl d) old.decls ≡ Some d
  was d found same = left_were_present old ready.draft next new ready.keys d (left d found same)

  stays : (d : Decl) → find_decl (kind_of d) (name_of_decl d) new.decls ≡ Some d → is_changed u (key_of d) ≡ false → Stays old new d
  stays d found same = left_stay old ready.draft next new ready.keys d (left d found same) (settled.known d (was d found same) same)

  abbrev edits : List Edit
  edits = ready.edited.edits

  abbrev moved : Moved
  moved = ready.concerned.moved

  -- what has not changed is not edited
  not-edited-same : (d : Decl) → not (is_changed u (key_of d)) ≡ true → not (is_among (edited_keys edits) (key_of d)) ≡ true
  not-edited-same d same = grind (arith, not-edited, same-apart, not-true)

  -- the same declarations have not changed, in the same order
  same-unchanged : unchanged_of u old.decls ≡ unchanged_of u new.decls
  same-unchanged =
      let p : Decl → Bool = λ d. not (is_among (edited_keys edits) (key_of d)) in
      let q : Decl → Bool = λ d. not (is_changed u (key_of d)) in
      sym (filter-filter p q old.decls not-edited-same)
      ∙ ap (filter q) (edits_keep_others edits old.decls)
      ∙ filter-filter p q (edited_all old.decls edits) not-edited-same
      ∙ ap (unchanged_of u) (sym (taken.decls ∙ ready.staged ∙ ready.edited.decls))

  all-alike : AllByRecursion (IsAlike old.decls new.decls) (unchanged_of u new.decls)
  all-alike = all-passed (IsAlike old.decls new.decls) (λ d. not (is_changed u (key_of d))) new.decls
      (all-weaker (IsFound new.decls) (λ d. not (is_changed u (key_of d)) ≡ true → IsAlike old.decls new.decls d) new.decls
      (λ d found is-same.
      let same : is_changed u (key_of d) ≡ false = not-true (is_changed u (key_of d)) is-same in
      left_alike old ready.draft next new ready.keys d (left d found same) (settled.known d (was d found same) same))
      (each-found new.decls after))

  -- a declaration that is edited has the name of a key that was added
  named-one : AreNamed old.decls → (d : Decl) → find_decl (kind_of d) (name_of_decl d) new.decls ≡ Some d
      → is_name (name_of_decl d) ≡ true
  named-one named d found = grind (arith, moved.edited.now, found-all, edits_keep_decl)

  still-named : AreNamed old.decls → AreNamed new.decls
  still-named named = all-weaker (IsFound new.decls) (λ d. is_name (name_of_decl d) ≡ true) new.decls (named-one named)
      (each-found new.decls after)

  stay : AreSettled new.decls (knows new) book u
  stay = record {
    known = λ d found same. (stays d found same).known;
    faultless = λ d found shut.
        let same : is_changed u (key_of d) ≡ false = (or_parts (is_changed u (key_of d)) _ shut).0 in
        sym (same-faults old.decls new.decls book d (λ code. (stays d found same).faults code book) all_codes)
        ∙ settled.faultless d (was d found same) shut;
    apart = together-stay old.decls new.decls u before after same-unchanged all-alike still-named settled.apart;
  }

pub settled_stay : SettledStay
settled_stay old next new book u before after ready taken settled = stay old next new book u before after ready taken settled
