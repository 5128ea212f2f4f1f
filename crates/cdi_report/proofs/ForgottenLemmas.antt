-- What is settled stays so where the keys go whose declarations are not there.
use Rattle.cdi_report.proofs.Common.{all-weaker, ◌≡◌, Bool, true, false, cond, List, [], ◌∷◌, Option, Some, refl, sym, ap, subst, ◌∙◌, inl}
use Rattle.cdi_report.proofs.Common.{inr, AllByRecursion, cases_Bool, false≢true, kind_of, name_of_decl, same_key, same_key_equiv}
use Rattle.cdi_report.proofs.Common.{find_decl, Decl, DeclKey, ◌||◌, key_of, Key, list_any, is_some, filter, contains, Promised, is_of}
use Rattle.cdi_report.proofs.Common.{key_exact, unchanged_of, is_changed, is_present, AreSettled, HaveNoneTogether, Unsettled, arith}

-- ---- the keys that are left

-- a key that passes is there where it was
left : (p : DeclKey → Bool) (ks : List DeclKey) (k : DeclKey) → p k ≡ true → list_any (same_key k) (filter p ks) ≡ list_any (same_key k) ks
left p [] k passes = refl
left p (l ∷ ks) k passes = by (p l) refl (left p ks k passes)
  where
    by : (b : Bool) → p l ≡ b → list_any (same_key k) (filter p ks) ≡ list_any (same_key k) ks
        → list_any (same_key k) (cond b (l ∷ filter p ks) (filter p ks)) ≡ (same_key k l || list_any (same_key k) ks)
    by true e rest = ap (λ b. same_key k l || b) rest
    by false e rest = elim (cases_Bool (same_key k l)) [
      | inl same ↦ absurd (false≢true (sym e ∙ ap p (sym (key_exact k l same)) ∙ passes))
      | inr other ↦ rest ∙ ap (λ b. b || list_any (same_key k) ks) (sym other)
    ]

-- each that is left passes
passes-left : (p : DeclKey → Bool) (ks : List DeclKey) (k : DeclKey) → list_any (same_key k) (filter p ks) ≡ true → p k ≡ true
passes-left p [] k has = absurd (false≢true has)
passes-left p (l ∷ ks) k has = grind (arith, passes-left p ks k, key_exact)

pub left-are-present : (ds : List Decl) (old new : List DeclKey) (k : DeclKey) → new ≡ filter (is_present ds) old
    → list_any (same_key k) new ≡ true → is_present ds k ≡ true
left-are-present ds old new k are has = passes-left (is_present ds) old k (ap (list_any (same_key k)) (sym are) ∙ has)

-- ---- the declarations

-- each is there
each-present : (ds : List Decl) → AllByRecursion (λ d. is_present ds (key_of d) ≡ true) ds
each-present [] = tt
each-present (d ∷ ds) = (
  ap (λ b. is_some (cond b (Some d) (find_decl (kind_of d) (name_of_decl d) ds))) (same_key_equiv.refl (key_of d)),
  all-weaker (λ e. is_present ds (key_of e) ≡ true) (λ e. is_present (d ∷ ds) (key_of e) ≡ true) ds more (each-present ds),
)
  where
    by : (b : Bool) (o : Option Decl) → is_some o ≡ true → is_some (cond b (Some d) o) ≡ true
    by true o there = refl
    by false o there = there

    more : (e : Decl) → is_present ds (key_of e) ≡ true → is_present (d ∷ ds) (key_of e) ≡ true
    more e there = by (is_of (kind_of e) (name_of_decl e) d) (find_decl (kind_of e) (name_of_decl e) ds) there

unchanged-same : (ds es : List Decl) (old new : Unsettled) → AllByRecursion (λ d. is_changed old (key_of d) ≡ is_changed new (key_of d)) es
    → unchanged_of old es ≡ unchanged_of new es
unchanged-same ds [] old new same = refl
unchanged-same ds (d ∷ es) old new same = grind (arith, unchanged-same ds es old new same.1, same.0, same.1)

pub settled-forgotten : (ds : List Decl) (old new : Unsettled) → new.is_each ≡ old.is_each → new.anew ≡ old.anew → new.faulty ≡ old.faulty
    → new.keys.keys ≡ filter (is_present ds) old.keys.keys → (knows : Key → Bool) (book : List Promised) → AreSettled ds knows book old
    → AreSettled ds knows book new
settled-forgotten ds old new each anew faulty are knows book settled = record {
  known = λ d found same. settled.known d found (changed-same d (ap is_some found) ∙ same);
  faultless = λ d found shut. settled.faultless d found
      (ap (λ b. b || contains same_key old.faulty (key_of d)) (changed-same d (ap is_some found))
      ∙ ap (λ s. is_changed new (key_of d) || contains same_key s (key_of d)) (sym faulty) ∙ shut);
  apart = subst (λ own. HaveNoneTogether ds own new.anew) unchanged
      (subst (λ a. HaveNoneTogether ds (unchanged_of old ds) a) (sym anew) settled.apart);
}
  where
    changed-same : (d : Decl) → is_present ds (key_of d) ≡ true → is_changed old (key_of d) ≡ is_changed new (key_of d)
    changed-same d there =
        ap (λ b. b || contains same_key old.keys (key_of d)) (sym each)
        ∙ ap (λ b. new.is_each || b)
        (sym (left (is_present ds) old.keys.keys (key_of d) there) ∙ ap (list_any (same_key (key_of d))) (sym are))

    unchanged : unchanged_of old ds ≡ unchanged_of new ds
    unchanged = unchanged-same ds ds old new
        (all-weaker (λ d. is_present ds (key_of d) ≡ true) (λ d. is_changed old (key_of d) ≡ is_changed new (key_of d)) ds changed-same
        (each-present ds))
