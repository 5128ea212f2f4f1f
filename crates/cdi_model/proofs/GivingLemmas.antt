-- What declarations give rests on those that edits leave.
use Rattle.cdi_model.proofs.Common.{◌≡◌, Bool, true, false, cond, not, List, [], ◌∷◌, ◌++◌, flat_map, refl, sym, ap, ◌∙◌, AllByRecursion}
use Rattle.cdi_model.proofs.Common.{key_of, edited_all, edited_keys, is_among, others, Decl, DeclKey}
use Rattle.cdi_model.proofs.EditLemmas.{edits_keep_others}
use Rattle.cdi_model.specs.Giving.{EditsKeepGiven}

-- those apart from some keys, with one more where it has none of them
abbrev with_other : List DeclKey → Bool → Decl → List Decl → List Decl
with_other keys among d ds = cond (not among) (d ∷ others keys ds) (others keys ds)

-- declarations that give nothing may be left out
leave-out : {X : Type 0} (f : Decl → List X) (keys : List DeclKey) (ds : List Decl)
    → AllByRecursion (λ d. is_among keys (key_of d) ≡ true → f d ≡ []) ds → flat_map f ds ≡ flat_map f (others keys ds)
leave-out f keys [] none = refl
leave-out f keys (d ∷ ds) none = by (is_among keys (key_of d)) refl (leave-out f keys ds none.1)
  where
    by : (b : Bool) → is_among keys (key_of d) ≡ b → flat_map f ds ≡ flat_map f (others keys ds)
        → flat_map f (d ∷ ds) ≡ flat_map f (with_other keys b d ds)
    by true e rest = ap (λ first. first ++ flat_map f ds) (none.0 e) ∙ rest
    by false e rest = ap (λ more. f d ++ more) rest

alike : {X : Type 0} (f g : Decl → List X) (keys : List DeclKey) (ds : List Decl)
    → AllByRecursion (λ d. is_among keys (key_of d) ≡ false → f d ≡ g d) ds → flat_map f (others keys ds) ≡ flat_map g (others keys ds)
alike f g keys [] same = refl
alike f g keys (d ∷ ds) same = by (is_among keys (key_of d)) refl (alike f g keys ds same.1)
  where
    by : (b : Bool) → is_among keys (key_of d) ≡ b → flat_map f (others keys ds) ≡ flat_map g (others keys ds)
        → flat_map f (with_other keys b d ds) ≡ flat_map g (with_other keys b d ds)
    by true e rest = rest
    by false e rest = ap (λ first. first ++ flat_map f (others keys ds)) (same.0 e) ∙ ap (λ more. g d ++ more) rest

pub edits_keep_given : {X : Type 0} → EditsKeepGiven X
edits_keep_given give edits ds leave =
    let es : List Decl = edited_all ds edits in
    let keys : List DeclKey = edited_keys edits in
    leave-out (give es) keys es leave.after
    ∙ sym (ap (flat_map (give es)) (edits_keep_others edits ds))
    ∙ sym (alike (give ds) (give es) keys ds leave.others)
    ∙ sym (leave-out (give ds) keys ds leave.before)
