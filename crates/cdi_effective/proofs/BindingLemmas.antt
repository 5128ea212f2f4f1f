-- The bindings that stereotypes give, and those in the place of others.
use Rattle.cdi_effective.proofs.Common.{◌≡◌, ◌<◌, ◌+◌, ℕ, Bool, true, false, cond, ◌||◌, List, [], ◌∷◌, length, drop, get_or, refl, sym, ap}
use Rattle.cdi_effective.proofs.Common.{◌∙◌, or_assoc, Bor, bytes_eq, at_drop_more, option_to_list, Decl, find_stereotype, stereotype_decls}
use Rattle.cdi_effective.proofs.Common.{Qual, uses_in, in_place_of, stereotype_bindings, uses_one, bytes_eq-turned, flat_map}
use Rattle.cdi_match.specs.Stereotypes.{stereotypes_of}

-- those of the stereotypes of what declares some
pub given_by_stereotypes : (ds : List Decl) (declared names : List (List ℕ)) → names ≡ stereotypes_of ds declared
    → stereotype_bindings (flat_map (λ s. option_to_list (find_stereotype s ds)) names) ≡ stereotype_bindings (stereotype_decls ds declared)
unfolding stereotype_decls
given_by_stereotypes ds declared names are = ap (λ ns. stereotype_bindings (flat_map (λ s. option_to_list (find_stereotype s ds)) ns)) are

-- where there are none, the others stay
pub none_replaced : (us : List Qual) → us ≡ in_place_of us []
none_replaced [] = refl
none_replaced (u ∷ us) = ap (λ vs. u ∷ vs) (none_replaced us)

-- the type of one more use is noted
pub type-next : (us : List (Bor Qual)) (i : ℕ) (u : Bor Qual) (name : List ℕ) (old new all : Bool) → i < length us → u ≡ get_or us i u
    → new ≡ cond (bytes_eq u.now.name name) true old
    → (old || uses_one (uses_in (drop i us)) name) ≡ all
    → (new || uses_one (uses_in (drop (i + 1) us)) name) ≡ all
type-next us i u name old new all lt is noted before =
    ap (λ b. b || left) (noted ∙ either (bytes_eq u.now.name name) old ∙ ap (λ b. old || b) (bytes_eq-turned u.now.name name))
    ∙ or_assoc old (bytes_eq name u.now.name) left
    ∙ ap (λ v. old || uses_one (uses_in (v ∷ drop (i + 1) us)) name) is
    ∙ sym (at_drop_more (λ vs. old || uses_one (uses_in vs) name) us i u lt)
    ∙ before
  where
    left : Bool
    left = uses_one (uses_in (drop (i + 1) us)) name

    either : (b c : Bool) → cond b true c ≡ (c || b)
    either true true = refl
    either true false = refl
    either false true = refl
    either false false = refl
