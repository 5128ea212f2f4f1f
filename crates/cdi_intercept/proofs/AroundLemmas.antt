-- Whether one stands around some place: by the interceptors in order, and by the places.
use Rattle.std.proofs.Common.{◌≡◌, Bool, not, ◌||◌, List, [], ◌∷◌, length, map, filter, nat_eq, refl, sym, ap, ◌∙◌}
use Rattle.std.specs.List.{list_any}
use Rattle.base_lists.proofs.Any.{any-same, any-or, any-none, any-left}
use Rattle.base_lists.specs.Sorting.{sorted_by}
use Rattle.base_lists.proofs.Sorting.{any-sorted}
use Rattle.cdi_model.specs.declared.{decl.BeanDecl.BeanDecl, decl.Decl.Decl, decl.InterceptorDecl.InterceptorDecl, quals.Qual.Qual}
use Rattle.cdi_model.specs.declared.place.BeanPlace.{BeanPlace}
use Rattle.cdi_intercept.specs.Chains.{around_any, in_order, interceptors, is_before, is_enabled, surrounds, surrounds_one}
use Rattle.cdi_intercept.specs.Sets.{places_of, set_by, sets_of, with_set}

-- two lists may be gone through in either order
any-turned : {X Y : Type 0} (q : X → Y → Bool) (xs : List X) (ys : List Y)
    → list_any (λ x. list_any (q x) ys) xs ≡ list_any (λ y. list_any (λ x. q x y) xs) ys
any-turned q [] ys = sym (any-none ys)
any-turned q (x ∷ xs) ys = ap (λ b. list_any (q x) ys || b) (any-turned q xs ys)
    ∙ sym (any-or (q x) (λ y. list_any (λ z. q z y) xs) ys)

-- places with the bindings there
pub any-sets : (ds : List Decl) (class : List Qual) (bean : BeanDecl) (i : InterceptorDecl) (places : List BeanPlace)
    → surrounds_one ds (map (with_set ds class bean) places) i ≡ list_any (λ p. surrounds ds (set_by ds class bean p) p i) places
any-sets ds class bean i [] = refl
any-sets ds class bean i (p ∷ ps) = ap (λ b. surrounds ds (set_by ds class bean p) p i || b) (any-sets ds class bean i ps)

-- one that is enabled stands around a place of a bean whose class has these bindings
abbrev pub is_around : List Decl → List Qual → BeanDecl → BeanPlace → Bool
is_around ds class bean place = list_any (surrounds ds (set_by ds class bean place) place) (filter is_enabled (interceptors ds))

-- one stands around some place just where there is one around any
pub intercepted-by_places : (ds : List Decl) (class : List Qual) (bean : BeanDecl)
    → list_any (is_around ds class bean) (places_of bean) ≡ not (nat_eq (length (around_any ds class bean)) 0)
unfolding around_any in_order
intercepted-by_places ds class bean =
    let is = filter is_enabled (interceptors ds) in
    any-turned (λ (p : BeanPlace) (i : InterceptorDecl). surrounds ds (set_by ds class bean p) p i) (places_of bean) is
    ∙ any-same _ _ is (λ i. sym (any-sets ds class bean i (places_of bean)))
    ∙ sym (any-sorted is_before (surrounds_one ds (sets_of ds class bean)) is)
    ∙ sym (any-left (surrounds_one ds (sets_of ds class bean)) (sorted_by is_before is))
