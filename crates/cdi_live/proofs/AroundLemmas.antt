-- The interceptors around a place are among those that its chain sees.
use Rattle.cdi_live.proofs.Common.{◌≡◌, true, not, ◌&&◌, List, [], ◌∷◌, length, map, filter, nat_eq, is_some, refl, sym, ap, ◌∙◌, list_all}
use Rattle.cdi_live.proofs.Common.{list_any, false≢true, Decl, InterceptorDecl, BeanPlace, Qual, uses_one, in_text_order, chain_by}
use Rattle.cdi_live.proofs.Common.{in_order, part_for, surrounds, is_seen, names_around, any-in_text_order, arith}
use Rattle.std.proofs.lemmas.List.Elements.{filter_agree}
use Rattle.base_lists.proofs.Filters.{filter-both}
use Rattle.cdi_model.specs.declared.decl.UseKind.TheVariants as use_kinds
use Rattle.cdi_match.specs.Covering.{covers}
use Rattle.cdi_intercept.specs.Chains.{covered_in}
use Rattle.cdi_intercept.proofs.SeenLemmas.{covered-used}

-- one that binds shares a type
first-shared : (ds : List Decl) (set bindings : List Qual) → (not (nat_eq (length bindings) 0) && list_all (covered_in ds set) bindings)
    ≡ true
    → list_any (λ u. uses_one set u.name) bindings ≡ true
first-shared ds set [] h = absurd (false≢true h)
first-shared ds set (u ∷ us) h = grind (arith, u.name, covered-used)

-- so what surrounds a place is seen there
seen-too : (ds : List Decl) (set : List Qual) (place : BeanPlace) (i : InterceptorDecl)
    → (is_seen set place i && surrounds ds set place i) ≡ surrounds ds set place i
seen-too ds set place i = grind (arith, i.bindings, first-shared)

-- the order of the bindings does not count
any-order : (ds : List Decl) (set us : List Qual) → list_all (covered_in ds (in_text_order set)) us ≡ list_all (covered_in ds set) us
any-order ds set [] = refl
any-order ds set (u ∷ us) = λ i. any-in_text_order (λ have. covers ds use_kinds.Binding have u) set i && any-order ds set us i

surrounds-any : (ds : List Decl) (set : List Qual) (place : BeanPlace) (i : InterceptorDecl)
    → surrounds ds (in_text_order set) place i ≡ surrounds ds set place i
surrounds-any ds set place i =
    ap (λ b. is_some (part_for place i) && (not (nat_eq (length i.bindings) 0) && b)) (any-order ds set i.bindings)

around-seen : (ds : List Decl) (set : List Qual) (place : BeanPlace)
    → map (λ i. i.name) (filter (surrounds ds (in_text_order set) place) (filter (is_seen (in_text_order set) place) (in_order ds)))
    ≡ names_around ds set place
unfolding chain_by
around-seen ds set place =
    let list : List Qual = in_text_order set in
    ap (map (λ i. i.name))
    (sym (filter-both (is_seen list place) (surrounds ds list place) (in_order ds))
    ∙ filter_agree (λ i. is_seen list place i && surrounds ds list place i) (surrounds ds set place)
    (λ i. seen-too ds list place i ∙ surrounds-any ds set place i) (in_order ds))

-- they are those that surround it of any interceptors of which it sees the same
pub around-found : (ds : List Decl) (set list : List Qual) (place : BeanPlace) (found : List InterceptorDecl) → list ≡ in_text_order set
    → filter (is_seen list place) found ≡ filter (is_seen list place) (in_order ds)
    → map (λ i. i.name) (filter (surrounds ds list place) found) ≡ names_around ds set place
around-found ds set list place found is same =
    ap (map (λ i. i.name))
    (sym (filter_agree (λ i. is_seen list place i && surrounds ds list place i) (surrounds ds list place) (seen-too ds list place) found)
    ∙ filter-both (is_seen list place) (surrounds ds list place) found
    ∙ ap (filter (surrounds ds list place)) same)
    ∙ ap (λ us. map (λ i. i.name) (filter (surrounds ds us place) (filter (is_seen us place) (in_order ds)))) is
    ∙ around-seen ds set place
