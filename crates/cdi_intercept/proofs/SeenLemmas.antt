-- A chain rests on the bindings at its place, the declarations of their types, and the interceptors that share one of these.
use Rattle.std.proofs.Common.{arith, ◌≡◌, ℕ, Bool, true, false, not, ◌&&◌, ◌||◌, List, [], ◌∷◌, ◌++◌, length, map, filter, nat_eq, Option}
use Rattle.std.proofs.Common.{Some, None, is_some, option_map, unwrap_or, Ok, refl, sym, ap, ◌∙◌, inl, inr}
use Rattle.std.proofs.lemmas.Bool.{false≢true, or_cases, or_left, or_right, and_parts}
use Rattle.std.specs.{List.list_all, List.list_any, Map.keys_of, Option.option_eq, Str.bytes_eq}
use Rattle.std.proofs.{Math.Bool.and-false, Math.Bool.and-true, lemmas.List.length-map, lemmas.List.Elements.filter_agree}
use Rattle.base_lists.proofs.Filters.{filter-both}
use Rattle.base_numbers.proofs.Texts.{one_text, bytes_eq-turned}
use Rattle.cdi_model.specs.declared.decl.{BeanDecl.BeanDecl, BindingDecl.BindingDecl, Decl.Decl, InterceptorDecl.InterceptorDecl}
use Rattle.cdi_model.specs.declared.{decl.MemberDecl.MemberDecl, place.BeanPlace.BeanPlace, quals.Qual.Qual}
use Rattle.cdi_model.specs.declared.decl.UseKind.TheVariants as use_kinds
use Rattle.cdi_match.specs.Covering.{agree, agree_at, covers, covers_by, given_name, is_binding}
use Rattle.cdi_match.specs.Filling.{declared_of, fill, find_binding, value_of}
use Rattle.cdi_match.specs.Filled.{FilledUse, filled, filled_by}
use Rattle.cdi_effective.specs.{Qualifiers.uses_one}
use Rattle.cdi_intercept.proofs.UseLemmas.{any-in_text_order}
use Rattle.cdi_intercept.specs.Chains.{binds, chain_by, chain_told, covered_in, in_order, part_for, surrounds}
use Rattle.cdi_intercept.specs.Sees.{SeenInterceptor, seen_interceptor, shares_type, is_seen, Seen, sees, names_around, ChainRestsOnSeen}
use Rattle.cdi_intercept.specs.Sees.{ToldRestsOnSeen}
use Rattle.cdi_intercept.specs.{Bindings.in_text_order, Bindings.set_of}

-- ---- covering by filled bindings

abbrev members_of : Option BindingDecl → List MemberDecl
members_of declared = unwrap_or (option_map (λ d. d.members) declared) []

abbrev covers_filled : Option BindingDecl → FilledUse → FilledUse → Bool
covers_filled declared have want =
    bytes_eq have.name want.name && (option_eq bytes_eq have.given want.given
    && list_all (agree_at (is_binding (members_of declared)) (λ name. value_of name have.values) (λ name. value_of name want.values))
    (keys_of have.values ++ keys_of want.values))

-- the other is filled by the same declaration, as they have one name where the one covers it
covers-filled : (ds : List Decl) (have want : Qual)
    → covers ds use_kinds.Binding have want ≡ covers_filled (find_binding have.name ds) (filled ds use_kinds.Binding have)
    (filled ds use_kinds.Binding want)
unfolding covers_by
covers-filled ds have want = by (bytes_eq have.name want.name) refl
  where
    agree_where : List MemberDecl → Bool
    agree_where others =
        option_eq bytes_eq (given_name have.arguments) (given_name want.arguments)
        && list_all (agree_at (is_binding (members_of (find_binding have.name ds)))
        (λ name. value_of name (fill (members_of (find_binding have.name ds)) have)) (λ name. value_of name (fill others want)))
        (keys_of (fill (members_of (find_binding have.name ds)) have) ++ keys_of (fill others want))

    by : (b : Bool) → bytes_eq have.name want.name ≡ b
        → covers ds use_kinds.Binding have want ≡ covers_filled (find_binding have.name ds) (filled ds use_kinds.Binding have)
        (filled ds use_kinds.Binding want)
    by true e = ap (λ name. bytes_eq have.name want.name && agree_where (members_of (find_binding name ds)))
        (one_text have.name want.name e)
    by false e = rw e refl

-- the first declaration is that of the first binding, and so on
abbrev is_covered : List (Option BindingDecl) → List Qual → FilledUse → Bool
is_covered [] set want = false
is_covered (declared ∷ more) [] want = false
is_covered (declared ∷ more) (have ∷ set) want =
    covers_filled declared (filled_by (members_of declared) have) want || is_covered more set want

any-filled : (ds : List Decl) (set : List Qual) (want : Qual)
    → covered_in ds set want ≡ is_covered (map (λ u. find_binding u.name ds) set) set (filled ds use_kinds.Binding want)
any-filled ds [] want = refl
any-filled ds (have ∷ set) want = rw (covers-filled ds have want, any-filled ds set want) refl

covered-seen : (ds : List Decl) (set : List Qual) (place : BeanPlace) (want : Qual)
    → covered_in ds set want ≡ is_covered (sees ds set place).declared (sees ds set place).bindings (filled ds use_kinds.Binding want)
covered-seen ds set place want =
    sym (any-in_text_order (λ have. covers ds use_kinds.Binding have want) set) ∙ any-filled ds (in_text_order set) want

-- ---- which of the interceptors that are seen bind

abbrev binds_seen : Seen → SeenInterceptor → Bool
binds_seen seen i = not (nat_eq (length i.bindings) 0) && list_all (is_covered seen.declared seen.bindings) i.bindings

all-covered : (ds : List Decl) (set : List Qual) (place : BeanPlace) (bindings : List Qual)
    → list_all (covered_in ds set) bindings
    ≡ list_all (is_covered (sees ds set place).declared (sees ds set place).bindings) (map (filled ds use_kinds.Binding) bindings)
all-covered ds set place [] = refl
all-covered ds set place (u ∷ us) =
    ap (λ b. b && list_all (covered_in ds set) us) (covered-seen ds set place u)
    ∙ ap (λ b. is_covered (sees ds set place).declared (sees ds set place).bindings (filled ds use_kinds.Binding u) && b)
    (all-covered ds set place us)

binds-seen : (ds : List Decl) (set : List Qual) (place : BeanPlace) (i : InterceptorDecl)
    → binds ds set i ≡ binds_seen (sees ds set place) (seen_interceptor ds i)
binds-seen ds set place i =
    ap (λ n. not (nat_eq n 0) && list_all (covered_in ds set) i.bindings) (sym (length-map i.bindings (filled ds use_kinds.Binding)))
    ∙ ap (λ b. not (nat_eq (length (map (filled ds use_kinds.Binding) i.bindings)) 0) && b) (all-covered ds set place i.bindings)

-- ---- an interceptor that binds is seen

pub covered-used : (ds : List Decl) (set : List Qual) (want : Qual) → covered_in ds set want ≡ true → uses_one set want.name ≡ true
unfolding covers_by
covered-used ds [] want h = h
covered-used ds (have ∷ set) want h =
    elim (or_cases (covers ds use_kinds.Binding have want) (covered_in ds set want) h) [
      | inl here ↦ or_left (bytes_eq want.name have.name) (uses_one set want.name)
          (bytes_eq-turned want.name have.name ∙ (and_parts (bytes_eq have.name want.name) (rest have) here).0)
      | inr there ↦ or_right (bytes_eq want.name have.name) (uses_one set want.name) (covered-used ds set want there)
    ]
  where
    -- what is said beside the names
    rest : Qual → Bool
    rest u = option_eq bytes_eq (given_name u.arguments) (given_name want.arguments) && agree
        (declared_of ds use_kinds.Binding u.name) u want

abbrev shares_type_of : List Qual → List Qual → Bool
shares_type_of list bindings = list_any (λ u. uses_one list u.name) bindings

first-shared : (ds : List Decl) (set bindings : List Qual) → (not (nat_eq (length bindings) 0) && list_all (covered_in ds set) bindings)
    ≡ true
    → shares_type_of (in_text_order set) bindings ≡ true
first-shared ds set [] h = absurd (false≢true h)
first-shared ds set (u ∷ us) h = grind (arith, u.name, any-in_text_order, covered-used)

surrounds-seen : (ds : List Decl) (set : List Qual) (place : BeanPlace) (i : InterceptorDecl)
    → surrounds ds set place i ≡ (is_seen (in_text_order set) place i && binds_seen (sees ds set place) (seen_interceptor ds i))
surrounds-seen ds set place i = by (binds ds set i) refl
    ∙ ap (λ b. is_seen (in_text_order set) place i && b) (binds-seen ds set place i)
  where
    part : Bool
    part = is_some (part_for place i)

    by : (b : Bool) → binds ds set i ≡ b → (part && binds ds set i) ≡ ((part && shares_type (in_text_order set) i) && binds ds set i)
    by true e = ap (λ b. b && binds ds set i) (sym (and-true part) ∙ ap (λ b. part && b) (sym (first-shared ds set i.bindings e)))
    by false e = rw e (and-false part ∙ sym (and-false (part && shares_type (in_text_order set) i)))

-- ---- the chain among what is seen

names-seen : (ds : List Decl) (r : SeenInterceptor → Bool) (is : List InterceptorDecl)
    → map (λ i. i.name) (filter (λ i. r (seen_interceptor ds i)) is) ≡ map (λ i. i.name) (filter r (map (seen_interceptor ds) is))
names-seen ds r [] = refl
names-seen ds r (i ∷ is) = grind (arith, names-seen ds r is, i.name)

abbrev names_of_seen : Seen → List (List ℕ)
names_of_seen seen = map (λ i. i.name) (filter (binds_seen seen) seen.interceptors)

chain-seen : (ds : List Decl) (set : List Qual) (place : BeanPlace) → names_around ds set place ≡ names_of_seen (sees ds set place)
unfolding chain_by
chain-seen ds set place =
    let seen : Seen = sees ds set place in
    ap (map (λ i. i.name))
    (filter_agree (surrounds ds set place) (λ i. is_seen (in_text_order set) place i && binds_seen seen (seen_interceptor ds i))
    (surrounds-seen ds set place) (in_order ds)
    ∙ filter-both (is_seen (in_text_order set) place) (λ i. binds_seen seen (seen_interceptor ds i)) (in_order ds))
    ∙ names-seen ds (binds_seen seen) (filter (is_seen (in_text_order set) place) (in_order ds))

-- where the same is seen, the chain is the same
pub chain_rests_on_seen : ChainRestsOnSeen
chain_rests_on_seen ds es set others place same =
    chain-seen ds set place ∙ ap names_of_seen same ∙ sym (chain-seen es others place)

-- what is told is the chain with the bindings that are there
told-around : (ds : List Decl) (found : Option BeanDecl) (place : BeanPlace) (names : List (List ℕ))
    → chain_told ds found place ≡ Ok names → names ≡ names_around ds (set_of ds found place) place
told-around ds None place names e = cc
told-around ds (Some bean) place names e = grind arith

pub told_rests_on_seen : ToldRestsOnSeen
told_rests_on_seen ds es class place names others same told told' = grind (arith, told-around, chain_rests_on_seen)

-- the laws of an evaluation
pub ruleset of_evaluations = (chain_rests_on_seen, told_rests_on_seen)
