-- The test of brought binding types is the relation, and their list has just these.
use Rattle.cdi_match.proofs.Common.{◌≡◌, ℕ, true, List, [], ◌∷◌, ◌++◌, flat_map, refl, map, sym, ap, ◌∙◌, subst, inl, inr, arith, Decides}
use Rattle.cdi_match.proofs.Common.{IsStrictlySortedBy, bytes_eq, false≢true, or_cases, or_left, or_right, one_text, same_text, byte_order}
use Rattle.cdi_match.proofs.Common.{name_of_use, Decl, Qual, brings_type, brought, brought_by, types_brought, with_brought, has, as_binding}
use Rattle.std.specs.List.{Contains}
use Rattle.std.proofs.lemmas.List.Elements.{Contains-append_cases, Contains-append_left, Contains-append_right}
use Rattle.cdi_model.specs.declared.decl.Kind.TheVariants as kinds
use Rattle.cdi_match.proofs.ClosureLemmas.{led_decides, led-has, led-is}
use Rattle.cdi_match.proofs.Listed.{Lists}
use Rattle.cdi_match.specs.Bindings.{BringsType, BroughtAreThese}

-- the types of the uses that a declaration declares
abbrev pub bindings_in : Lists
bindings_in d = map name_of_use (brought_by (as_binding d))

pub brings_type_decides : (ds : List Decl) (types : List (List ℕ)) (b : List ℕ) → Decides (brings_type ds types b) (BringsType ds types b)
unfolding brings_type
brings_type_decides ds types b = led_decides kinds.Binding bindings_in refl ds types b

pub types_brought-has : (ds : List Decl) (types : List (List ℕ)) (b : List ℕ) → has (types_brought ds types) b ≡ brings_type ds types b
unfolding types_brought brings_type
types_brought-has ds types b = led-has kinds.Binding bindings_in refl ds types b

-- a list in order that has just these is the list of them
pub types_brought-is : (ds : List Decl) (types list : List (List ℕ)) → IsStrictlySortedBy byte_order list
    → ((b : List ℕ) → has list b ≡ brings_type ds types b) → list ≡ types_brought ds types
unfolding types_brought brings_type
types_brought-is ds types list rise has_just = led-is kinds.Binding bindings_in refl ds types list rise has_just

-- no use brings none
pub none_brought : (ds : List Decl) (uses : List Qual) → uses ≡ [] → uses ≡ with_brought ds uses
unfolding with_brought brings_type IsStrictlySortedBy
none_brought ds uses none = grind (arith, types_brought-is, flat_map)

-- the uses, and what the declarations of the types declare that they bring
pub brought_behind : (ds : List Decl) (uses : List Qual) (types : List (List ℕ)) → types ≡ types_brought ds (map name_of_use uses)
    → uses ++ flat_map (brought ds) types ≡ with_brought ds uses
unfolding with_brought
brought_behind ds uses types are = ap (λ names. uses ++ flat_map (brought ds) names) are

-- a use that is read off one of some names
read-off : (f : List ℕ → List Qual) (names : List (List ℕ)) (u : Qual) → Contains (flat_map f names) u
    → (b : List ℕ) × (has names b ≡ true) × Contains (f b) u
read-off f [] u c = absurd (omega (arith, c.1))
read-off f (n ∷ ns) u c = elim (Contains-append_cases (f n) (flat_map f ns) u c) [
  | inl here ↦ (n, or_left (bytes_eq n n) (has ns n) (same_text n n refl), here)
  | inr later ↦ (let rest = read-off f ns u later in (rest.0, or_right (bytes_eq n rest.0) (has ns rest.0) rest.1, rest.2))
]

is-read : (f : List ℕ → List Qual) (names : List (List ℕ)) (b : List ℕ) (u : Qual) → has names b ≡ true → Contains (f b) u
    → Contains (flat_map f names) u
is-read f [] b u among c = absurd (false≢true among)
is-read f (n ∷ ns) b u among c = elim (or_cases (bytes_eq n b) (has ns b) among) [
  | inl is ↦ Contains-append_left (f n) (flat_map f ns) u (subst (λ x. Contains (f x) u) (sym (one_text n b is)) c)
  | inr later ↦ Contains-append_right (f n) (flat_map f ns) u (is-read f ns b u later c)
]

pub brought_are_these : BroughtAreThese
unfolding with_brought
brought_are_these ds uses u =
    let types : List (List ℕ) = types_brought ds (map name_of_use uses) in
    let brings = brings_type_decides ds (map name_of_use uses) in (
      λ among. elim (Contains-append_cases uses (flat_map (brought ds) types) u among) [
        | inl own ↦ inl own
        | inr more ↦ (let from = read-off (brought ds) types u more in
            inr (from.0, (brings from.0).0 (sym (types_brought-has ds (map name_of_use uses) from.0) ∙ from.1), from.2))
      ],
      λ has_it. elim has_it [
        | inl own ↦ Contains-append_left uses (flat_map (brought ds) types) u own
        | inr from ↦ Contains-append_right uses (flat_map (brought ds) types) u
            (is-read (brought ds) types from.0 u (types_brought-has ds (map name_of_use uses) from.0 ∙ (brings from.0).1 from.1) from.2)
      ],
    )
