-- The uses and the events that texts spell are of a form that they have.
use Rattle.std.proofs.Common.{arith, ◌≡◌, ℕ, Bool, true, false, not, ◌||◌, List, [], ◌∷◌, codes, Option, Some, None, unwrap_or, refl, ap}
use Rattle.std.proofs.Common.{◌∙◌, inl, inr, Ordering, Less, Equal, Greater}
use Rattle.std.proofs.lemmas.Bool.{and_parts, cases_Bool, false≢true, not-true, not_from_true, or_from, or_parts}
use Rattle.std.specs.{Prelude.ℤ, Cmp.Lexicographic.bytes_decides, List.list_any, Str.bytes_eq}
use Rattle.std.proofs.lemmas.Option.{none-some}
use Rattle.cdi_model.specs.{Bytes.byte_order, Bytes.comma, Bytes.opening, Grammar.is_name, Mentions.of_event, Quals.put_use}
use Rattle.cdi_model.specs.declared.quals.Qual.{Qual}
use Rattle.cdi_model.specs.declared.decl.UseKind.TheVariants as uses
use Rattle.cdi_model.specs.declared.quals.Arguments.TheVariants as arguments
use Rattle.cdi_uses.specs.{Events.event_of, Events.is_event, Events.is_event_use, Pieces.cut, Pieces.split}
use Rattle.cdi_uses.specs.Uses.{are_pairs, arguments_in, arguments_inside, before_close, is_inside, is_named, is_own_use, is_plain, is_use}
use Rattle.cdi_uses.specs.Uses.{is_use_of, quals_from, use_name, use_of}
use Rattle.cdi_admission.proofs.AnyLemmas.{HasNone, none-all, none-map}
use Rattle.cdi_admission.specs.Admission.{is_malformed, is_no_use, is_of_default, is_of_named}

-- ---- a use

-- members, after a name that is none of the built-in ones
plain-use : (name : List ℕ) (ms : List (List ℕ × ℤ)) → is_named name ≡ false → is_plain name ≡ false
    → is_no_use (record { name = name; arguments = arguments.Members ms }) ≡ false
plain-use name [] other plain = other
plain-use name (m ∷ ms) other plain = or_from (is_named name) (is_plain name) other plain

inside : (name inner : List ℕ) → is_inside name (Some inner) ≡ true
    → is_no_use (record { name = name; arguments = arguments_inside name inner }) ≡ false
inside name inner h = grind (arith, not_from_true, plain-use, not-true)

use-in : (name : List ℕ) (rest : Option (List ℕ)) → is_use_of name rest ≡ true
    → is_no_use (record { name = name; arguments = arguments_in name rest }) ≡ false
use-in name None h = not-true (is_named name) (and_parts (is_name name) (not (is_named name)) h).1
use-in name (Some rest) h = by (before_close rest) (and_parts (is_name name) (is_inside name (before_close rest)) h).1
  where
    by : (o : Option (List ℕ)) → is_inside name o ≡ true
        → is_no_use (record { name = name; arguments = arguments_inside name (unwrap_or o []) }) ≡ false
    by None h = absurd (false≢true h)
    by (Some inner) h = inside name inner h

-- what a text of a use says is a use
pub spelt : (s : List ℕ) → is_use s ≡ true → is_no_use (use_of s) ≡ false
spelt s h = use-in (cut opening s).0 (cut opening s).1 h

-- what a bean may declare is none of `Named`
pub spelt-own : (s : List ℕ) → is_own_use s ≡ true → is_of_named (use_of s) ≡ false
spelt-own s h = not-true (is_named (use_name s)) (and_parts (is_use s) (not (is_named (use_name s))) h).1

-- a text that is not cut
whole : (byte : ℕ) (s : List ℕ) → (cut byte s).1 ≡ None → (cut byte s).0 ≡ s
whole byte [] e = refl
whole byte (x ∷ xs) e = grind (arith, whole byte xs, none-some)

not-plain : (name : List ℕ) (o : Option (List ℕ)) → is_inside name o ≡ true → bytes_eq name (codes "Default") ≡ false
not-plain name None h = absurd (false≢true h)
not-plain name (Some inner) h = elim (cases_Bool (is_named name)) [
  | inl named ↦ rw ((bytes_decides name (codes "Named")).0 named) refl
  | inr other ↦
      let plain = and_parts (not (is_plain name)) (are_pairs (split comma inner)) (rw other at h) in
      (or_parts (bytes_eq name (codes "Any")) (bytes_eq name (codes "Default")) (not-true (is_plain name) plain.0)).1
]

-- what an event may have is none of `Default`
pub spelt-event_use : (s : List ℕ) → is_event_use s ≡ true → is_of_default (use_of s) ≡ false
spelt-event_use s h = by (cut opening s).1 refl
  where
    both : (is_use s ≡ true) × (not (bytes_eq s (codes "Default")) ≡ true)
    both = and_parts (is_use s) (not (bytes_eq s (codes "Default"))) h

    by : (rest : Option (List ℕ)) → (cut opening s).1 ≡ rest → bytes_eq (use_name s) (codes "Default") ≡ false
    by None e = ap (λ t. bytes_eq t (codes "Default")) (whole opening s e) ∙ not-true (bytes_eq s (codes "Default")) both.1
    by (Some rest) e =
        let used = and_parts (is_name (use_name s)) (is_inside (use_name s) (before_close rest)) (rw e at both.0) in
        not-plain (use_name s) (before_close rest) used.1

-- ---- uses

none-put : (bad : Qual → Bool) (us : List Qual) (u : Qual) → HasNone bad us → bad u ≡ false → HasNone bad (put_use us u)
none-put bad [] u none good = or_from (bad u) false good refl
none-put bad (v ∷ vs) u none good =
    by (byte_order u.name v.name) refl (or_parts (bad v) (list_any bad vs) none)
    (none-put bad vs u (or_parts (bad v) (list_any bad vs) none).1 good)
  where
    by : (o : Ordering) → byte_order u.name v.name ≡ o → (bad v ≡ false) × HasNone bad vs → HasNone bad (put_use vs u)
        → HasNone bad (put_use (v ∷ vs) u)
    by Less e apart rest = rw e (or_from (bad u) (bad v || list_any bad vs) good none)
    by Equal e apart rest = rw e (or_from (bad u) (list_any bad vs) good apart.1)
    by Greater e apart rest = rw e (or_from (bad v) (list_any bad (put_use vs u)) apart.0 rest)

-- the uses that some texts say
pub none-from : (bad : Qual → Bool) (us : List Qual) (ts : List (List ℕ)) → HasNone bad us → HasNone (λ t. bad (use_of t)) ts
    → HasNone bad (quals_from us ts)
none-from bad us [] none each = none
none-from bad us (t ∷ ts) none each =
    let apart = or_parts (bad (use_of t)) (list_any (λ t. bad (use_of t)) ts) each in
    none-from bad (put_use us (use_of t)) ts (none-put bad us (use_of t) none apart.0) apart.1

-- ---- an event

event-uses : (bad : Qual → Bool) → ((t : List ℕ) → is_event_use t ≡ true → bad (use_of t) ≡ false) → (s : List ℕ) → is_event s ≡ true
    → HasNone bad (event_of s).qualifiers
event-uses bad each s h = grind (arith, none-from, none-all)

-- an event that a text says
pub spelt-event : (s : List ℕ) → is_event s ≡ true → HasNone is_malformed (of_event (event_of s))
spelt-event s h = grind (arith, or_from, event-uses, spelt-event_use, none-map, spelt)
