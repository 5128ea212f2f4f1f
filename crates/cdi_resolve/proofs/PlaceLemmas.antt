-- The places of beans, noted one bean after another.
use Rattle.std.proofs.Common.{arith, ◌≡◌, ◌<◌, ◌+◌, ℕ, Bool, true, false, cond, Less, Option, Some, None, refl, sym, ap, ◌∙◌, subst, List}
use Rattle.std.proofs.Common.{[], ◌∷◌, ◌++◌, length, drop, take, get_or, map, filter, append-nil, append_assoc}
use Rattle.std.specs.{Prelude.All, Prelude.position, List.AllByRecursion, List.position_from, List.slice_get, Option.option_or}
use Rattle.std.specs.{List.Sorted.IsStrictlySortedBy, Str.bytes_eq}
use Rattle.std.proofs.lemmas.List.{at_drop_more, map-append, take_more, Elements.All-from_recursion}
use Rattle.std.proofs.lemmas.Option.{slice_get_read, slice_get_within}
use Rattle.base_numbers.proofs.Texts.{one_text, bytes_eq-turned}
use Rattle.base_options.proofs.Options.{option_or-more}
use Rattle.cdi_model.specs.Bytes.{byte_order}
use Rattle.cdi_match.specs.Chain.{has}
use Rattle.cdi_match.proofs.Names.{at_name}
use Rattle.cdi_effective.specs.{Records.is_of_class, declared.records.Effective.Effective}
use Rattle.cdi_resolve.specs.{Choices.HasEnough, Choices.offers, Places.same_name}

-- a function of what is left of a list, where its next element is known
pub next-left : {X Y : Type 0} (f : List X → Y) (xs : List X) (i : ℕ) (x : X) → i < length xs → x ≡ get_or xs i x
    → f (drop i xs) ≡ f (x ∷ drop (i + 1) xs)
next-left f xs i x lt is = at_drop_more f xs i x lt ∙ ap (λ y. f (y ∷ drop (i + 1) xs)) (sym is)

-- ---- classes

-- the class of one more bean is noted, unless it was
pub class-next : (beans : List Effective) (i : ℕ) (bean : Effective) (class : List ℕ) (old new : Option ℕ) → i < length beans
    → bean ≡ get_or beans i bean
    → new ≡ option_or old (cond (same_name bean.id.class class) (Some i) None)
    → option_or old (position_from (is_of_class class) i (drop i beans)) ≡ position (is_of_class class) beans
    → option_or new (position_from (is_of_class class) (i + 1) (drop (i + 1) beans)) ≡ position (is_of_class class) beans
class-next beans i bean class old new lt is noted before =
    let rest = position_from (is_of_class class) (i + 1) (drop (i + 1) beans) in
    ap (λ o. option_or o rest) noted
    ∙ option_or-more old (same_name bean.id.class class) i rest
    ∙ sym (next-left (λ bs. option_or old (position_from (is_of_class class) i bs)) beans i bean lt is)
    ∙ before

-- ---- types

-- a name that is before others is none of them
pub none-after : (name : List ℕ) (names : List (List ℕ)) → AllByRecursion (λ n. byte_order name n ≡ Less) names → has names name ≡ false
none-after name [] all = refl
none-after name (n ∷ ns) all =
    let other : false ≡ bytes_eq name n = rw all.0 at (at_name name n) in
    rw (bytes_eq-turned n name ∙ sym other) (none-after name ns all.1)

pub rise-next : (names : List (List ℕ)) (i : ℕ) (name : List ℕ) → i < length names → name ≡ get_or names i name
    → IsStrictlySortedBy byte_order (drop i names)
    → AllByRecursion (λ n. byte_order name n ≡ Less) (drop (i + 1) names) × IsStrictlySortedBy byte_order (drop (i + 1) names)
unfolding IsStrictlySortedBy
rise-next names i name lt is rise = subst (IsStrictlySortedBy byte_order) (next-left (λ ns. ns) names i name lt is) rise

-- a place is added for one more name
pub name-next : (names : List (List ℕ)) (i : ℕ) (name t : List ℕ) (place : ℕ) (olds news all : List ℕ) → i < length names
    → name ≡ get_or names i name
    → IsStrictlySortedBy byte_order (drop i names)
    → news ≡ olds ++ cond (same_name name t) (place ∷ []) []
    → olds ++ cond (has (drop i names) t) (place ∷ []) [] ≡ all
    → news ++ cond (has (drop (i + 1) names) t) (place ∷ []) [] ≡ all
name-next names i name t place olds news all lt is rise added before =
    ap (λ ps. ps ++ cond (has (drop (i + 1) names) t) (place ∷ []) []) added
    ∙ by (same_name name t) refl
    ∙ sym (next-left (λ ns. olds ++ cond (has ns t) (place ∷ []) []) names i name lt is)
    ∙ before
  where
    by : (b : Bool) → same_name name t ≡ b
        → (olds ++ cond (same_name name t) (place ∷ []) []) ++ cond (has (drop (i + 1) names) t) (place ∷ []) []
        ≡ olds ++ cond (has (name ∷ drop (i + 1) names) t) (place ∷ []) []
    by true e =
        let none : has (drop (i + 1) names) t ≡ false = ap (has (drop (i + 1) names)) (sym (one_text name t e))
        ∙ none-after name (drop (i + 1) names) (rise-next names i name lt is rise).0 in
        rw (e, none) (append-nil (olds ++ place ∷ []))
    by false e = rw e (ap (λ ps. ps ++ cond (has (drop (i + 1) names) t) (place ∷ []) []) (append-nil olds))

-- the places of one more bean
pub bean-next : (beans : List Effective) (i : ℕ) (bean : Effective) (t : List ℕ) (olds news : List ℕ) (all : List (Option Effective))
    → i < length beans
    → bean ≡ get_or beans i bean
    → news ≡ olds ++ cond (offers t bean) (i ∷ []) []
    → map (slice_get beans) olds ++ map Some (filter (offers t) (drop i beans)) ≡ all
    → map (slice_get beans) news ++ map Some (filter (offers t) (drop (i + 1) beans)) ≡ all
bean-next beans i bean t olds news all lt is added before =
    ap (λ ps. map (slice_get beans) ps ++ left (drop (i + 1) beans)) added
    ∙ by (offers t bean) refl
    ∙ sym (next-left (λ bs. map (slice_get beans) olds ++ left bs) beans i bean lt is)
    ∙ before
  where
    left : List Effective → List (Option Effective)
    left bs = map Some (filter (offers t) bs)

    by : (b : Bool) → offers t bean ≡ b
        → map (slice_get beans) (olds ++ cond (offers t bean) (i ∷ []) []) ++ left (drop (i + 1) beans)
        ≡ map (slice_get beans) olds ++ left (bean ∷ drop (i + 1) beans)
    by true e = rw e (ap (λ ps. ps ++ left (drop (i + 1) beans)) (map-append (slice_get beans) olds (i ∷ []))
        ∙ append_assoc (map (slice_get beans) olds) (slice_get beans i ∷ []) (left (drop (i + 1) beans))
        ∙ ap (λ last. map (slice_get beans) olds ++ last ∷ left (drop (i + 1) beans))
        (slice_get_read beans (length beans) i bean refl lt is))
    by false e = rw e (ap (λ ps. map (slice_get beans) ps ++ left (drop (i + 1) beans)) (append-nil olds))

-- ---- look-ups

-- one more bean is read at its place
pub place-read : {X : Type 0} (value : X → Effective) (beans : List Effective) (places : List ℕ) (i : ℕ)
    (olds news : List X) (new : X) (at : Effective)
    → i < length places
    → get_or places i 0 < length beans
    → at ≡ get_or beans (get_or places i 0) at
    → value new ≡ at
    → news ≡ olds ++ new ∷ []
    → map (λ x. Some (value x)) olds ≡ map (slice_get beans) (take i places)
    → map (λ x. Some (value x)) news ≡ map (slice_get beans) (take (i + 1) places)
place-read value beans places i olds news new at lt within is same pushed before =
    let read : slice_get beans (get_or places i 0) ≡ Some at = slice_get_read beans (length beans) (get_or places i 0) at refl within is in
    ap (map (λ x. Some (value x))) pushed
    ∙ map-append (λ x. Some (value x)) olds (new ∷ [])
    ∙ ap (λ list. list ++ Some (value new) ∷ []) before
    ∙ ap (λ last. map (slice_get beans) (take i places) ++ last ∷ []) (ap Some same ∙ sym read)
    ∙ sym (map-append (slice_get beans) (take i places) (get_or places i 0 ∷ []))
    ∙ ap (map (slice_get beans)) (sym (take_more places i 0 lt))

-- places at which something stands are places of the list
within-all : (beans : List Effective) (places : List ℕ) (found : List Effective) → map (slice_get beans) places ≡ map Some found
    → AllByRecursion (λ place. place < length beans) places
within-all beans [] found e = tt
within-all beans (p ∷ ps) [] e = absurd (cc)
within-all beans (p ∷ ps) (x ∷ xs) e =
    let first : slice_get beans p ≡ Some x = cc in
    let rest : map (slice_get beans) ps ≡ map Some xs = cc in
    (slice_get_within beans p x first, within-all beans ps xs rest)

pub places-within : (beans : List Effective) (places : List ℕ) (found : List Effective) → map (slice_get beans) places ≡ map Some found
    → All (λ place. place < length beans) places
places-within beans places found e = All-from_recursion (λ place. place < length beans) places (within-all beans places found e)

-- values are known by their being there
some-values : {X : Type 0} (value : X → Effective) (xs : List X) (found : List Effective) → map (λ x. Some (value x)) xs ≡ map Some found
    → map value xs ≡ found
some-values value [] [] e = refl
some-values value [] (y ∷ ys) e = absurd (cc)
some-values value (x ∷ xs) [] e = absurd (cc)
some-values value (x ∷ xs) (y ∷ ys) e =
    let first : value x ≡ y = cc in
    let rest : map (λ x. Some (value x)) xs ≡ map Some ys = cc in
    ap (λ z. z ∷ map value xs) first ∙ ap (λ zs. y ∷ zs) (some-values value xs ys rest)

filter-twice : (p : Effective → Bool) (beans : List Effective) → filter p (filter p beans) ≡ filter p beans
filter-twice p [] = refl
filter-twice p (bean ∷ beans) = grind (arith, filter-twice p beans)

-- the beans at the places of a type are enough to choose from
pub places-enough : {X : Type 0} (value : X → Effective) (t : List ℕ) (beans : List Effective) (places : List ℕ) (xs : List X)
    → map (λ x. Some (value x)) xs ≡ map (slice_get beans) places
    → map (slice_get beans) places ≡ map Some (filter (offers t) beans)
    → HasEnough t (map value xs) beans
places-enough value t beans places xs read stand =
    ap (filter (offers t)) (some-values value xs (filter (offers t) beans) (read ∙ stand)) ∙ filter-twice (offers t) beans
