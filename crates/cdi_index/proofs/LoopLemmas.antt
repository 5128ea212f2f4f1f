-- The steps of loops over declarations, their words and their slots.
use Rattle.cdi_index.proofs.Common.{◌≡◌, ℕ, Bool, true, ◌&&◌, List, [], ◌∷◌, map, Option, Some, None, refl, sym, ap, ◌∙◌, list_any, Decl}
use Rattle.cdi_index.proofs.Common.{DeclKey, Made, made_of, ◌++◌, and_from, or_cases, or_left, or_right, inl, inr, Word, Listing, same_word}
use Rattle.cdi_index.proofs.Common.{words_have, suc, ◌+◌, length, slice_get, Change, change_of, ◌<◌, nat_eq, ◌⊎◌, is_listed, zero, get_or}
use Rattle.cdi_index.proofs.Common.{take, list_any_more, Lists, Keeps, classes_have, has_word, keys_have, nat_eq-refl, arith}
use Rattle.std.proofs.lemmas.List.{map-append, take_more}

-- ---- what is listed stays

pub keeps-list : (word : Word) (slot : ℕ) (a b c : List Listing) → Keeps a b → Lists word slot b c → Keeps a c
keeps-list word slot a b c kept lists w s h = lists w s ∙ or_left (is_listed b w s) (same_word word w && nat_eq slot s) (kept w s h)

pub keeps-then : (a b c : List Listing) → Keeps a b → Keeps b c → Keeps a c
keeps-then a b c first then w s h = then w s (first w s h)

-- a slot is listed under the word of one more
pub words-next : {X : Type 0} (word : X → Word) (xs : List X) (i : ℕ) (x : X) (slot : ℕ) (b c : List Listing) → i < length xs
    → x ≡ get_or xs i x → Lists (word x) slot b c
    → ((w : Word) → list_any (λ y. same_word (word y) w) (take i xs) ≡ true → is_listed b w slot ≡ true)
    → (w : Word) → list_any (λ y. same_word (word y) w) (take (i + 1) xs) ≡ true → is_listed c w slot ≡ true
words-next {X = X} word xs i x slot b c lt at lists before w h =
    let p : X → Bool = λ y. same_word (word y) w in
    lists w slot
    ∙ elim (or_cases (list_any p (take i xs)) (p (get_or xs i x)) (sym (list_any_more p xs i x lt) ∙ h)) [
      | inl first ↦ or_left (is_listed b w slot) (same_word (word x) w && nat_eq slot slot) (before w first)
      | inr last ↦ or_right (is_listed b w slot) (same_word (word x) w && nat_eq slot slot)
          (and_from (same_word (word x) w) (nat_eq slot slot) (ap p at ∙ last) (nat_eq-refl slot))
    ]

-- it is listed under the words of keys, then under those of classes, and then under others
pub words-all : (made : Made) (slot : ℕ) (b c e : List Listing) → Keeps b c → Keeps c e
    → ((w : Word) → keys_have made.reads w ≡ true → is_listed b w slot ≡ true)
    → ((w : Word) → classes_have made.replaces w ≡ true → is_listed c w slot ≡ true)
    → ((w : Word) → words_have made.words w ≡ true → is_listed e w slot ≡ true)
    → (w : Word) → has_word (Some made) w ≡ true → is_listed e w slot ≡ true
words-all made slot b c e first second keys classes words w h = grind (arith, made.reads, made.replaces, made.words)

-- ---- changes

-- what stands at a place of a list, with one more at its end
get-last : {X : Type 0} (xs : List X) (x : X) (i : ℕ) (y : X) → slice_get (xs ++ x ∷ []) i ≡ Some y
    → (slice_get xs i ≡ Some y) ⊎ ((i ≡ length xs) × (x ≡ y))
get-last [] x zero y e = inr (refl, (let one : Some x ≡ Some y = e in cc))
get-last [] x (suc i) y e = absurd (let no : None ≡ Some y = e in cc)
get-last (z ∷ xs) x zero y e = inl e
get-last (z ∷ xs) x (suc i) y e = grind (arith, get-last xs x i y e)

-- one more slot is listed under the words of what is made of the next declaration
pub keys-next : (es : List Decl) (keys : List DeclKey) (i : ℕ) (key : DeclKey) (made : Option Made) (first slot : ℕ)
    (b c : List Listing) → i < length keys → key ≡ get_or keys i key → made ≡ made_of es key → slot ≡ first + length (take i keys)
    → Keeps b c → ((w : Word) → has_word made w ≡ true → is_listed c w slot ≡ true)
    → ((w : Word) (j : ℕ) (k : DeclKey) → slice_get (take i keys) j ≡ Some k → has_word (made_of es k) w ≡ true
    → is_listed b w (first + j) ≡ true)
    → (w : Word) (j : ℕ) (k : DeclKey) → slice_get (take (i + 1) keys) j ≡ Some k → has_word (made_of es k) w ≡ true
    → is_listed c w (first + j) ≡ true
keys-next es keys i key made first slot b c lt at is number kept listed before w j k there has =
    elim (get-last (take i keys) (get_or keys i key) j k (ap (λ l. slice_get l j) (sym (take_more keys i key lt)) ∙ there)) [
      | inl old ↦ kept w (first + j) (before w j k old has)
      | inr last ↦
          ap (is_listed c w) (ap (λ n. first + n) last.0 ∙ sym number)
          ∙ listed w (ap (λ m. has_word m w) is ∙ ap (λ x. has_word (made_of es x) w) (at ∙ last.1) ∙ has)
    ]

-- and the change of it comes after those before
pub changes-next : (es : List Decl) (numbers : DeclKey → ℕ) (keys : List DeclKey) (i : ℕ) (key : DeclKey) (n : ℕ) (made : Option Made)
    (olds news : List Change) → i < length keys → key ≡ get_or keys i key → made ≡ made_of es key → n ≡ numbers key
    → news ≡ olds ++ record { key = key; number = n; made = made } ∷ [] → olds ≡ map (change_of es numbers) (take i keys)
    → news ≡ map (change_of es numbers) (take (i + 1) keys)
changes-next es numbers keys i key n made olds news lt at is number pushed before =
    let change : ℕ → Option Made → Change = λ j m. record { key = key; number = j; made = m } in
    pushed ∙ ap (λ m. olds ++ change n m ∷ []) is ∙ ap (λ j. olds ++ change j (made_of es key) ∷ []) number
    ∙ ap (λ cs. cs ++ change_of es numbers key ∷ []) before
    ∙ ap (λ k. map (change_of es numbers) (take i keys) ++ change_of es numbers k ∷ []) at
    ∙ sym (map-append (change_of es numbers) (take i keys) (get_or keys i key ∷ []))
    ∙ ap (map (change_of es numbers)) (sym (take_more keys i key lt))
