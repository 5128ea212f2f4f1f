-- A text cut at a byte, and put together again.
use Rattle.cdi_uses.proofs.Common.{◌≡◌, ◌≢◌, ℕ, ◌+◌, ◌-◌, ◌<◌, Bool, true, false, cond, List, [], ◌∷◌, ◌++◌, length, take, get_or, Option}
use Rattle.cdi_uses.proofs.Common.{Some, None, refl, ap, sym, ◌∙◌, arith, ◌==◌, AllByRecursion, join_with_byte, eqb-true, false≢true}
use Rattle.cdi_uses.proofs.Common.{none-some, same_Some, closing, cut, split, pieces, before_close}
use Rattle.std.proofs.lemmas.List.{length-append, take_all, take_at, get_or-append-add, take_more}
use Rattle.std.specs.Prelude.{slice_index}
use Rattle.std.proofs.lemmas.Bool.{eq-eqb}
use Rattle.base_numbers.proofs.Numbers.{==-refl}
use Rattle.cdi_uses.proofs.PieceLemmas.{split-cut}

-- the byte doesn't stand in the text
abbrev pub Lacks : ℕ → List ℕ → Type 0
Lacks byte text = AllByRecursion (λ c. (c == byte) ≡ false) text

pub cut-none : (byte : ℕ) (text : List ℕ) → Lacks byte text → cut byte text ≡ (text, None)
cut-none byte [] h = refl
cut-none byte (x ∷ xs) h = rw (h.0, cut-none byte xs h.1) refl

pub cut-at : (byte : ℕ) (front rest : List ℕ) → Lacks byte front → cut byte (front ++ byte ∷ rest) ≡ (front, Some rest)
cut-at byte [] rest h = rw (==-refl byte) refl
cut-at byte (x ∷ xs) rest h = rw (h.0, cut-at byte xs rest h.1) refl

-- the parts of a cut text, put together
abbrev pub rejoined : ℕ → List ℕ → Option (List ℕ) → List ℕ
rejoined byte front None = front
rejoined byte front (Some rest) = front ++ byte ∷ rest

rejoined-cons : (byte x : ℕ) (front : List ℕ) (rest : Option (List ℕ)) → rejoined byte (x ∷ front) rest ≡ x ∷ rejoined byte front rest
rejoined-cons byte x front None = refl
rejoined-cons byte x front (Some rest) = refl

pub cut-joined : (byte : ℕ) (text : List ℕ) → rejoined byte (cut byte text).0 (cut byte text).1 ≡ text
cut-joined byte [] = refl
cut-joined byte (x ∷ xs) = grind (arith, cut-joined byte xs, eqb-true, rejoined-cons)

-- ---- what stands before a bracket at the end

pub before_close-at : (inner : List ℕ) → before_close (inner ++ closing ∷ []) ≡ Some inner
before_close-at inner =
    let all : List ℕ = inner ++ closing ∷ [] in
    let count : length inner ≡ length all - 1 = omega (arith, length-append inner (closing ∷ [])) in
    let last : get_or all (length inner + 0) 0 ≡ closing = get_or-append-add inner (closing ∷ []) 0 0 in
    let place : length all - 1 ≡ length inner + 0 = omega (arith, count) in
    let at : get_or all (length all - 1) 0 ≡ closing = ap (λ n. get_or all n 0) place ∙ last in
    rw (eq-eqb _ closing at) (ap Some (take_at inner (closing ∷ []) (length all - 1) count))

closed : (text inner : List ℕ) (b : Bool) → (slice_index text (length text - 1) == closing) ≡ b
    → cond b (Some (take (length text - 1) text)) None ≡ Some inner → text ≡ inner ++ closing ∷ []
closed text inner false e h = absurd (none-some inner h)
closed [] inner true e h = absurd (false≢true e)
closed (x ∷ xs) inner true e h =
    let within : length xs < length (x ∷ xs) = omega arith in
    let place : length (x ∷ xs) - 1 ≡ length xs = omega arith in
    let last : get_or (x ∷ xs) (length xs) 0 ≡ closing = sym (ap (λ n. get_or (x ∷ xs) n 0) place) ∙ eqb-true _ closing e in
    let front : take (length xs) (x ∷ xs) ≡ inner = sym (ap (λ n. take n (x ∷ xs)) place) ∙ same_Some _ inner h in
    sym (take_all (length xs + 1) (x ∷ xs) (omega arith)) ∙ take_more (x ∷ xs) (length xs) 0 within
    ∙ ap (λ l. l ++ get_or (x ∷ xs) (length xs) 0 ∷ []) front ∙ ap (λ b. inner ++ b ∷ []) last

pub before_close-joined : (text inner : List ℕ) → before_close text ≡ Some inner → text ≡ inner ++ closing ∷ []
before_close-joined text inner h = closed text inner _ refl h

-- ---- parts between equal bytes

behind_byte : (byte : ℕ) (l : List (List ℕ)) (p : List ℕ) (ps : List (List ℕ)) → l ≡ p ∷ ps
    → join_with_byte byte ([] ∷ l) ≡ byte ∷ join_with_byte byte l
behind_byte byte l p ps e = rw e refl

onto_first : (byte x : ℕ) (p : List ℕ) (ps : List (List ℕ)) → join_with_byte byte ((x ∷ p) ∷ ps) ≡ x ∷ join_with_byte byte (p ∷ ps)
onto_first byte x p [] = refl
onto_first byte x p (q ∷ qs) = refl

pub split-joined : (byte : ℕ) (text : List ℕ) → join_with_byte byte (split byte text) ≡ text
split-joined byte [] = refl
split-joined byte (x ∷ xs) = grind (arith, split-joined byte xs, behind_byte, split-cut, eqb-true, onto_first)

pub split-some : (byte : ℕ) (text : List ℕ) → split byte text ≢ []
split-some byte text e = let none : (cut byte text).0 ∷ pieces byte (cut byte text).1 ≡ [] = sym (split-cut byte text) ∙ e in cc

pub joined-split : (byte : ℕ) (parts : List (List ℕ)) → parts ≢ [] → AllByRecursion (Lacks byte) parts
    → split byte (join_with_byte byte parts) ≡ parts
joined-split byte [] some lack = absurd (some refl)
joined-split byte (p ∷ []) some lack = rw (split-cut byte p, cut-none byte p lack.0) refl
joined-split byte (p ∷ q ∷ ps) some lack =
    let rest : List ℕ = join_with_byte byte (q ∷ ps) in
    rw (split-cut byte (p ++ byte ∷ rest), cut-at byte p rest lack.0) (ap (λ l. p ∷ l) (joined-split byte (q ∷ ps) (λ none. cc) lack.1))
