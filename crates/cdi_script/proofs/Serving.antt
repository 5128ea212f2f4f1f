-- What is kept of a line or a put block serves for all of it.
use Rattle.cdi_script.proofs.Common.{◌≡◌, ℕ, ◌+◌, ◌<◌, ◌≤◌, List, [], ◌∷◌, ◌++◌, length, refl, ap, sym, ◌∙◌, subst, false, inl, inr}
use Rattle.cdi_script.proofs.Common.{append_assoc, arith, ◌==◌, append-nil, length-append, feed, said_of_line, ServesLine, ServesText}
use Rattle.cdi_script.proofs.Common.{is_dot}
use Rattle.std.proofs.Math.Bool.{and-false}
use Rattle.std.specs.{Prelude.codes, Str.bytes_eq}
use Rattle.cdi_model.specs.Bytes.{dot}
use Rattle.cdi_lines.specs.{Kept.with_line}
use Rattle.cdi_lines.proofs.LongLemmas.{length-without_return}

pub serves_command : (kept line : List ℕ) → ServesLine kept line → said_of_line kept ≡ said_of_line line
serves_command kept line (inl h) = ap said_of_line h
serves_command kept line (inr h) = ap said_of_line (sym (append-nil kept)) ∙ h.alike [] ∙ ap said_of_line (append-nil line)

long_no_dot : (t : List ℕ) → 1 < length t → bytes_eq t (codes ".") ≡ false
long_no_dot [] h = absurd (omega arith)
long_no_dot (b ∷ []) h = absurd (omega arith)
long_no_dot (b ∷ c ∷ bs) h = and-false (b == dot)

pub serves_dot : (kept line : List ℕ) → ServesLine kept line → is_dot kept ≡ is_dot line
serves_dot kept line (inl h) = ap is_dot h
serves_dot kept line (inr h) = grind (arith, h.kept_long, h.line_long, long_no_dot, length-without_return)

longer : (text line : List ℕ) → 65536 < length line + 1 → 65536 < length (text ++ line ++ feed ∷ [])
longer text line h = let a = length-append (text ++ line) (feed ∷ []) in let b = length-append text line in omega arith

still_longer : (text line end : List ℕ) → 65536 < length text → 65536 < length (text ++ line ++ end)
still_longer text line end h = let a = length-append (text ++ line) end in let b = length-append text line in omega arith

-- a line more on both sides
pub serves_with_line : (kept_text text kept line : List ℕ) → ServesText kept_text text → ServesLine kept line
    → ServesText (with_line kept_text kept) (with_line text line)
serves_with_line kept_text text kept line (inl h) (inl k) = inl (let e : with_line kept_text kept ≡ with_line text line = cc in e)
serves_with_line kept_text text kept line (inl h) (inr k) = grind (arith, k.kept_long, k.line_long, longer, length-without_return)
serves_with_line kept_text text kept line (inr h) k = inr (still_longer kept_text _ _ h.0, still_longer text _ _ h.1)

-- what serves for what serves
pub serves_serving_text : (a b c : List ℕ) → ServesText a b → ServesText b c → ServesText a c
serves_serving_text a b c h (inl k) = subst (ServesText a) k h
serves_serving_text a b c (inl h) (inr k) = inr (subst (λ l. 65536 < length l) (sym h) k.0, k.1)
serves_serving_text a b c (inr h) (inr k) = inr (h.0, k.1)

pub serves_more : (kept line piece : List ℕ) → ServesLine kept line → ServesLine (kept ++ piece) (line ++ piece)
serves_more kept line piece (inl h) = inl (ap (λ l. l ++ piece) h)
serves_more kept line piece (inr h) = grind (arith, h.kept_long, h.line_long, h.alike, length-append, append_assoc)

pub serves_serving : (a b c : List ℕ) → ServesLine a b → ServesLine b c → ServesLine a c
serves_serving a b c h (inl k) = subst (ServesLine a) k h
serves_serving a b c (inl h) (inr k) = subst (λ l. ServesLine l c) (sym h) (inr k)
serves_serving a b c (inr h) (inr k) = inr
    (record { kept_long = h.kept_long; line_long = k.line_long; alike = λ more. h.alike more ∙ k.alike more })

pub serves_itself : (line : List ℕ) → ServesLine line line
serves_itself line = inl refl

pub serves_started : (kept line : List ℕ) → ServesLine kept line → (kept ≡ [] → ⊥) → line ≡ [] → ⊥
serves_started kept line (inl h) some none = some (h ∙ none)
serves_started kept line (inr h) some none = let b : 65540 ≤ length line = h.line_long in let z : length line
    ≡ 0 = ap length none in omega arith
