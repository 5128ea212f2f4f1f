-- Texts that are one.
use Rattle.std.proofs.Common.{◌≡◌, ℕ, true, false, List, sym}
use Rattle.std.specs.{Cmp.Lexicographic.bytes_decides, Str.bytes_eq}
use Rattle.std.proofs.lemmas.Bool.{false_from_ne_true, Decides.same_from_decides, Decides.Decides-like}

pub one_text : (x y : List ℕ) → bytes_eq x y ≡ true → x ≡ y
one_text x y h = (bytes_decides x y).0 h

pub same_text : (x y : List ℕ) → x ≡ y → bytes_eq x y ≡ true
same_text x y e = (bytes_decides x y).1 e

pub other_text : (x y : List ℕ) → (x ≡ y → ⊥) → bytes_eq x y ≡ false
other_text x y ne = false_from_ne_true (bytes_eq x y) (λ h. ne (one_text x y h))

pub bytes_eq-turned : (x y : List ℕ) → bytes_eq x y ≡ bytes_eq y x
bytes_eq-turned x y = same_from_decides (bytes_eq x y) (bytes_eq y x) (bytes_decides x y)
    (Decides-like (bytes_eq y x) (λ e. sym e) (λ e. sym e) (bytes_decides y x))
