-- Names and identifiers are UTF-8.
use Rattle.cdi_model.proofs.Common.{◌≡◌, ℕ, ◌<◌, List, [], ◌∷◌, true, zero, suc, arith, AllByRecursion, is_name, is_ident}
use Rattle.std.specs.Str.{IsAscii, IsUtf8}
use Rattle.std.proofs.lemmas.Str.{IsUtf8-from_ascii}
use Rattle.cdi_model.proofs.GrammarLemmas.{is_name-ascii, is_ident-ascii}

ascii_each : (bytes : List ℕ) → AllByRecursion (λ b. b < 128) bytes → IsAscii bytes
ascii_each [] h i = omega arith
ascii_each (b ∷ bs) h zero = h.0
ascii_each (b ∷ bs) h (suc i) = ascii_each bs h.1 i

pub name_is_utf8 : (bytes : List ℕ) → is_name bytes ≡ true → IsUtf8 bytes
name_is_utf8 bytes h = IsUtf8-from_ascii bytes (ascii_each bytes (is_name-ascii bytes h))

pub ident_is_utf8 : (bytes : List ℕ) → is_ident bytes ≡ true → IsUtf8 bytes
ident_is_utf8 bytes h = IsUtf8-from_ascii bytes (ascii_each bytes (is_ident-ascii bytes h))
