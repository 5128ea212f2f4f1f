-- What a promise prints.
use Rattle.std.specs.Prelude.{ℕ, ◌-◌, ◌==◌, List, [], ◌∷◌, ◌++◌, codes, if◌then◌else◌}
use Rattle.std.specs.Int.RustNames.{bit_and}
use Rattle.cdi_model.specs.Bytes.{space}
use Rattle.cdi_bodies.specs.Flags as flags

-- the word of a flag that the set has, after a space where the set has a smaller flag
abbrev pub text_of_word : ℕ → ℕ → List ℕ → List ℕ
text_of_word set flag word =
    if bit_and set flag == 0 then [] else (if bit_and set (flag - 1) == 0 then word else space ∷ word)

abbrev pub text_of_promise : ℕ → List ℕ
text_of_promise set =
    text_of_word set flags.load (codes "LOAD") ++ text_of_word set flags.store (codes "STORE") ++ text_of_word set flags.call (codes "CALL")
    ++ text_of_word set flags.fire (codes "FIRE") ++ text_of_word set flags.proceed (codes "PROCEED")
    ++ text_of_word set flags.fail (codes "FAIL")
