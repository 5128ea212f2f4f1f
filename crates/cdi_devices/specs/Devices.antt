-- What a read gives up to a limit, and what a write that fails has written.
use Rattle.std.specs.Prelude.{◌≡◌, ℕ, ◌+◌, ◌<◌, ◌≤◌, ◌⊎◌, true, List, ◌++◌, length, take, Option}
use Rattle.std.specs.Io.KnownBytes.{Appends, Consumes, IsAtEnd}
use Rattle.cdi_devices.specs.Counted.{inner_of, bytes_of, has_failed}
use Rattle.cdi_devices.specs.declared.counted.Counted.{Counted}

module _ {R : Type 0} (remaining : R → Option (List ℕ)) (limit : ℕ) where
  -- n bytes came, none only at the end
  pub record Gives (old new : Counted R) (n : ℕ) (buffer : List ℕ) : Type 0 where
    pub bound : n ≤ length buffer
    pub bytes : Consumes (remaining (inner_of old)) (remaining (inner_of new)) (take n buffer)
    pub end : n ≡ 0 → IsAtEnd (remaining (inner_of new))
    pub count : bytes_of new ≡ bytes_of old + n
    pub within : bytes_of new ≤ limit
    pub still : has_failed new ≡ has_failed old

  -- a read answered an error, or gave a byte behind the limit
  pub record ReadFails (old new : Counted R) : Type 0 where
    pub most : bytes_of new ≤ limit + 1
    pub cause : (has_failed new ≡ true) ⊎ (limit < bytes_of new)
    -- what it gave lies behind the limit
    pub bytes : (extra : List ℕ) × Consumes (remaining (inner_of old)) (remaining (inner_of new)) extra
        × (0 < length extra → bytes_of old ≡ limit) × (length extra ≤ 1)

module _ {W : Type 0} (contents : W → Option (List ℕ)) where
  -- some of the bytes from the front were written
  abbrev pub WritesPart : Counted W → Counted W → List ℕ → Type 0
  WritesPart old new bytes = (written : List ℕ) × (rest : List ℕ) × (bytes ≡ written ++ rest)
      × Appends (contents (inner_of old)) (contents (inner_of new)) written
