-- The flags of promises, and the sets of flags that have names.
use Rattle.std.specs.Prelude.{ℕ, List, [], ◌∷◌, fold}
use Rattle.std.specs.Int.RustNames.{bit_or}

-- one flag for each kind of act but to return
abbrev pub load : ℕ
load = 1

abbrev pub store : ℕ
store = 2

abbrev pub call : ℕ
call = 4

abbrev pub fire : ℕ
fire = 8

abbrev pub proceed : ℕ
proceed = 16

abbrev pub fail : ℕ
fail = 32

-- these flags and no other
abbrev pub set_of_flags : List ℕ → ℕ
set_of_flags flags = fold bit_or 0 flags

-- what a body may do that runs on an instance: all but proceed
abbrev pub at_instance : ℕ
at_instance = set_of_flags (load ∷ store ∷ call ∷ fire ∷ fail ∷ [])

-- before the destruction of its instance: it neither calls nor fires
abbrev pub at_destruction : ℕ
at_destruction = set_of_flags (load ∷ store ∷ fail ∷ [])

-- where it runs on none: it neither loads nor stores
abbrev pub at_class : ℕ
at_class = set_of_flags (call ∷ fire ∷ fail ∷ [])

-- at the disposal of a product
abbrev pub at_disposal : ℕ
at_disposal = set_of_flags (fail ∷ [])

-- what an interceptor may do: all
abbrev pub around : ℕ
around = set_of_flags (load ∷ store ∷ call ∷ fire ∷ proceed ∷ fail ∷ [])

-- before the destruction: it neither calls nor fires
abbrev pub around_destruction : ℕ
around_destruction = set_of_flags (load ∷ store ∷ proceed ∷ fail ∷ [])
