-- What a book holds: names with promises, in order. And why some bodies make none.
use Rattle.std.specs.Prelude.{◌≢◌, ℕ, Bool, Option, List, map, find, position, option_map, AllPairs}
use Rattle.std.specs.Str.{bytes_eq}
use Rattle.cdi_bodies.specs.declared.book_error.BookCause.{BookCause}
use Rattle.cdi_bodies.specs.declared.book_error.BookCause.TheVariants.{BodyTwice, OutOfMemory}
use Rattle.cdi_bodies.specs.declared.promise.Promise.{Promise}

-- a body as a book shows it: its name and its promise
abbrev pub Promised : Type 0
Promised = List ℕ × Promise

-- whether a body has this name
abbrev pub is_named : List ℕ → Promised → Bool
is_named name body = bytes_eq name body.0

-- the promise of the body of this name
abbrev pub promise_of : List Promised → List ℕ → Option Promise
promise_of bodies name = option_map (λ body. body.1) (find (is_named name) bodies)

-- the position of the body of this name
abbrev pub position_of : List Promised → List ℕ → Option ℕ
position_of bodies name = position (is_named name) bodies

-- no two bodies have one name
abbrev pub AreDistinct : List Promised → Type 0
AreDistinct bodies = AllPairs (λ name other. name ≢ other) (map (λ body. body.0) bodies)

-- two of the bodies have one name; want of memory tells nothing of them
abbrev pub IsCauseFor : BookCause → List Promised → Type 0
IsCauseFor BodyTwice bodies = AreDistinct bodies → ⊥
IsCauseFor OutOfMemory bodies = Unit {0}
