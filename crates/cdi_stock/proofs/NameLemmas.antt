-- What is found by a name among the bodies is what is found among their names and promises.
use Rattle.std.proofs.Common.{◌≡◌, ℕ, Bool, true, false, cond, List, [], ◌∷◌, map, find, position, Some, option_map, refl, sym}
use Rattle.base_lists.proofs.Places.{position-map}
use Rattle.cdi_bodies.specs.Book.{is_named, position_of, promise_of as promise_by}
use Rattle.cdi_stock.specs.{Table.has_name, Table.promise_of, Table.promised, declared.stock.Stock.Stock}

pub position_named : (bodies : List Stock) (name : List ℕ) → position (has_name name) bodies ≡ position_of (map promised bodies) name
position_named bodies name = sym (position-map promised (is_named name) bodies)

pub promise_named : (bodies : List Stock) (name : List ℕ)
    → option_map promise_of (find (has_name name) bodies) ≡ promise_by (map promised bodies) name
promise_named [] name = refl
promise_named (body ∷ bodies) name = by (promise_named bodies name) (has_name name body)
  where
    by : option_map promise_of (find (has_name name) bodies) ≡ promise_by (map promised bodies) name → (b : Bool)
        → option_map promise_of (cond b (Some body) (find (has_name name) bodies))
        ≡ option_map (λ x. x.1) (cond b (Some (promised body)) (find (is_named name) (map promised bodies)))
    by rest true = refl
    by rest false = rest
