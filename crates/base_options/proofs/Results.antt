-- What holds where a result is one or the other.
use Rattle.std.proofs.Common.{Result, Ok, Err}
use Rattle.std.specs.Result.{OnErr, OnOk}

pub OnOk-from : {T E P : Type 0} (r : Result T E) → P → OnOk r P
OnOk-from (Ok x) p = p
OnOk-from (Err e) p = tt

pub OnErr-from : {T E P : Type 0} (r : Result T E) → P → OnErr r P
OnErr-from (Ok x) p = tt
OnErr-from (Err e) p = p
