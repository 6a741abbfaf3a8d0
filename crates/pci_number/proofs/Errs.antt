-- What holds whatever an outcome is holds of an error.
use Rattle.std.specs.Prelude.{Result, Ok, Err, OnErr}

pub always_err : {T E : Type 0} (r : Result T E) (P : Type 0) → P → OnErr r P
always_err (Ok x) P p = tt
always_err (Err e) P p = p
