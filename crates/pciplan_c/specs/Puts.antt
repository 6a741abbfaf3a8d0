-- Items in memory of the caller's.
use Rattle.std.specs.Prelude.{◌≡◌, List, ◌++◌, length, drop}

-- they stand at the front, and the rest is as it was
abbrev pub IsPutInto : {T : Type 0} → List T → List T → List T → Type 0
IsPutInto old new items = new ≡ items ++ drop (length items) old
