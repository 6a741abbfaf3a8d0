-- Where it is put what planning or settling comes to: writes that are so, with from how many on they may stop, or why there
-- are none.
use Rattle.std.specs.Prelude.{◌≡◌, ◌<◌, ℕ, List, length}
use Rattle.pciplan_c.specs.Puts.{IsPutInto}
use Rattle.pciplan_c.specs.declared.register_write.RegisterWrite.{RegisterWrite}
use Rattle.pciplan_c.specs.NoWrites.{no_writes_text, no_writes_status}
use Rattle.pciplan_c.specs.declared.no_writes.NoWrites.{NoWrites}
use Rattle.pciplan_c.specs.declared.ending.Ending.{Ending}
use Rattle.pciplan_c.specs.declared.ending.Ending.TheVariants as ends
use Rattle.pciplan_c.specs.declared.ending.HeldBack.{HeldBack}
use Rattle.pciplan_c.specs.declared.ending.HeldBack.TheVariants.{Memory, Writes, Line}
use Rattle.pciplan_c.specs.declared.ending.NotPut.{NotPut}
use Rattle.pciplan_c.specs.declared.ending.NotPut.TheVariants as not_put

-- the writes stand at the front of the array
pub record AreWritesPutInFront (AreSo : List RegisterWrite → ℕ → Type 0) (old new : List RegisterWrite)
    (count safe_from : ℕ) : Type 0 where
  pub writes : List RegisterWrite
  pub so : AreSo writes safe_from
  pub put : IsPutInto old new writes
  pub number : count ≡ length writes

-- they are more than the array has room for
pub record AreTooMany (AreSo : List RegisterWrite → ℕ → Type 0) (array : List RegisterWrite)
    (needed : ℕ) : Type 0 where
  pub writes : List RegisterWrite
  pub safe_from : ℕ
  pub so : AreSo writes safe_from
  pub number : needed ≡ length writes
  pub more : length array < needed

-- why no writes are put
abbrev pub IsWhyNoWritesPut : (List RegisterWrite → ℕ → Type 0) → (NoWrites → Type 0) → List RegisterWrite
    → NotPut → Type 0
IsWhyNoWritesPut AreSo IsWhy array (not_put.NoWrites why) = IsWhy why
IsWhyNoWritesPut AreSo IsWhy array not_put.Memory = Unit {0}
IsWhyNoWritesPut AreSo IsWhy array (not_put.Writes needed) = AreTooMany AreSo array needed

-- why there are none stands at the front of the line
pub record IsNoneTold (IsWhy : NoWrites → Type 0) (status : ℕ) (old new : List ℕ)
    (used : ℕ) : Type 0 where
  pub why : NoWrites
  pub stands : IsWhy why
  pub named : status ≡ no_writes_status why
  pub text : IsPutInto old new (no_writes_text why)
  pub count : used ≡ length (no_writes_text why)

-- it is longer than the line
pub record IsNoneTooLong (IsWhy : NoWrites → Type 0) (line : List ℕ) (needed : ℕ) : Type 0 where
  pub why : NoWrites
  pub stands : IsWhy why
  pub count : needed ≡ length (no_writes_text why)
  pub more : length line < needed

-- this is told
abbrev pub IsReasonTold : NoWrites → List ℕ → List ℕ → Ending → Type 0
IsReasonTold why old new (ends.Writes count safe_from) = ⊥
IsReasonTold why old new (ends.NoWrites told used) =
    (told ≡ why) × IsPutInto old new (no_writes_text why) × (used ≡ length (no_writes_text why))

-- this is too long
abbrev pub IsTooLongFor : NoWrites → List ℕ → HeldBack → Type 0
IsTooLongFor why line Memory = Unit {0}
IsTooLongFor why line (Writes needed) = ⊥
IsTooLongFor why line (Line needed) =
    (needed ≡ length (no_writes_text why)) × (length line < needed)

-- what the caller lends
pub record Lent : Type 0 where
  pub array : List RegisterWrite
  pub line : List ℕ

abbrev pub lent : List RegisterWrite → List ℕ → Lent
lent array line = record { array = array; line = line }

-- the writes were put into the array, or why there are none into the line
abbrev pub IsEnding : (List RegisterWrite → ℕ → Type 0) → (NoWrites → Type 0) → Lent → Lent → Ending
    → Type 0
IsEnding AreSo IsWhy old new (ends.Writes count safe_from) =
    AreWritesPutInFront AreSo old.array new.array count safe_from × (new.line ≡ old.line)
IsEnding AreSo IsWhy old new (ends.NoWrites why used) =
    IsNoneTold IsWhy (no_writes_status why) old.line new.line used × (new.array ≡ old.array)

-- what has no room
abbrev pub IsHeldBack : (List RegisterWrite → ℕ → Type 0) → (NoWrites → Type 0) → List RegisterWrite
    → List ℕ → HeldBack → Type 0
IsHeldBack AreSo IsWhy array line Memory = Unit {0}
IsHeldBack AreSo IsWhy array line (Writes needed) = AreTooMany AreSo array needed
IsHeldBack AreSo IsWhy array line (Line needed) = IsNoneTooLong IsWhy line needed
