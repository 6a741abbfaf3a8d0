-- What numbering's steps leave where they stop.
use Rattle.std.specs.Prelude.{◌≡◌, ◌≢◌, ℕ, Option, Some, Result, Ok, Err}
use Rattle.pci_spec.specs.Slot.{Slot}
use Rattle.pci_spec.specs.Machine.{Write}
use Rattle.pci_number.specs.Board.{Board}
use Rattle.pci_number.specs.Access.{IsByteRead}
use Rattle.pci_number.specs.declared.stop.Stop.{Stop}
use Rattle.pci_number.specs.declared.stop.Stop.TheVariants.{Stuck, Port}

-- how many failures an access counts as
abbrev pub failures_of_access : {T E : Type 0} → Result T E → ℕ
failures_of_access (Ok x) = 0
failures_of_access (Err e) = 1

-- how many failures a stop counts as
abbrev pub failures_of_numbering_stop : Stop → ℕ
failures_of_numbering_stop (Stuck written) = 0
failures_of_numbering_stop Port = 1

-- the same of an outcome
abbrev pub failures_at : {T : Type 0} → Result T Stop → ℕ
failures_at (Ok x) = 0
failures_at (Err stop) = failures_of_numbering_stop stop

-- a bus number that is written
abbrev pub number_write : Slot → ℕ → ℕ → Write
number_write slot offset number =
    record { slot = slot; offset = offset; width = 1; value = number }

-- what a stop says of the board and of the last write: the number was written last, and is not what
-- is read there
abbrev pub IsNumberingStop : Board → Option Write → Stop → Type 0
IsNumberingStop board last_write Port = Unit {0}
IsNumberingStop board last_write (Stuck told) =
    (last_write ≡ Some (number_write told.slot told.offset told.number))
    × (found : ℕ) × IsByteRead board told.slot told.offset found × (found ≢ told.number)
