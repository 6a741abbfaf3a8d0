-- Sizes of BARs that the kernel's log tells.
use Rattle.std.specs.Prelude.{◌≡◌, ℕ, ◌-◌, ◌==◌, ◌&&◌, nat_lt, Bool, List, [], ◌∷◌, Option, None, Some, fold, replicate, slice_set, if◌then◌else◌}
use Rattle.std.specs.BTreeMap.{get}
use Rattle.std.specs.Ordering.{nat_cmp}
use Rattle.pci_spec.specs.Resource.{ResourceLine, has_size, no_line}
use Rattle.pci_here.specs.HostRanges.{file_lines}
use Rattle.pci_here.specs.LogLine.{AreLogLines}
use Rattle.pci_here.specs.Place.{FunctionPlace, function_place_number}
use Rattle.pci_here.specs.declared.log.Log.{Log}
use Rattle.pci_here.specs.declared.log_line.LogLine.{LogLine}
use Rattle.pci_here.specs.declared.log_line.Told.{Told}
use Rattle.pci_here.specs.declared.log_line.Told.TheVariants.{Device, Size}

-- what is told of a function's registers, as lines of the file `resource`: of its six BARs, and nothing of its ROM
abbrev pub Registers : Type 0
Registers = List ResourceLine

abbrev pub no_register_told : Registers
no_register_told = replicate 7 no_line

-- the addresses from 0 to a size less one, as a line of the file `resource` tells them
abbrev pub extent : ℕ → ℕ → ResourceLine
extent size flags = record { first = 0; last = size - 1; flags = flags }

-- nothing is told by a size that is no power of two, or above 2^63
abbrev pub size_line : ℕ → ℕ → ResourceLine
size_line size flags =
    if nat_lt 0 size && has_size 63 (extent size flags) then extent size flags else no_line

-- A size is told of its BAR, in the place of an earlier one. A device that is found makes all earlier lines those of
-- another one.
abbrev pub with_told : Registers → Told → Registers
with_told before Device = no_register_told
with_told before (Size size) =
    slice_set before size.bar (size_line size.told.size size.told.flags)

-- a line more of a log
abbrev pub with_line : FunctionPlace → Registers → LogLine → Registers
with_line p before l =
    if function_place_number l.place == function_place_number p then with_told before l.told else before

-- what the lines of a log tell of the function at a place
abbrev pub registers_told : List LogLine → FunctionPlace → Registers
registers_told told p = fold (with_line p) no_register_told told

-- nothing is told of any function
abbrev pub empty_kernel_log : FunctionPlace → Registers
empty_kernel_log p = no_register_told

-- what a text tells of each function, as a kernel's log
pub record IsLogOf (text : List ℕ) (log : FunctionPlace → Registers) : Type 0 where
  pub told : List LogLine
  pub are : AreLogLines (file_lines text) told
  pub each : (p : FunctionPlace) → log p ≡ registers_told told p

-- what a log that was taken tells of the function at a place
abbrev pub registers_at : Option Registers → Registers
registers_at None = no_register_told
registers_at (Some registers) = registers

abbrev pub log_of : Log → FunctionPlace → Registers
log_of log p = registers_at (get nat_cmp log.told (function_place_number p))

-- ---- with the file `resource`

-- a line of zeros: no register is there, or it has no place
abbrev pub is_zeros : ResourceLine → Bool
is_zeros line = line.first == 0 && line.last == 0 && line.flags == 0

-- the log's line in the place of a line of zeros
abbrev pub chosen : ResourceLine → ResourceLine → ResourceLine
chosen line told = if is_zeros line then told else line

-- the lines of a function's registers, with what the log tells of them
abbrev pub completed : List ResourceLine → Registers → List ResourceLine
completed [] told = []
completed (line ∷ lines) [] = line ∷ lines
completed (line ∷ lines) (t ∷ told) = chosen line t ∷ completed lines told
