-- An order in which each part comes after all that tell whether it stands.
use Rattle.std.specs.Prelude.{ℕ, ◌+◌, ◌<◌, ◌==◌, nat_lt, Bool, ◌&&◌, ◌||◌, if◌then◌else◌}
use Rattle.std.specs.List.{AllPairs}
use Rattle.pci_spec.specs.System.{System, IsSystem}
use Rattle.pci_spec.specs.Bus.{is_root}
use Rattle.settle_spec.specs.Lists.{Request}
use Rattle.settle_spec.specs.Parts.{FunctionPart, system_parts}
use Rattle.settle_spec.specs.Stands.{rank, told_part_precedes}

-- all roots are the lowest bus
abbrev pub level : Request → ℕ → ℕ
level q bus = if is_root q.roots bus then 0 else bus + 1

-- lower buses come first, and on one bus what precedes
abbrev pub comes_first : Request → System → FunctionPart → FunctionPart → Bool
comes_first q s t r =
    nat_lt (level q t.function.slot.bus) (level q r.function.slot.bus)
    || (level q t.function.slot.bus == level q r.function.slot.bus && told_part_precedes q s t r)

-- The parts of a system stand by rising slots and registers.
abbrev pub RanksRise : Type 0
RanksRise =
    (q : Request) (s : System) → IsSystem s → AllPairs (λ r t. rank r < rank t) (system_parts q s)
