use Rattle.std.proofs.Common.{◌≡◌, ◌++◌}
use Rattle.pci_kept.specs.RangePass.{turns_up_to}
use Rattle.pci_kept.proofs.standing_ranges.add_turns.Given as goal

abbrev pub invariant-loop-index : goal.invariant-loop-index
invariant-loop-index g l = l.turns.items ≡ l.fn.turns.items ++ turns_up_to l.on l.lines l.index
