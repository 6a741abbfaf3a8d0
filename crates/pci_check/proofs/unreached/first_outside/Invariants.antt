use Rattle.std.specs.List.{AllWithin}
use Rattle.pci_base.specs.Space.{space_of}
use Rattle.pci_check.specs.Stops.{IsReachedAt}
use Rattle.pci_check.proofs.unreached.first_outside.Given as goal

abbrev pub invariant-loop-i : goal.invariant-loop-i
invariant-loop-i g l = AllWithin (IsReachedAt l.reached (space_of l.space) l.bus) l.regions 0 l.i
