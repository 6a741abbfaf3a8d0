use Rattle.std.proofs.Common.{◌≡◌, map, take}
use Rattle.pci_settle.specs.ToldEndings.{is_enabled_in_blocks}
use Rattle.pci_settle.proofs.told.flags_then.Given as goal

abbrev pub invariant-loop-range : goal.invariant-loop-range
invariant-loop-range g l = l.flags.items ≡ map (λ r. is_enabled_in_blocks l.blocks r.slot r.space) (take l.range-index l.ranges)
