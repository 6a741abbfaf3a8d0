use Rattle.std.proofs.Common.{◌≡◌, drop, map}
use Rattle.std.specs.Option.{option_map}
use Rattle.settle_spec.specs.Lists.{Request}
use Rattle.settle_spec.specs.Writes.{fixed_write}
use Rattle.pci_plan.specs.Writes.{write_value}
use Rattle.pci_kept.specs.Flags.{AreFlags}
use Rattle.pci_settle.specs.Fixed.{fixed_register}
use Rattle.pci_settle.proofs.fixed.fixed_write.Given as goal

abbrev pub invariant-loop-write : goal.invariant-loop-write
invariant-loop-write l =
    (q : Request) → AreFlags q.fixed l.fixed
    → option_map fixed_register (fixed_write q (map write_value l.writes)) ≡ option_map fixed_register (fixed_write q (map write_value (drop l.write-index l.writes)))
