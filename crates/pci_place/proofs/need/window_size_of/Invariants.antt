use Rattle.std.proofs.Common.{◌≡◌, ◌-◌}
use Rattle.plan_spec.specs.Plan.{doubled_to, window_size}
use Rattle.pci_base.specs.WindowKinds.{kind_value}
use Rattle.pci_place.proofs.need.window_size_of.Given as goal

abbrev pub invariant-loop : goal.invariant-loop
invariant-loop l = doubled_to l.need (66 - l.counter) l.size ≡ window_size (kind_value l.fn.class) l.need
