use Rattle.std.proofs.Common.{◌≡◌, Bool}
use Rattle.std.specs.Option.{option_map}
use Rattle.settle_spec.specs.Lists.{Request}
use Rattle.settle_spec.specs.Parts.{FunctionPart, function_parts}
use Rattle.settle_spec.specs.Writes.{fixed_without}
use Rattle.pci_place.specs.Above.{system_in}
use Rattle.pci_first_fit.specs.Slots.{demand_value}
use Rattle.pci_kept.specs.Flags.{AreFlags}
use Rattle.pci_settle.specs.Requests.{IsAskedOf}
use Rattle.pci_settle.specs.Told.{IsTableOf}
use Rattle.pci_settle.specs.Fixed.{fixed_part}
use Rattle.pci_settle.proofs.FixedFunctions.{first_from, off}
use Rattle.pci_settle.proofs.fixed.fixed_without.Given as goal

abbrev pub invariant-loop-k : goal.invariant-loop-k
invariant-loop-k g l =
    (q : Request) (test : FunctionPart → Bool) → IsAskedOf q l.admitted.roots (demand_value l.fn.lists) → AreFlags q.fixed l.fixed → IsTableOf (system_in l.admitted) test l.table
    → option_map fixed_part (fixed_without test q (system_in l.admitted)) ≡ first_from fixed_part (function_parts q (system_in l.admitted)) (off q test) (system_in l.admitted) l.k
