use Rattle.std.proofs.Common.{◌≡◌}
use Rattle.std.specs.Option.{option_map}
use Rattle.pci_spec.specs.Mark.{all_named}
use Rattle.settle_spec.specs.Assumed.{is_assumed_register, all_parts_of, assumed_region}
use Rattle.pci_place.specs.Above.{system_in}
use Rattle.pci_settle.specs.Fixed.{assumed_part}
use Rattle.pci_settle.proofs.FixedFunctions.{first_from}
use Rattle.pci_settle.proofs.assumed.first_assumed.Given as goal

-- what is passed has none
abbrev pub invariant-loop-k : goal.invariant-loop-k
invariant-loop-k g l =
    option_map assumed_part (assumed_region (all_named l.admitted.probe) (system_in l.admitted))
    ≡ first_from assumed_part all_parts_of (is_assumed_register (all_named l.admitted.probe)) (system_in l.admitted) l.k
