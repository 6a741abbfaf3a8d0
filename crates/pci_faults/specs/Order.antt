-- The order in which judging looks for faults, as one number of each.
use Rattle.std.specs.Prelude.{ℕ, ◌+◌, ◌*◌, ◌^◌}
use Rattle.pci_spec.specs.Slot.{slot_number}
use Rattle.pci_spec.specs.System.{Space}
use Rattle.pci_spec.specs.Fault.{Fault, Unreached, Clash, Split}
use Rattle.pci_spec.specs.Order.{space_key}
use Rattle.pci_spec.specs.JudgingLaws.{region_number}

-- a space and an address in it, below 2^65
abbrev pub space_address_key : Space → ℕ → ℕ
space_address_key space address = space_key space * 2 ^ 64 + address

-- what judging looks for first has the least place
abbrev pub judging_place : Fault → ℕ
judging_place (Unreached slot register space address bridge) =
    (region_number slot register * 2 ^ 16 + slot_number bridge) * 2 ^ 64 + address
judging_place (Clash bus space address first first_register second second_register) =
    2 ^ 126
    + ((bus * 2 ^ 65 + space_address_key space address) * 2 ^ 24 + region_number first first_register) * 2 ^ 24
    + region_number second second_register
judging_place (Split space address first first_register second second_register) =
    2 ^ 127
    + (space_address_key space address * 2 ^ 24 + region_number first first_register) * 2 ^ 24
    + region_number second second_register
judging_place fault = 0
