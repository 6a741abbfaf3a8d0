-- The order in which judging looks for clashes and splits with told ranges, as one number of each.
use Rattle.std.specs.Prelude.{ℕ, ◌+◌, ◌*◌, ◌^◌}
use Rattle.pci_spec.specs.Slot.{Slot}
use Rattle.pci_base.specs.Space.{space_of}
use Rattle.pci_faults.specs.Order.{space_address_key}
use Rattle.judge_spec.specs.ToldAllFaults.{region_number}
use Rattle.pci_faults.specs.declared.named.Clash.{Clash}
use Rattle.pci_faults.specs.declared.named.Split.{Split}

-- the place of a region among those of its bus
abbrev pub number_on_bus : Slot → ℕ → ℕ
number_on_bus slot register = (slot.device * 8 + slot.function) * 8192 + register

-- what judging looks for first has the least place, where both regions are of the bus
abbrev pub clash_place : Clash → ℕ
clash_place c =
    ((c.bus * 2 ^ 65 + space_address_key (space_of c.space) c.address) * 2 ^ 21
    + number_on_bus c.first.slot c.first.register) * 2 ^ 21
    + number_on_bus c.second.slot c.second.register

abbrev pub split_place : Split → ℕ
split_place c =
    (space_address_key (space_of c.space) c.address * 2 ^ 29
    + region_number c.first.slot c.first.register) * 2 ^ 29
    + region_number c.second.slot c.second.register
