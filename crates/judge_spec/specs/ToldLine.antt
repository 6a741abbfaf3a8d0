-- How faults are printed, with what is given and told: `+n` stands for a register where a fault names the range of line n.
use Rattle.std.specs.Prelude.{ℕ, ◌-◌, nat_lt, if◌then◌else◌, List, [], ◌∷◌, ◌++◌, codes}
use Rattle.std.specs.List.{flat_map}
use Rattle.std.specs.Fmt.{decimal}
use Rattle.pci_spec.specs.Slot.{Slot}
use Rattle.pci_spec.specs.Text.{hex_byte, slot_text}
use Rattle.pci_spec.specs.Line.{two_digits, field, slot_field, byte_field, place_field}
use Rattle.pci_spec.specs.Line as plain
use Rattle.pci_spec.specs.Fault.{Unreached, Clash, Split}
use Rattle.pci_spec.specs.Fault as faults
use Rattle.judge_spec.specs.Fault as untold
use Rattle.judge_spec.specs.Line as untold_line
use Rattle.judge_spec.specs.ToldFault.{Fault, Known, NotListed, fault_number}

-- a register, or `+` and the line of a told range
abbrev pub register_text : ℕ → List ℕ
register_text register =
    if nat_lt register 256 then hex_byte register else 43 ∷ decimal (register - 255)

-- a function and a region of it
abbrev pub region_text : Slot → ℕ → List ℕ
region_text slot register = slot_text slot ++ field (register_text register)

-- two regions
abbrev pub regions_text : Slot → ℕ → Slot → ℕ → List ℕ
regions_text first first_register second second_register =
    region_text first first_register ++ field (region_text second second_register)

-- a fault's name
abbrev pub fault_name : Fault → List ℕ
fault_name (Known fault) = untold_line.fault_name fault
fault_name (NotListed slot) = codes "NotListed"

-- what a fault names
abbrev pub plain_fields : faults.Fault → List ℕ
plain_fields (Unreached slot register space address bridge) =
    field (region_text slot register) ++ place_field space address ++ field (codes "bridge")
    ++ slot_field bridge
plain_fields (Clash bus space address first first_register second second_register) =
    field (codes "bus") ++ byte_field bus ++ place_field space address
    ++ field (regions_text first first_register second second_register)
plain_fields (Split space address first first_register second second_register) =
    place_field space address ++ field (regions_text first first_register second second_register)
plain_fields fault = plain.fault_fields fault

abbrev pub known_fields : untold.Fault → List ℕ
known_fields (untold.Known fault) = plain_fields fault
known_fields (untold.Outside slot register space address) =
    field (region_text slot register) ++ place_field space address

abbrev pub fault_fields : Fault → List ℕ
fault_fields (Known fault) = known_fields fault
fault_fields (NotListed slot) = slot_field slot

-- a fault's number, name and fields
abbrev pub fault_text : Fault → List ℕ
fault_text fault = two_digits (fault_number fault) ++ field (fault_name fault) ++ fault_fields fault

-- a fault's line
abbrev pub fault_line : Fault → List ℕ
fault_line fault = fault_text fault ++ 10 ∷ []

-- the text of a list of all: a line for each, and `yes` where there is none
abbrev pub list_text : List Fault → List ℕ
list_text [] = codes "yes" ++ 10 ∷ []
list_text (fault ∷ rest) = flat_map fault_line (fault ∷ rest)
