-- What a fault names, as members of its object: each value is that of the fault, in the digits of its line.
use Rattle.std.specs.Prelude.{ℕ, ◌-◌, nat_lt, if◌then◌else◌, List, [], ◌∷◌, ◌++◌, codes}
use Rattle.json.specs.Json.{Json, string}
use Rattle.pci_spec.specs.Slot.{Slot}
use Rattle.pci_spec.specs.Text.{hex_byte, slot_text}
use Rattle.pci_spec.specs.System.{Space}
use Rattle.pci_spec.specs.Line.{space_text, address_text, fault_name, fault_text}
use Rattle.pci_spec.specs.Fault.{Fault, fault_number, NoVendor, HeaderKind, BarType, BarMask, BarPair, RomMask, WindowMask, CapRange, CapLoop, CapCut, SlotsDiffer, StrayProbe, LoneFunction, OfProfile, BusRange, Orphan, Unreached, Clash, Split}
use Rattle.judge_spec.specs.Fault as given
use Rattle.judge_spec.specs.Line as given_line
use Rattle.judge_spec.specs.ToldFault as told
use Rattle.judge_spec.specs.ToldLine as told_line
use Rattle.pci_json.specs.Members.{hex, json_count, object_of, array_of}

abbrev pub slot_value : List ℕ → Slot → List (List ℕ × Json)
slot_value name slot = (name, string (slot_text slot)) ∷ []

abbrev pub region_values : Slot → ℕ → List (List ℕ × Json)
region_values slot register = (codes "slot", string (slot_text slot)) ∷ (codes "register", hex (hex_byte register)) ∷ []

abbrev pub address_values : Space → ℕ → List (List ℕ × Json)
address_values space address = (codes "space", string (space_text space)) ∷ (codes "address", hex (address_text space address)) ∷ []

abbrev pub two_region_values : Slot → ℕ → Slot → ℕ → List (List ℕ × Json)
two_region_values first first_register second second_register =
    (codes "regions", array_of (object_of (region_values first first_register) ∷ object_of (region_values second second_register) ∷ [])) ∷ []

-- what a fault names
abbrev pub fault_values : Fault → List (List ℕ × Json)
fault_values (NoVendor slot) = slot_value (codes "slot") slot
fault_values (HeaderKind slot) = slot_value (codes "slot") slot
fault_values (BarType slot register) = region_values slot register
fault_values (BarMask slot register) = region_values slot register
fault_values (BarPair slot register) = region_values slot register
fault_values (RomMask slot register) = region_values slot register
fault_values (WindowMask slot register) = region_values slot register
fault_values (CapRange slot place) = region_values slot place
fault_values (CapLoop slot place) = region_values slot place
fault_values (CapCut slot place) = region_values slot place
fault_values (SlotsDiffer slot) = slot_value (codes "slot") slot
fault_values (StrayProbe slot offset) = region_values slot offset
fault_values (LoneFunction slot) = slot_value (codes "slot") slot
fault_values (OfProfile fault slot) = slot_value (codes "slot") slot
fault_values (BusRange slot) = slot_value (codes "slot") slot
fault_values (Orphan slot) = slot_value (codes "slot") slot
fault_values (Unreached slot register space address bridge) =
    region_values slot register ++ (address_values space address ++ slot_value (codes "bridge") bridge)
fault_values (Clash bus space address first first_register second second_register) =
    (codes "bus", string (hex_byte bus)) ∷ (address_values space address ++ two_region_values first first_register second second_register)
fault_values (Split space address first first_register second second_register) =
    address_values space address ++ two_region_values first first_register second second_register

-- all members of its object: its number, its name, its line, and what it names
abbrev pub all_values : Fault → List (List ℕ × Json)
all_values fault =
    (codes "number", json_count (fault_number fault)) ∷ (codes "name", string (fault_name fault)) ∷ (codes "text", string (fault_text fault)) ∷ fault_values fault

-- the same with what is given
abbrev pub given_values : given.Fault → List (List ℕ × Json)
given_values (given.Known fault) = fault_values fault
given_values (given.Outside slot register space address) = region_values slot register ++ address_values space address

abbrev pub all_given_values : given.Fault → List (List ℕ × Json)
all_given_values fault =
    (codes "number", json_count (given.fault_number fault)) ∷ (codes "name", string (given_line.fault_name fault)) ∷ (codes "text", string (given_line.fault_text fault))
    ∷ given_values fault

-- ---- with what is told: the line of a told range stands in the place of a register

abbrev pub register_or_line_value : ℕ → List (List ℕ × Json)
register_or_line_value register =
    if nat_lt register 256 then (codes "register", hex (hex_byte register)) ∷ [] else (codes "line", json_count (register - 255)) ∷ []

abbrev pub told_region_values : Slot → ℕ → List (List ℕ × Json)
told_region_values slot register = (codes "slot", string (slot_text slot)) ∷ register_or_line_value register

abbrev pub two_told_region_values : Slot → ℕ → Slot → ℕ → List (List ℕ × Json)
two_told_region_values first first_register second second_register =
    (codes "regions", array_of (object_of (told_region_values first first_register) ∷ object_of (told_region_values second second_register) ∷ [])) ∷ []

abbrev pub plain_told_values : Fault → List (List ℕ × Json)
plain_told_values (Unreached slot register space address bridge) =
    told_region_values slot register ++ (address_values space address ++ slot_value (codes "bridge") bridge)
plain_told_values (Clash bus space address first first_register second second_register) =
    (codes "bus", string (hex_byte bus)) ∷ (address_values space address ++ two_told_region_values first first_register second second_register)
plain_told_values (Split space address first first_register second second_register) =
    address_values space address ++ two_told_region_values first first_register second second_register
plain_told_values fault = fault_values fault

abbrev pub known_told_values : given.Fault → List (List ℕ × Json)
known_told_values (given.Known fault) = plain_told_values fault
known_told_values (given.Outside slot register space address) = told_region_values slot register ++ address_values space address

abbrev pub told_values : told.Fault → List (List ℕ × Json)
told_values (told.Known fault) = known_told_values fault
told_values (told.NotListed slot) = slot_value (codes "slot") slot

abbrev pub all_told_values : told.Fault → List (List ℕ × Json)
all_told_values fault =
    (codes "number", json_count (told.fault_number fault)) ∷ (codes "name", string (told_line.fault_name fault)) ∷ (codes "text", string (told_line.fault_text fault))
    ∷ told_values fault
