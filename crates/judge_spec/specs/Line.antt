-- How faults are printed, with what is given.
use Rattle.std.specs.Prelude.{List, ℕ, [], ◌∷◌, ◌++◌, codes}
use Rattle.std.specs.List.{flat_map}
use Rattle.pci_spec.specs.Line.{two_digits, field, region_field, place_field}
use Rattle.pci_spec.specs.Line as plain
use Rattle.judge_spec.specs.Fault.{Fault, Known, Outside, fault_number}

-- a fault's name
abbrev pub fault_name : Fault → List ℕ
fault_name (Known fault) = plain.fault_name fault
fault_name (Outside slot register space address) = codes "Outside"

-- what a fault names
abbrev pub fault_fields : Fault → List ℕ
fault_fields (Known fault) = plain.fault_fields fault
fault_fields (Outside slot register space address) =
    region_field slot register ++ place_field space address

-- a fault's number, name and fields
abbrev pub fault_text : Fault → List ℕ
fault_text fault = two_digits (fault_number fault) ++ field (fault_name fault) ++ fault_fields fault

-- a fault's line
abbrev pub fault_line : Fault → List ℕ
fault_line fault = fault_text fault ++ 10 ∷ []

-- the text of a list of all: a line for each, and `yes` where there is none
abbrev pub list_text : List Fault → List ℕ
list_text [] = codes "yes" ++ 10 ∷ []
list_text (fault ∷ rest) = flat_map fault_line (fault ∷ rest)
