-- Parts whose read backs are assumed, as the titles of a probe name their registers: nothing is settled by a guess.
use Rattle.std.specs.Prelude.{Bool, false, ◌&&◌, List, Option, map}
use Rattle.std.specs.List.{find, flat_map}
use Rattle.pci_spec.specs.Bar.{has_bar}
use Rattle.pci_spec.specs.Rom.{has_rom, rom_is_on}
use Rattle.pci_spec.specs.System.{System, Function, Part, Bar, Rom, Window, register_of}
use Rattle.pci_spec.specs.Mark.{AssumedRegister, is_size_assumed}
use Rattle.settle_spec.specs.Parts.{FunctionPart, header_parts}

-- an implemented BAR, or a ROM that is on, whose register is named; a window has no size of its own
abbrev pub is_assumed_part : List AssumedRegister → Function → Part → Bool
is_assumed_part named f (Bar n) =
    has_bar f.probe n && is_size_assumed named f.slot (register_of f (Bar n))
is_assumed_part named f Rom =
    (has_rom f.image f.probe && rom_is_on f.image)
    && is_size_assumed named f.slot (register_of f Rom)
is_assumed_part named f (Window kind) = false

abbrev pub is_assumed_register : List AssumedRegister → FunctionPart → Bool
is_assumed_register named r = is_assumed_part named r.function r.part

-- whether settling looks at them or not
abbrev pub all_parts_of : Function → List FunctionPart
all_parts_of f = map (λ p. record { function = f; part = p }) (header_parts f)

-- the first, by slot and register
abbrev pub assumed_region : List AssumedRegister → System → Option FunctionPart
assumed_region named s = find (is_assumed_register named) (flat_map all_parts_of s)
