-- What a function's listing is made of.
use Rattle.std.specs.Prelude.{List, [], ◌++◌, ℕ, Option, None, Some}
use Rattle.std.specs.List.{flat_map}
use Rattle.pci_spec.specs.Decoded.{Bridge, Record}
use Rattle.pci_spec.specs.Listing.{bar_line, rom_lines, bridge_lines}

-- the lines of a bridge, where the function is one
abbrev pub lines_of_bridge : Option Bridge → List ℕ
lines_of_bridge None = []
lines_of_bridge (Some b) = bridge_lines b

-- the lines of what the address registers decode to
abbrev pub record_lines : Record → List ℕ
record_lines r = flat_map bar_line r.bars ++ (rom_lines r.rom ++ lines_of_bridge r.bridge)
