-- How many regions a function has.
use Rattle.std.proofs.Common.{◌≡◌, ◌+◌, ◌++◌, List, length, Option, arith}
use Rattle.std.specs.List.{count_by, filter}
use Rattle.std.proofs.lemmas.List.{length-append, length-map}
use Rattle.std.proofs.lemmas.List.Sums.{length-filter}
use Rattle.pci_spec.specs.Slot.{Slot}
use Rattle.pci_spec.specs.System.{Space}
use Rattle.pci_image.specs.declared.bar.Bar.{Bar}
use Rattle.pci_image.specs.declared.rom.Rom.{Rom}
use Rattle.pci_function.specs.declared.record.Bridge.{Bridge}
use Rattle.pci_tree.specs.Regions.{bar_region, is_bar_of, bar_regions, bridge_regions, rom_regions}

pub counted : (slot : Slot) (space : Space) (bars : List Bar) (bridge : Option Bridge) (rom : Option Rom)
    → length (bar_regions slot space bars ++ bridge_regions slot space bridge ++ rom_regions slot space rom)
    ≡ count_by (is_bar_of space) bars + length (bridge_regions slot space bridge) + length (rom_regions slot space rom)
counted slot space bars bridge rom =
    let all = length-append (bar_regions slot space bars ++ bridge_regions slot space bridge) (rom_regions slot space rom) in
    let first = length-append (bar_regions slot space bars) (bridge_regions slot space bridge) in
    let mapped = length-map (filter (is_bar_of space) bars) (bar_region slot) in
    let filtered = length-filter (is_bar_of space) bars in
    omega (arith, all, first, mapped, filtered)
