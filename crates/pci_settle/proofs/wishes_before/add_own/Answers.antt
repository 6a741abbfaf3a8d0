use Rattle.std.proofs.Common.{arith, ap, ◌∙◌}
use Rattle.std.specs.List.{sum_by}
use Rattle.pci_spec.specs.System.{Memory}
use Rattle.pci_grow.specs.RoomRows.{bus_level, row_number}
use Rattle.pci_grow.specs.Located.{told_weight}
use Rattle.pci_settle.specs.Before.{bar_weight}
use Rattle.pci_settle.proofs.wishes_before.add_own.Goals as goal

pub returns : goal.returns
returns g c = λ roots weight n.
    let bars = c.in_ok-add_bars.ensures roots weight n in
    let rom = c.in_ok-add.ensures roots weight n in
    let bars_are =
    ap (λ bus. sum_by (bar_weight roots weight n bus c.args.places.now c.args.kept.now) c.as_slice.result.now) c.bus-bus.ensures
    ∙ ap (sum_by (bar_weight roots weight n c.args.record.now.slot.bus c.args.places.now c.args.kept.now)) c.as_slice.ensures.value in
    let rom_is =
    ap (λ bus. told_weight weight (row_number (bus_level roots bus) Memory) n c.rom_before.result) c.bus-bus.ensures
    ∙ ap (told_weight weight (row_number (bus_level roots c.args.record.now.slot.bus) Memory) n) c.rom_before.ensures in
    omega (arith, bars, rom, bars_are, rom_is)
