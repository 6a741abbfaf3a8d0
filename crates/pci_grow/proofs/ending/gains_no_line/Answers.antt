use Rattle.std.proofs.Common.{◌+◌, get_or, not, ap, sym, ◌∙◌}
use Rattle.std.specs.List.{list_all}
use Rattle.pci_spec.specs.Slot.{Slot}
use Rattle.pci_spec.specs.System.{Space}
use Rattle.pci_spec.specs.Decoded.{Range as DecodedRange}
use Rattle.judge_spec.specs.ToldRegion.{told_regions}
use Rattle.settle_spec.specs.Lines.{keeps_off}
use Rattle.pci_base.specs.Space.{space_of}
use Rattle.pci_function.specs.declared.record.Record.{Record}
use Rattle.pci_tree.specs.Roots.{buses_of}
use Rattle.pci_grow.specs.RoomRows.{bus_level}
use Rattle.pci_grow.specs.Board.{bridge_of_window}
use Rattle.pci_grow.proofs.Facts.{slot_at}
use Rattle.pci_grow.proofs.ending.gains_no_line.Goals as goal

pub returns : goal.returns
returns c q s asked window =
    let gain : DecodedRange = record { first = c.args.range.last + 1; last = c.args.last } in
    let own : Slot = (get_or c.args.board.now.records.now c.args.window.bridge c.index-board-window.result).slot in
    c.is_off_lines.ensures q asked.told
    (c.level-level.ensures.level ∙ ap (λ bus. bus_level (buses_of c.args.board.now.roots.now) bus) c.bus.ensures ∙ ap (λ roots. bus_level roots own.bus) (sym asked.roots))
    ∙ ap (λ (r : Record). list_all (λ x. not (keeps_off q x r.slot (space_of c.of.result) gain)) (told_regions q.told)) (sym c.index-board-window.is)
    ∙ ap (λ (slot : Slot). list_all (λ x. not (keeps_off q x slot (space_of c.of.result) gain)) (told_regions q.told)) (slot_at q s c.args.board.now asked c.args.window.bridge c.index-board-window.result c.requires.window c.index-board-window.is)
    ∙ ap (λ (space : Space). list_all (λ x. not (keeps_off q x (bridge_of_window s c.args.window).slot space gain)) (told_regions q.told)) c.of.ensures
