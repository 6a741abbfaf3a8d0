use Rattle.std.proofs.Common.{ap, sym, ◌∙◌}
use Rattle.pci_function.specs.declared.record.Record.{Record}
use Rattle.pci_spec.specs.System.{window_space}
use Rattle.pci_grow.specs.Board.{bridge_of_window, window_class}
use Rattle.pci_first_fit.specs.Tables.{told}
use Rattle.pci_grow.proofs.Facts.{bus_at}
use Rattle.pci_grow.proofs.Filled.{window_added}
use Rattle.pci_grow.proofs.fill.add_window.Goals as goal

pub returns-in_ok-push : goal.returns-in_ok-push
returns-in_ok-push g c = λ q s asked weight n.
    window_added q.roots weight n c.args.parts.now.items c.push.new.self.items _ (bridge_of_window s c.args.window).slot.bus (window_space (window_class c.args.window)) (told c.args.board.now.windows.now c.args.window.bridge c.args.window.class)
    c.in_ok-push.ensures.items
    (c.bus-bus.ensures ∙ sym (ap (λ (r : Record). r.slot.bus) c.index-board-window.is) ∙ bus_at q s c.args.board.now asked c.args.window.bridge c.index-board-window.result c.requires c.index-board-window.is)
    c.of-space.ensures c.in-Some.ensures
