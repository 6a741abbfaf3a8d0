use Rattle.std.proofs.Common.{[], ap, sym, ◌∙◌}
use Rattle.std.proofs.lemmas.Bool.{both_ways}
use Rattle.pci_function.specs.declared.record.Record.{Record}
use Rattle.settle_spec.specs.Stands.{window_part}
use Rattle.settle_spec.specs.Lines.{lines_behind}
use Rattle.pci_grow.specs.Board.{bridge_of_window, window_class}
use Rattle.pci_grow.proofs.Facts.{no_facts, buses_are}
use Rattle.pci_grow.proofs.SpareBeside.{has_none, has_added}
use Rattle.pci_grow.proofs.sparing.held_behind.Goals as goal

pub returns-in-None : goal.returns-in-None
returns-in-None g c = λ q s asked window.
    absurd (both_ways _ (no_facts q s c.args.board.now asked c.args.window c.index-board-window.result c.requires.window c.index-board-window.is (ap (λ (r : Record). r.bridge) c.index-board-window.is ∙ c.in-None.is)) window.bridge)

pub returns-in_ok-add_lines_behind-in-Some : goal.returns-in_ok-add_lines_behind-in-Some
returns-in_ok-add_lines_behind-in-Some g c = λ q s asked window.
    let buses = buses_are q s c.args.board.now asked c.args.window c.index-board-window.result c.requires.window c.index-board-window.is c.in-Some.bridge (ap (λ (r : Record). r.bridge) c.index-board-window.is ∙ c.in-Some.is) in
    has_added c.new-held.result.items c.add_lines_behind.new.out.items [] (lines_behind q (window_part (window_class c.args.window) (bridge_of_window s c.args.window))) (has_none c.new-held.result.items c.new-held.ensures.items)
    (c.in_ok-add_lines_behind-in-Some.ensures.added q (bridge_of_window s c.args.window) (window_class c.args.window) asked.told buses.0 buses.1 (sym c.of-space.ensures))
