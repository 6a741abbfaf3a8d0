use Rattle.std.proofs.Common.{[], ◌++◌, ap, subst, ◌∙◌}
use Rattle.pci_picture.specs.Roots.{listed_functions}
use Rattle.pci_picture.specs.Walks.{WritesBus}
use Rattle.pci_picture.proofs.Boxes.{then_draws}
use Rattle.pci_picture.proofs.tree.draw_root.Goals as goal

pub returns : goal.returns
returns g c = record {
  adds = then_draws [] _ _ _ c.in_ok-add_heading.ensures.adds c.in_ok-end.ensures.adds;
  rows = λ before marked.
      let functions = listed_functions c.args.board.now.functions.items in
      let badges = c.args.board.now.faults.badges.items in
      let rows =
      subst (λ y. WritesBus functions badges before c.args.root y c.in_ok-end.end c.draw_bus.new.drawn c.add_heading.new.self c.draw_bus.new.canvas) c.saturating_add-below.ensures
      (c.in_ok-end.ensures.rows before marked) in
      record {
        below = c.in_ok-end.end;
        bus = record {
          rows = rows.rows;
          text = rows.text;
          now = rows.now;
          are = rows.are;
          marked = rows.marked;
          written = rows.written;
          writes = rows.writes ∙ ap (λ l. l ++ rows.text) c.in_ok-add_heading.ensures.writes;
        };
        ends = c.saturating_add-2.ensures;
      };
}
