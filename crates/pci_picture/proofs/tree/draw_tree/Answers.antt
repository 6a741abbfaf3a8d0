use Rattle.std.proofs.Common.{[], arith, subst, sym, ◌∙◌}
use Rattle.std.specs.String.{string_bytes}
use Rattle.pci_picture.specs.Roots.{AreBusesAbove, listed_functions}
use Rattle.pci_picture.proofs.Boxes.{then_draws, unchanged}
use Rattle.pci_picture.proofs.RootRows.{tree_begins, tree_ends, tree_grows, tree_skips}
use Rattle.pci_picture.proofs.tree.draw_tree.Goals as goal

pub loop-bus-init : goal.loop-bus-init
loop-bus-init g c = record {
  adds = unchanged c.args.canvas.now;
  tree = tree_begins (listed_functions c.args.board.now.functions.items) c.args.board.now.faults.badges.items c.args.top (string_bytes c.args.canvas.now.words);
}

pub loop-bus-preserved : goal.loop-bus-preserved
loop-bus-preserved g c =
    let functions = listed_functions c.args.board.now.functions.items in
    let badges = c.args.board.now.faults.badges.items in
    let tree = c.loop-bus.invariant.tree in
    let above = subst (λ l. AreBusesAbove (listed_functions l) c.buses_above-above.result) c.as_slice.ensures.value c.buses_above-above.ensures in
    let root = c.in_ok-y.ensures.rows tree.drawn tree.marked in
    record {
      adds = then_draws [] _ _ _ c.loop-bus.invariant.adds c.in_ok-y.ensures.adds;
      tree =
          tree_grows functions badges c.args.top c.loop-bus.bus c.loop-bus.drawn c.loop-bus.y (string_bytes c.args.canvas.now.words) (string_bytes c.loop-bus.canvas.words) (omega arith) tree
          c.loop-bus.canvas c.draw_root.new.canvas c.in_ok-y.y c.draw_root.new.drawn (string_bytes c.draw_root.new.canvas.words)
          (sym (c.is_root.ensures above tree.drawn tree.marked) ∙ c.if-not-is_root.false) root root.bus.writes;
    }

pub loop-bus-preserved-then-not-is_root : goal.loop-bus-preserved-then-not-is_root
loop-bus-preserved-then-not-is_root g c =
    let functions = listed_functions c.args.board.now.functions.items in
    let badges = c.args.board.now.faults.badges.items in
    let tree = c.loop-bus.invariant.tree in
    let above = subst (λ l. AreBusesAbove (listed_functions l) c.buses_above-above.result) c.as_slice.ensures.value c.buses_above-above.ensures in
    record {
      adds = c.loop-bus.invariant.adds;
      tree =
          tree_skips functions badges c.args.top c.loop-bus.bus c.loop-bus.drawn c.loop-bus.y (string_bytes c.args.canvas.now.words) (string_bytes c.loop-bus.canvas.words) (omega arith) tree
          (sym (c.is_root.ensures above tree.drawn tree.marked) ∙ c.if-not-is_root.true);
    }

pub returns-clause-tree : goal.returns-clause-tree
returns-clause-tree g c =
    let tree = c.loop-bus.invariant.tree in
    record {
      text = tree.text;
      is =
          tree_ends (listed_functions c.args.board.now.functions.items) c.args.board.now.faults.badges.items c.args.top c.loop-bus.bus c.loop-bus.drawn c.loop-bus.y
          (string_bytes c.args.canvas.now.words) (string_bytes c.loop-bus.canvas.words) (omega (arith, c.loop-bus-test.false)) tree;
      writes = tree.says;
    }
