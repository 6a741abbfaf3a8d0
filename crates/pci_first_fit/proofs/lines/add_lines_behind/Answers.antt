use Rattle.std.proofs.Common.{◌+◌, sym, ◌∙◌}
use Rattle.std.proofs.lemmas.Bool.{eqb-true}
use Rattle.pci_base.specs.Space.{space_of}
use Rattle.pci_first_fit.specs.Lines.{is_on_levels, is_root_line}
use Rattle.pci_first_fit.proofs.Rows.{none_behind, added_behind, forward_more}
use Rattle.pci_first_fit.proofs.lines.add_lines_behind.Goals as goal

pub returns-then-is_empty-clause-added : goal.returns-then-is_empty-clause-added
returns-then-is_empty-clause-added g c = λ q b class are first last space.
    none_behind q b class c.args.lines.now c.args.out.now.items are (eqb-true _ _ (sym c.is_empty.ensures ∙ c.if-is_empty.true))

pub returns-clause-added : goal.returns-clause-added
returns-clause-added g c = λ q b class are first last space.
    added_behind q b class c.args.bridge.now.secondary c.args.bridge.now.subordinate (space_of c.args.space) c.args.lines.now are first last space
    c.args.out.now.items c.add_roots.new.out.items c.add_levels.new.out.items c.in_ok-add_roots.ensures c.in_ok-add_levels.ensures

pub returns-clause-forward : goal.returns-clause-forward
returns-clause-forward g c = λ fine.
    forward_more c.args.lines.now (is_on_levels (c.args.bridge.now.secondary + 1) (c.args.bridge.now.subordinate + 1) (space_of c.args.space)) c.add_roots.new.out.items c.add_levels.new.out.items c.requires.forward c.in_ok-add_levels.ensures
    (forward_more c.args.lines.now (is_root_line c.args.bridge.now.secondary c.args.bridge.now.subordinate (space_of c.args.space)) c.args.out.now.items c.add_roots.new.out.items c.requires.forward c.in_ok-add_roots.ensures fine)
