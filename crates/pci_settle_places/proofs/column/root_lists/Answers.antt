use Rattle.std.proofs.Common.{◌∙◌, sym, subst}
use Rattle.std.proofs.lemmas.Bool.{both_ways}
use Rattle.pci_spec.specs.Bus.{is_root}
use Rattle.pci_base.specs.Space.{space_of}
use Rattle.pci_tree.specs.Roots.{buses_of}
use Rattle.pci_first_fit.specs.Lists.{lists_value}
use Rattle.pci_settle_places.specs.declared.column.Column.{Column}
use Rattle.pci_settle_places.specs.Columns.{AreColumn}
use Rattle.pci_settle_places.proofs.Columns.{columns_more}
use Rattle.pci_settle_places.proofs.column.root_lists.Goals as goal
use Rattle.pci_settle_places.proofs.column.root_lists.Goals.{then-is_root+in_ok-column, else-is_root}

pub loop-bus-preserved : goal.loop-bus-preserved
loop-bus-preserved g c =
    columns_more (buses_of c.args.roots.now) (lists_value c.args.lists.now) (space_of c.args.space) c.loop-bus.bus _ c.loop-bus.invariant c.if-is_root.column.plain.items c.if-is_root.column.wide.items c.if-is_root.column.prefetch.items
    (elim c.if-is_root.branch [
      | then-is_root+in_ok-column w ↦ λ root.
          subst (λ (x : Column g.row.A.Denot). AreColumn (lists_value c.args.lists.now) (space_of c.args.space) c.loop-bus.bus x.plain.items x.wide.items x.prefetch.items) (sym w.column-is) w.in_ok-column.ensures
      | else-is_root w ↦ λ root. absurd (both_ways (is_root (buses_of c.args.roots.now) c.loop-bus.bus) (sym c.is_root.ensures ∙ w.if-is_root.false) root)
    ]) _ c.in_ok-add_column.ensures
