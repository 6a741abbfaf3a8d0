use Rattle.std.proofs.Common.{◌≡◌, ◌||◌, drop, map}
use Rattle.std.specs.List.{list_any}
use Rattle.plan_spec.specs.Plan.{is_backward}
use Rattle.settle_spec.specs.Lists.{RootRange, has_no_root}
use Rattle.pci_tree.specs.Roots.{buses_of}
use Rattle.pci_first_fit.specs.Lists.{root_range_value}
use Rattle.pci_first_fit.proofs.list.has_bad_range.Given as goal

abbrev pub invariant-loop-one : goal.invariant-loop-one
invariant-loop-one l =
    list_any (λ (r : RootRange). is_backward r.range || has_no_root (buses_of l.roots) r.root) (drop l.one-index (map root_range_value l.list))
    ≡ list_any (λ (r : RootRange). is_backward r.range || has_no_root (buses_of l.roots) r.root) (map root_range_value l.list)
