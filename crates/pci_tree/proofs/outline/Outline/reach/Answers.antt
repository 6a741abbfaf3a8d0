use Rattle.std.proofs.Common.{subst, sym, ◌∙◌, arith}
use Rattle.pci_spec.specs.System.{window_space}
use Rattle.pci_base.specs.WindowKinds.{kind_value}
use Rattle.pci_base.specs.Space.{space_of, is_prefetch}
use Rattle.pci_tree.specs.Outline.{IsReachTo}
use Rattle.pci_tree.proofs.Outlines.{reach_in}
use Rattle.pci_tree.proofs.outline.Outline.reach.Goals as goal

pub returns : goal.returns
returns g c = λ s has.
    reach_in c.args.self.now.roots s (space_of c.args.space) c.args.prefetch c.args.bus c.into_ranges.result.items
    (subst (λ k. IsReachTo c.args.self.now.roots s (window_space k) (is_prefetch k) c.args.bus c.into_ranges.result.items) c.kind.ensures
    (subst (IsReachTo c.args.self.now.roots s (window_space (kind_value c.kind.result)) (is_prefetch (kind_value c.kind.result)) c.args.bus)
    (sym (c.into_ranges.ensures ∙ c.swap_remove-reach.ensures.value))
    (c.in_ok-all.ensures.exact s c.args.bus c.swap_remove-reach.result has (omega arith))))
