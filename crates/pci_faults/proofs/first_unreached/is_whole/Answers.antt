use Rattle.std.proofs.Common.{List, ◌∙◌, ap, subst, get_or, []}
use Rattle.pci_base.specs.declared.range.Range.{Range}
use Rattle.pci_base.specs.Space.{space_of, kind_in}
use Rattle.pci_tree.specs.Ranges.{Covers}
use Rattle.pci_check.specs.Stops.{reaches_by}
use Rattle.pci_faults.proofs.first_unreached.is_whole.Goals as goal

pub returns-in-None : goal.returns-in-None
returns-in-None g c is a held =
    subst (λ (rs : List Range). Covers rs a)
    (c.ranges-passed.ensures.same ∙ ap (λ k. get_or (reaches_by c.args.reached.now k) c.bus.result []) c.kind.ensures
    ∙ ap (λ n. get_or (reaches_by c.args.reached.now (kind_in (space_of c.args.one.now.space) c.args.one.now.prefetch)) n []) c.bus.ensures)
    (c.in-None.ensures a held)
