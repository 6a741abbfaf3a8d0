use Rattle.std.proofs.Common.{◌≡◌, ◌+◌, max, map, sym, subst}
use Rattle.plan_spec.specs.Plan.{greatest}
use Rattle.pci_first_fit.specs.declared.extent.Extent.{Extent}
use Rattle.pci_first_fit.specs.Spots.{extent_value}
use Rattle.pci_first_fit.specs.Windows.{alignments}
use Rattle.pci_first_fit.proofs.Around.{left, greatest_next, greatest_all}
use Rattle.pci_first_fit.proofs.window.alignment_around.Goals as goal

-- what an index past the end is read as
abbrev no_extent : Extent
no_extent = record { size = 0; alignment = 0; highest = 0 }

pub loop-extent-preserved : goal.loop-extent-preserved
loop-extent-preserved c =
    subst (λ a. max a (greatest (alignments (left c.args.extents.now (c.loop-extent.extent-index + 1)))) ≡ max c.args.page (greatest (alignments (map extent_value c.args.extents.now))))
    (sym c.later-alignment.ensures)
    (greatest_next c.args.extents.now c.loop-extent.extent-index no_extent c.loop-extent.alignment _ c.loop-extent-test.true c.loop-extent.invariant)

pub returns : goal.returns
returns c = greatest_all c.args.extents.now c.loop-extent.extent-index c.loop-extent.alignment _ c.loop-extent-test.false c.loop-extent.invariant
