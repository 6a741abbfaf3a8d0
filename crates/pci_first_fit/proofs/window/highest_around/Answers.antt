use Rattle.std.proofs.Common.{◌≡◌, ◌+◌, map, min, sym, subst}
use Rattle.std.specs.List.{fold}
use Rattle.pci_first_fit.specs.declared.extent.Extent.{Extent}
use Rattle.pci_first_fit.specs.Spots.{extent_value}
use Rattle.pci_first_fit.specs.Windows.{highests}
use Rattle.pci_first_fit.proofs.Around.{left, least_next, least_all}
use Rattle.pci_first_fit.proofs.window.highest_around.Goals as goal

-- what an index past the end is read as
abbrev no_extent : Extent
no_extent = record { size = 0; alignment = 0; highest = 0 }

pub loop-extent-preserved : goal.loop-extent-preserved
loop-extent-preserved c =
    subst (λ a. fold min a (highests (left c.args.extents.now (c.loop-extent.extent-index + 1))) ≡ fold min c.args.highest (highests (map extent_value c.args.extents.now)))
    (sym c.earlier-least.ensures)
    (least_next c.args.extents.now c.loop-extent.extent-index no_extent c.loop-extent.least _ c.loop-extent-test.true c.loop-extent.invariant)

pub returns : goal.returns
returns c = least_all c.args.extents.now c.loop-extent.extent-index c.loop-extent.least _ c.loop-extent-test.false c.loop-extent.invariant
