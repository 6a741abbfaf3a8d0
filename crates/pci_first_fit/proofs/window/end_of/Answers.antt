use Rattle.pci_first_fit.specs.declared.extent.Extent.{Extent}
use Rattle.pci_first_fit.proofs.LaidOut.{laid_some, laid_lacks, laid_all}
use Rattle.pci_first_fit.proofs.window.end_of.Goals as goal

-- what an index past the end is read as
abbrev no_extent : Extent
no_extent = record { size = 0; alignment = 0; highest = 0 }

pub returns-in-None : goal.returns-in-None
returns-in-None g c =
    laid_lacks _ _ _ _ c.loop-extent.invariant c.requires c.loop-extent-test.true no_extent c.in_ok-next.field-0 c.in_ok-next.ensures.end c.in-None.is

pub loop-extent-preserved : goal.loop-extent-preserved
loop-extent-preserved g c =
    laid_some _ _ _ _ c.loop-extent.invariant c.requires c.loop-extent-test.true no_extent _ c.in_ok-next.field-0 _ c.laid_next.ensures.listed c.in_ok-next.ensures.laid
    c.in_ok-next.ensures.end c.in-Some.is _ c.later-end.ensures

pub returns : goal.returns
returns g c = laid_all _ _ _ _ c.loop-extent.invariant c.loop-extent-test.false
