use Rattle.std.proofs.Common.{subst}
use Rattle.std.specs.List.{All}
use Rattle.std.proofs.lemmas.List.{take_all}
use Rattle.std.proofs.lemmas.List.Elements.{All-more}
use Rattle.pci_faults.specs.Quiet.{IsOff}
use Rattle.pci_faults.proofs.quiet.are_off_pieces.Goals as goal

pub loop-region-preserved : goal.loop-region-preserved
loop-region-preserved c =
    All-more (IsOff c.args.bridge c.args.pieces.now) c.args.regions.now c.loop-region.region-index c.region-item.result c.loop-region-test.true c.loop-region.invariant
    (subst (IsOff c.args.bridge c.args.pieces.now) c.region-item.is (c.is_off.ensures c.if-not-is_off.false))

pub returns : goal.returns
returns c off = subst (All (IsOff c.args.bridge c.args.pieces.now)) (take_all c.loop-region.region-index c.args.regions.now c.loop-region-test.false) c.loop-region.invariant
