use Rattle.std.proofs.Common.{refl, ◌∙◌}
use Rattle.pci_kept.proofs.Stays.{stayed_none, all_stay}
use Rattle.pci_kept.proofs.staying.stay_all.Goals as goal

pub loop-index-init : goal.loop-index-init
loop-index-init c = record { size = refl; stayed = λ q s holds board parts stand are. stayed_none q s board.system board.nested holds stand c.args.board.now.regions.now parts c.args.table.now are }

pub loop-index-preserved : goal.loop-index-preserved
loop-index-preserved c = record {
  size = c.stay_one.auto.table ∙ c.loop-index.invariant.size;
  stayed = λ q s holds board parts stand are. c.stay_one.ensures q s holds board parts stand (c.loop-index.invariant.stayed q s holds board parts stand are);
}

pub returns : goal.returns
returns c = λ q s holds board parts stand are.
    all_stay q s board.system board.nested holds stand c.args.board.now.regions.now parts c.loop-index.index c.loop-index-test.false c.loop-index.table (c.loop-index.invariant.stayed q s holds board parts stand are)
