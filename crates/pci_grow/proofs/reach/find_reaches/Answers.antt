use Rattle.std.proofs.Common.{refl, ◌∙◌}
use Rattle.pci_grow.specs.Reaches.{given_value}
use Rattle.pci_grow.proofs.FoundReaches.{none_outside, all_outside, more_outside, none_told, all_told}
use Rattle.pci_grow.proofs.reach.find_reaches.Goals as goal

pub loop-index-init : goal.loop-index-init
loop-index-init c = record {
  size = refl;
  told = λ q s is. none_told q s c.args.board.now.records.now (given_value c.args.board.now) c.args.rows.now is c.args.reaches.now;
  others = none_outside c.args.rows.now c.args.reaches.now;
}

pub tell_reach-requires-clause-told : goal.tell_reach-requires-clause-told
tell_reach-requires-clause-told c =
    let rows = c.requires.rows in
    (rows.0, rows.1, rows.2, c.loop-index.invariant.told rows.0 rows.1 rows.2)

pub returns-clause-reaches : goal.returns-clause-reaches
returns-clause-reaches c = λ q s is.
    all_told q s c.args.board.now.records.now (given_value c.args.board.now) c.args.rows.now is c.loop-index.index c.loop-index.reaches c.loop-index-test.false (c.loop-index.invariant.told q s is)

pub loop-index-preserved : goal.loop-index-preserved
loop-index-preserved c = record {
  size = c.tell_reach.ensures.count ∙ c.loop-index.invariant.size;
  told = λ q s is. c.tell_reach.ensures.told q s is (c.loop-index.invariant.told q s is);
  others = more_outside c.args.rows.now c.args.reaches.now c.loop-index.index c.loop-index.reaches c.tell_reach.new.reaches c.loop-index-test.true c.loop-index.invariant.others c.tell_reach.ensures.others;
}

pub returns-clause-others : goal.returns-clause-others
returns-clause-others c = all_outside c.args.rows.now c.args.reaches.now c.loop-index.index c.loop-index.reaches c.loop-index.invariant.others
