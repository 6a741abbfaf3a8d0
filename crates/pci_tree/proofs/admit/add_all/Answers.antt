use Rattle.std.proofs.Common.{arith, sym, subst}
use Rattle.pci_spec.specs.Stops.{IsAboveLast}
use Rattle.pci_tree.proofs.Pairings.{adding_none, adding_more, adding_all, same_slot_here, above_here}
use Rattle.pci_tree.proofs.admit.add_all.Goals as goal

pub loop-i-init : goal.loop-i-init
loop-i-init g c = adding_none c.args.survey.now c.args.dump.now c.args.probe.now c.requires.none c.requires.first c.requires.open

pub add-requires-clause-above : goal.add-requires-clause-above
add-requires-clause-above g c =
    above_here c.loop-i.survey c.args.survey.now.roots c.args.dump.now c.args.probe.now c.loop-i.i c.index-dump-i.result c.loop-i.invariant (omega arith) c.index-dump-i.is

-- the two blocks of a turn have one slot
pub add-requires-clause-probe_above : goal.add-requires-clause-probe_above
add-requires-clause-probe_above g c =
    subst (IsAboveLast c.loop-i.survey.last) (sym (same_slot_here c.args.dump.now c.args.probe.now c.loop-i.i c.index-dump-i.result c.index-probe-i.result c.requires.same (omega arith) c.index-dump-i.is c.index-probe-i.is))
    (add-requires-clause-above g c)

pub add-requires-clause-open : goal.add-requires-clause-open
add-requires-clause-open g c = c.loop-i.invariant.no_30

pub loop-i-preserved : goal.loop-i-preserved
loop-i-preserved g c =
    adding_more c.loop-i.survey c.add.new.self c.args.survey.now.roots c.args.dump.now c.args.probe.now c.loop-i.i c.index-dump-i.result c.index-probe-i.result c.requires.same c.requires.rising (omega arith)
    c.index-dump-i.is c.index-probe-i.is c.loop-i.invariant
    (c.in_ok-add.ensures.added (same_slot_here c.args.dump.now c.args.probe.now c.loop-i.i c.index-dump-i.result c.index-probe-i.result c.requires.same (omega arith) c.index-dump-i.is c.index-probe-i.is))

pub returns-clause-taken : goal.returns-clause-taken
returns-clause-taken g c = adding_all c.loop-i.survey c.args.survey.now.roots c.args.dump.now c.args.probe.now c.loop-i.i c.requires.same (omega arith) c.loop-i.invariant

pub returns-clause-roots : goal.returns-clause-roots
returns-clause-roots g c = c.loop-i.invariant.roots_are

pub returns-clause-open : goal.returns-clause-open
returns-clause-open g c = c.loop-i.invariant.no_30
