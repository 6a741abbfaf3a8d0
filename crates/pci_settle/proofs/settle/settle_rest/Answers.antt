use Rattle.std.proofs.Common.{sym, subst}
use Rattle.pci_place.specs.Above.{system_in}
use Rattle.pci_first_fit.specs.Slots.{demand_value}
use Rattle.pci_kept.specs.Known.{asked_by_rules}
use Rattle.pci_settle.specs.Ended.{ended_value}
use Rattle.pci_settle.specs.ToldEndings.{HasEachFlag, KnowsTold}
use Rattle.pci_settle.proofs.Outcomes.{ended_growing}
use Rattle.pci_settle.proofs.settle.settle_rest.Goals as goal

pub settle_grown-requires-clause-has : goal.settle_grown-requires-clause-has
settle_grown-requires-clause-has g c = record {
  fixed = c.requires.flags.size;
  told = subst HasEachFlag (sym c.told.ensures.value) c.in_ok-known.ensures.flags;
}

pub settle_grown-requires-clause-told : goal.settle_grown-requires-clause-told
settle_grown-requires-clause-told g c = c.told.ensures.ranges

pub settle_grown-requires-clause-bounds : goal.settle_grown-requires-clause-bounds
settle_grown-requires-clause-bounds g c =
    let a = c.args.admitted.now in
    let q = asked_by_rules a.roots (demand_value c.args.lists.now) c.args.rules.now in record {
      fixed = c.requires.flags;
      told = subst (KnowsTold q (system_in a)) (sym c.told.ensures.value) c.in_ok-known.ensures.known;
    }

pub settle_ungrown-requires-clause-has : goal.settle_ungrown-requires-clause-has
settle_ungrown-requires-clause-has g c = record {
  fixed = c.requires.flags.size;
  told = subst HasEachFlag (sym c.told.ensures.value) c.in_ok-known.ensures.flags;
}

pub settle_ungrown-requires-clause-told : goal.settle_ungrown-requires-clause-told
settle_ungrown-requires-clause-told g c = c.told.ensures.ranges

pub settle_ungrown-requires-clause-bounds : goal.settle_ungrown-requires-clause-bounds
settle_ungrown-requires-clause-bounds g c =
    let a = c.args.admitted.now in
    let q = asked_by_rules a.roots (demand_value c.args.lists.now) c.args.rules.now in record {
      fixed = c.requires.flags;
      told = subst (KnowsTold q (system_in a)) (sym c.told.ensures.value) c.in_ok-known.ensures.known;
    }

pub returns-in-Ok-clause-ends : goal.returns-in-Ok-clause-ends
returns-in-Ok-clause-ends g c =
    let a = c.args.admitted.now in
    ended_growing a (asked_by_rules a.roots (demand_value c.args.lists.now) c.args.rules.now) (ended_value c.in-Ok.ended) c.in-Ok.ensures.ends
