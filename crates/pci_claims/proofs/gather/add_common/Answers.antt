use Rattle.std.proofs.Common.{arith, get_or}
use Rattle.std.proofs.lemmas.List.{get_or_default}
use Rattle.pci_base.specs.declared.range.Range.{Range}
use Rattle.pci_claims.proofs.Gathering.{start_common, more_common, end_common, whole_common}
use Rattle.pci_claims.proofs.gather.add_common.Goals as goal

pub loop-i-init : goal.loop-i-init
loop-i-init g c = record {
  from = omega arith;
  push = start_common _ c.args.ss.now c.first_not_before-from.result c.args.r c.requires.canonical c.first_not_before-from.ensures.bound c.first_not_before-from.ensures.before;
}

pub returns-in-None : goal.returns-in-None
returns-in-None g c =
    let s : Range = get_or c.args.ss.now c.loop-i.i record { first = 0; last = 0 } in
    end_common _ _ c.args.ss.now c.loop-i.i c.first_not_before-from.result c.args.r s c.loop-i.invariant.push c.requires.second (omega arith)
    (get_or_default c.args.ss.now c.loop-i.i record { first = 0; last = 0 } s (omega arith)) c.loop-i.invariant.from
    c.first_not_before-from.ensures.after c.in-None.ensures

pub loop-i-preserved : goal.loop-i-preserved
loop-i-preserved g c =
    let s : Range = get_or c.args.ss.now c.loop-i.i record { first = 0; last = 0 } in
    record {
      from = (let low = c.loop-i.invariant.from in omega (arith, low));
      push = more_common _ c.loop-i.out.items _ c.args.ss.now c.loop-i.i c.args.r s c.in-Some.m c.loop-i.invariant.push c.requires.second (omega arith)
          (get_or_default c.args.ss.now c.loop-i.i record { first = 0; last = 0 } s (omega arith)) c.requires.below c.in_ok-push-in-Some.ensures.items c.in-Some.ensures;
    }

pub returns : goal.returns
returns g c = whole_common _ _ c.args.ss.now c.loop-i.i c.args.r c.loop-i.invariant.push (omega arith)
