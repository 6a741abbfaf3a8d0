use Rattle.std.proofs.Common.{◌≡◌, ◌<◌, length, arith}
use Rattle.pci_check.proofs.Sweeps.{met_read, none_read, reached_read}
use Rattle.pci_check.proofs.sweep.first_shared_address.Goals as goal

pub returns-in-Some : goal.returns-in-Some
returns-in-Some c sorted = met_read c.loop-i.i _ _ _ _ _ sorted (omega arith) c.index-regions-i.is c.loop-i.invariant.reached c.loop-i.invariant.none c.in-Some.ensures

pub loop-i-preserved : goal.loop-i-preserved
loop-i-preserved c = record {
  reached = reached_read c.loop-i.i c.args.regions.now c.loop-i.reached c.extended-reached.result _ (omega arith) c.index-regions-i.is c.loop-i.invariant.reached c.extended-reached.ensures;
  none = none_read c.loop-i.i c.args.regions.now c.args.allowed.now c.loop-i.reached _ (omega arith) c.index-regions-i.is c.loop-i.invariant.reached c.loop-i.invariant.none c.in_default.ensures;
}

pub returns : goal.returns
returns c = let e : c.loop-i.i ≡ length c.args.regions.now = omega arith in
    λ a cov t. c.loop-i.invariant.none a cov (record { i = t.i; j = t.j; differ = t.differ; below = (let b : t.j < length c.args.regions.now = t.below in omega arith); first = t.first; second = t.second })
