use Rattle.std.proofs.Common.{◌<◌, ℕ, arith, length, subst}
use Rattle.pci_base.specs.Space.{space_of}
use Rattle.pci_check.specs.Stops.{IsBusBehind, IsWholeBehind}
use Rattle.pci_check.proofs.Losing.{whole_more}
use Rattle.pci_check.proofs.unreached.first_stop.Goals as goal

pub returns-in-Some : goal.returns-in-Some
returns-in-Some g c =
    record {
      within = omega arith;
      bus = c.bus_behind.result;
      small = omega arith;
      behind = subst (λ end. IsBusBehind c.args.path.now end c.loop-i.i c.bus_behind.result) c.bus-end.ensures c.bus_behind.ensures;
      lost = c.in-Some.ensures;
      before = subst (λ end. (j : ℕ) → j < c.loop-i.i → IsWholeBehind c.args.reached.now (space_of c.args.space) c.args.path.now end c.args.region.now j) c.bus-end.ensures
          c.loop-i.invariant;
    }

pub loop-i-preserved : goal.loop-i-preserved
loop-i-preserved g c =
    whole_more c.args.reached.now (space_of c.args.space) c.args.path.now c.bus-end.result c.args.region.now c.loop-i.i c.bus_behind.result c.bus_behind.ensures c.in_default.ensures c.loop-i.invariant

pub returns : goal.returns
returns g c = subst (λ end. (k : ℕ) → k < length c.args.path.now → IsWholeBehind c.args.reached.now (space_of c.args.space) c.args.path.now end c.args.region.now k) c.bus-end.ensures
    (λ k less. c.loop-i.invariant k (omega arith))
