use Rattle.std.proofs.Common.{◌≡◌, Some, true, refl, arith, below_more}
use Rattle.std.specs.Prelude.{IsTrue, slice_get}
use Rattle.std.proofs.lemmas.Bool.{iff_false}
use Rattle.std.proofs.lemmas.Option.{slice_get_within}
use Rattle.pci_tree.specs.Roots.{buses_of}
use Rattle.pci_base.specs.declared.range.RootRange.{RootRange}
use Rattle.pciplan_lists.specs.HostLists.{IsGoodRange, IsGoodHostList, MeetsEarlier}
use Rattle.pciplan_lists.proofs.HostLists.{good_there}
use Rattle.pciplan_lists.proofs.host_list.is_good_host_list.Goals as goal

pub loop-i-preserved : goal.loop-i-preserved
loop-i-preserved c = record {
  ranges = below_more (λ i. (r : RootRange) → slice_get c.args.list.now i ≡ Some r → IsGoodRange (buses_of c.args.roots.now) r) c.loop-i.i
      c.loop-i.invariant.ranges
      (good_there (buses_of c.args.roots.now) c.args.list.now c.loop-i.i _ (c.is_good_range.ensures.0 c.if-not-is_good_range.false));
  apart = below_more (λ i. MeetsEarlier c.args.list.now i → ⊥) c.loop-i.i c.loop-i.invariant.apart
      (iff_false c.meets_earlier.ensures c.if-meets_earlier.false);
}

pub returns : goal.returns
returns c = (
  λ (h : IsTrue true). record {
    ranges = λ i r is. c.loop-i.invariant.ranges i (omega (arith, slice_get_within c.args.list.now i r is, c.loop-i-test.false)) r is;
    apart = λ i m. c.loop-i.invariant.apart i (omega (arith, slice_get_within c.args.list.now i m.other m.is_other, c.loop-i-test.false)) m;
  },
  λ (h : IsGoodHostList (buses_of c.args.roots.now) c.args.list.now). refl,
)
