use Rattle.std.proofs.Common.{subst, sym, ap, ◌∙◌, length, ◌+◌, ℕ, List}
use Rattle.std.proofs.lemmas.List.{length_push}
use Rattle.pci_spec.specs.Bus.{IsNested}
use Rattle.pci_spec.specs.Decoded as decoded
use Rattle.pci_spec.specs.Decoded.{HasRecords}
use Rattle.pci_claims.specs.Values.{code_given_value}
use Rattle.pci_map.specs.Left.{HasAbove}
use Rattle.pci_map.specs.Ways.{IsWayTo, AreWays}
use Rattle.pci_map.proofs.Ups.{one_way_more}
use Rattle.pci_map.proofs.ways.find_ways.Goals as goal

pub loop-bus-preserved : goal.loop-bus-preserved
loop-bus-preserved g c = record {
  size = ap length c.in_ok-push.ensures.items ∙ length_push c.loop-bus.ways.items _ ∙ ap (λ n. n + 1) c.loop-bus.invariant.size;
  ways = λ s tree. (
      let roots = c.args.outline.now.roots in
      let records = subst (λ (rs : List decoded.Record). HasRecords s rs) (sym c.records-records.ensures.value) tree.records in
      let above = subst (λ (bs : List ℕ). HasAbove bs s c.loop-bus.bus c.find_above-above.result) c.roots-roots.ensures
      (c.find_above-above.ensures s records (subst (λ (bs : List ℕ). IsNested bs s) (sym c.roots-roots.ensures) tree.nested)) in
      let before = c.loop-bus.invariant.ways s tree in
      let size = c.loop-bus.invariant.size in
      let here = c.in_ok-way.ensures s tree (subst (AreWays (code_given_value c.args.given.now) roots s) (sym c.as_slice.ensures.value) before)
      (subst (λ n. HasAbove roots s n c.find_above-above.result) (sym (ap length c.as_slice.ensures.value ∙ size)) above) in
      one_way_more (code_given_value c.args.given.now) roots s c.loop-bus.ways.items c.push.new.self.items c.in_ok-way.way c.in_ok-push.ensures.items before
      (subst (λ n. IsWayTo (code_given_value c.args.given.now) roots s n c.in_ok-way.way) (ap length c.as_slice.ensures.value) here));
}
