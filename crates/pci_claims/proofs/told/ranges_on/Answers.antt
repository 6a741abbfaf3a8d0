use Rattle.std.proofs.Common.{List, subst, sym, arith}
use Rattle.std.specs.List.Sorted.{IsPermutation}
use Rattle.pci_spec.specs.Slot.{Slot}
use Rattle.pci_spec.specs.Decoded.{HasRecords}
use Rattle.pci_spec.specs.Decoded as decoded
use Rattle.pci_claims.specs.Values.{told_value}
use Rattle.pci_claims.proofs.Awake.{one_on_more}
use Rattle.pci_claims.proofs.told.ranges_on.Goals as goal

pub loop-range-preserved : goal.loop-range-preserved
loop-range-preserved g c =
    one_on_more (told_value c.args.told.now) c.args.outline.now c.loop-range.range-index c.loop-range.on.items c.range-item.result c.is_on.result c.push.new.self.items (omega arith) c.range-item.is
    (λ s tree. c.is_on.ensures (told_value c.args.told.now) s
    (subst (λ (l : List Slot). IsPermutation c.args.told.now.asleep.now l) (sym c.deref.ensures.value) c.in_ok-asleep.ensures.permutation) tree.system
    (subst (λ (rs : List decoded.Record). HasRecords s rs) (sym c.records-records.ensures.value) tree.records))
    c.in_ok-push.ensures.items c.loop-range.invariant
