use Rattle.std.proofs.Common.{◌≡◌, ◌+◌, length, false, arith, sym, ◌∙◌, ap, get_or, subst}
use Rattle.pci_spec.specs.Slot.{Slot}
use Rattle.pci_tree.proofs.Lifting.{same_slot_of}
use Rattle.pci_place.specs.declared.above.Above.{Above}
use Rattle.pci_place.specs.Above.{system_in, IsAbove}
use Rattle.pci_place.proofs.Records.{lent, function_read, same_count}
use Rattle.pci_place.proofs.Aboves.{AreAbovesTo, aboves_none, above_of, aboves_same, aboves_more, secondary_small, whole_aboves}
use Rattle.pci_place.proofs.above.aboves.Goals as goal
use Rattle.pci_place.proofs.above.aboves.Goals.{in-Some, in_default}

pub loop-record-init : goal.loop-record-init
loop-record-init g c = aboves_none c.args.admitted.now.roots (system_in c.args.admitted.now) c.outline.ensures.admitted.system c.outline.ensures.admitted.nested

pub loop-record-preserved : goal.loop-record-preserved
loop-record-preserved g c =
    let roots = c.args.admitted.now.roots in
    let s = system_in c.args.admitted.now in
    let admitted = c.outline.ensures.admitted in
    let k = c.loop-record.record-index in
    let r = c.record-item.result in
    let here = function_read s c.records-record-items.result.now c.records-record-items.ensures.value c.outline.ensures.records k r c.loop-record-test.true c.record-item.is in
    let aboves = c.loop-record.aboves in
    elim c.match-record.branch [
      | in-Some w ↦
          let d : Above = record { io = false; pref = false; wide = false } in
          let bus : w.bus.result ≡ here.f.slot.bus = w.bus.ensures ∙ ap (λ (x : Slot). x.bus) (same_slot_of r here.f here.is.value) in
          let above : IsAbove s here.f.slot.bus (get_or aboves w.bus.result d) =
          subst (λ n. IsAbove s here.f.slot.bus (get_or aboves n d)) (sym bus) (above_of roots s admitted.system admitted.nested k here.f r here.at here.is aboves c.loop-record.invariant d) in
          subst (λ next. AreAbovesTo roots s (k + 1) next) (sym w.aboves-is)
          (aboves_more roots s admitted.system admitted.nested k here.f r here.at here.is aboves c.loop-record.invariant w.in-Some.bridge w.in-Some.is
          (get_or aboves w.bus.result d) w.and.result above w.and.ensures.io w.and.ensures.pref w.and.ensures.wide)
      | in_default w ↦
          subst (λ next. AreAbovesTo roots s (k + 1) next) (sym w.aboves-is)
          (aboves_same roots s admitted.system admitted.nested k here.f r here.at here.is aboves c.loop-record.invariant w.in_default.is)
    ]

pub overflow_cast-secondary : goal.overflow_cast-secondary
overflow_cast-secondary g c =
    let here = function_read (system_in c.args.admitted.now) c.records-record-items.result.now c.records-record-items.ensures.value c.outline.ensures.records c.loop-record.record-index c.record-item.result c.loop-record-test.true c.record-item.is in
    let small = secondary_small _ c.outline.ensures.admitted.system here.f c.record-item.result c.in-Some.bridge here.is c.in-Some.is in
    omega (arith, small)

pub offset_bounds-aboves-secondary : goal.offset_bounds-aboves-secondary
offset_bounds-aboves-secondary g c =
    let here = function_read (system_in c.args.admitted.now) c.records-record-items.result.now c.records-record-items.ensures.value c.outline.ensures.records c.loop-record.record-index c.record-item.result c.loop-record-test.true c.record-item.is in
    let small = secondary_small _ c.outline.ensures.admitted.system here.f c.record-item.result c.in-Some.bridge here.is c.in-Some.is in
    omega (arith, small)

pub bounds-aboves-secondary : goal.bounds-aboves-secondary
bounds-aboves-secondary g c =
    let here = function_read (system_in c.args.admitted.now) c.records-record-items.result.now c.records-record-items.ensures.value c.outline.ensures.records c.loop-record.record-index c.record-item.result c.loop-record-test.true c.record-item.is in
    secondary_small _ c.outline.ensures.admitted.system here.f c.record-item.result c.in-Some.bridge here.is c.in-Some.is

pub returns : goal.returns
returns g c =
    let s = system_in c.args.admitted.now in
    let admitted = c.outline.ensures.admitted in
    let records = c.records-record-items.result.now in
    let count = same_count s records (lent s records c.records-record-items.ensures.value c.outline.ensures.records) in
    let all : c.loop-record.record-index ≡ length s = omega (arith, count) in
    whole_aboves c.args.admitted.now.roots s admitted.system admitted.nested c.loop-record.record-index c.loop-record.aboves all c.loop-record.invariant
