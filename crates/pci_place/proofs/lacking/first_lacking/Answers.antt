use Rattle.std.proofs.Common.{◌≡◌, inl, inr, length, arith, sym, ◌∙◌}
use Rattle.std.proofs.lemmas.Bool.{not-true, not-false}
use Rattle.pci_place.specs.Above.{system_in}
use Rattle.pci_place.proofs.Records.{lent, function_read, same_count}
use Rattle.pci_place.proofs.NoWindows.{none_lacks, first_here, none_more}
use Rattle.pci_place.proofs.lacking.first_lacking.Goals as goal
use Rattle.pci_place.proofs.lacking.first_lacking.Goals.{else-not-above-via-then-not-above+else-has_io_bar, else-not-above-via-else-not-above}

pub returns-then-has_io_bar : goal.returns-then-has_io_bar
returns-then-has_io_bar g c =
    let s = system_in c.args.admitted.now in
    let here = function_read s c.records-record-items.result.now c.records-record-items.ensures.value c.outline.ensures.records c.loop-record.record-index c.record-item.result c.loop-record-test.true c.record-item.is in
    first_here s c.outline.ensures.admitted.system _ _ here c.args.aboves.now c.requires c.bus.result c.bus.ensures c.loop-record.invariant
    (not-true _ c.if-not-above.true) (sym c.has_io_bar.ensures ∙ c.if-has_io_bar.true)

pub loop-record-preserved : goal.loop-record-preserved
loop-record-preserved g c =
    let s = system_in c.args.admitted.now in
    let here = function_read s c.records-record-items.result.now c.records-record-items.ensures.value c.outline.ensures.records c.loop-record.record-index c.record-item.result c.loop-record-test.true c.record-item.is in
    none_more s c.outline.ensures.admitted.system _ _ here c.args.aboves.now c.requires c.bus.result c.bus.ensures c.loop-record.invariant (elim c.else-not-above.branch [
      | else-not-above-via-then-not-above+else-has_io_bar w ↦ inr (sym w.has_io_bar.ensures ∙ w.if-has_io_bar.false)
      | else-not-above-via-else-not-above w ↦ inl (not-false _ w.if-not-above.false)
    ])

pub returns : goal.returns
returns g c =
    let s = system_in c.args.admitted.now in
    let records = c.records-record-items.result.now in
    let count = same_count s records (lent s records c.records-record-items.ensures.value c.outline.ensures.records) in
    let all : c.loop-record.record-index ≡ length s = omega (arith, count) in
    none_lacks s c.outline.ensures.admitted.system c.loop-record.record-index all c.loop-record.invariant
