use Rattle.std.proofs.Common.{◌≡◌, ◌+◌, length, refl, sym, subst, Some}
use Rattle.std.specs.List.{slice_get}
use Rattle.std.proofs.lemmas.Option.{slice_get_read}
use Rattle.pci_place.proofs.Records.{FunctionAt, function_at}
use Rattle.pci_kept.proofs.Opened.{AreOpenTo, opened_none, opened_same, opened_more, all_opened}
use Rattle.pci_kept.proofs.open_windows.all_open.Goals as goal
use Rattle.pci_kept.proofs.open_windows.all_open.Goals.{in-Some, in_default}

pub loop-record-init : goal.loop-record-init
loop-record-init c = λ roots s has system nested. opened_none s

pub loop-record-preserved : goal.loop-record-preserved
loop-record-preserved c = λ roots s has system nested.
    let records = c.args.records.now in
    let k = c.loop-record.record-index in
    let r = c.record-item.result in
    let at : slice_get records k ≡ Some r = slice_get_read records (length records) k r refl c.loop-record-test.true c.record-item.is in
    let here : FunctionAt s r k = function_at s records has k r at in
    let was = c.loop-record.invariant roots s has system nested in
    elim c.match-record.branch [
      | in-Some w ↦
          subst (AreOpenTo s (k + 1)) (sym w.over-is)
          (opened_more roots s system nested k here.f r here.at here.is c.loop-record.over was w.in-Some.bridge w.in-Some.is
          record { memory = w.open_range.result; prefetch = w.open_range-in-Some.result } w.open_range.ensures w.open_range-in-Some.ensures)
      | in_default w ↦
          subst (AreOpenTo s (k + 1)) (sym w.over-is)
          (opened_same roots s system nested k here.f r here.at here.is c.loop-record.over was w.in_default.is)
    ]

pub returns : goal.returns
returns c = λ q s tree stands.
    all_opened q s c.args.records.now tree stands c.loop-record.record-index c.loop-record-test.false c.loop-record.over (c.loop-record.invariant q.roots s tree.has tree.system tree.nested)
