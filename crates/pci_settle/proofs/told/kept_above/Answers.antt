use Rattle.std.proofs.Common.{◌≡◌, ◌+◌, ◌<◌, ℕ, List, length, get_or, false, ◌&&◌, arith, sym, ◌∙◌, ap, subst}
use Rattle.pci_spec.specs.Slot.{Slot}
use Rattle.pci_spec.specs.Window.{WindowKind}
use Rattle.pci_function.specs.declared.record.Record.{Record}
use Rattle.pci_tree.specs.Admission.{Admission, IsAdmitted}
use Rattle.pci_tree.proofs.Lifting.{same_slot_of}
use Rattle.pci_place.specs.Above.{system_in}
use Rattle.pci_place.proofs.Records.{lent, FunctionAt, same_count, function_read}
use Rattle.pci_place.proofs.BusTables.{AreTo}
use Rattle.pci_first_fit.specs.Kept.{nothing_kept}
use Rattle.pci_settle_places.specs.Images.{is_staying_window}
use Rattle.pci_settle.specs.declared.way.ByClass.{ByClass}
use Rattle.pci_settle.specs.Shut.{in_class}
use Rattle.pci_settle.proofs.Ways.{by_classes}
use Rattle.pci_settle.proofs.KeptAbove.{IsKeptAbove, none_above, all_above_are, same_ways, more_ways}
use Rattle.pci_settle.proofs.told.kept_above.Goals as goal
use Rattle.pci_settle.proofs.told.kept_above.Goals.{After-records-records, in-Some, in_default}
use Rattle.pci_settle.proofs.told.kept_above.Given.{Over as Outer}

abbrev no_class : ByClass
no_class = record { io = false; memory = false; prefetchable = false }

module _ (g : Outer) (c : After-records-records g) where
  abbrev a : Admission
  a = c.args.admitted.now

  admitted_is : IsAdmitted a
  admitted_is = c.outline-outline.ensures.admitted

  count : length (system_in a) ≡ length c.records-records.result.now
  count = same_count (system_in a) c.records-records.result.now (lent (system_in a) c.records-records.result.now c.records-records.ensures.value c.outline-outline.ensures.records)

  function_here : (k : ℕ) (r : Record) → k < length c.records-records.result.now → r ≡ get_or c.records-records.result.now k r → FunctionAt (system_in a) r k
  function_here = function_read (system_in a) c.records-records.result.now c.records-records.ensures.value c.outline-outline.ensures.records

pub loop-k-init : goal.loop-k-init
loop-k-init g c = λ keep told.
    let a = c.args.admitted.now in
    none_above a.roots (system_in a) keep c.outline-outline.ensures.admitted.system c.outline-outline.ensures.admitted.nested

pub loop-k-preserved : goal.loop-k-preserved
loop-k-preserved g c = λ keep told.
    let first = (goal.at.loop-k-preserved g c).After-records-records in
    let s = system_in (a g first) in
    let roots = (a g first).roots in
    let admitted = admitted_is g first in
    let k = c.loop-k.k in
    let r = c.index-records-k.result in
    let here = function_here g first k r c.loop-k-test.true c.index-records-k.is in
    let f = here.f in
    let bus : c.from.result ≡ f.slot.bus = c.from.ensures ∙ c.bus-bus.ensures ∙ ap (λ (x : Slot). x.bus) (same_slot_of r f here.is.value) in
    let was = c.loop-k.invariant keep told in
    let After : List ByClass → Type 0 = λ ways. AreTo (IsKeptAbove s keep) roots s (k + 1) ways in
    elim c.match-record.branch [
      | in-Some w ↦
          let both : (x : WindowKind) → in_class w.and_kept.result x ≡ (in_class (get_or c.loop-k.ways c.from.result no_class) x && is_staying_window (get_or c.args.table.now k nothing_kept).windows x) =
          by_classes (λ x. in_class w.and_kept.result x ≡ (in_class (get_or c.loop-k.ways c.from.result no_class) x && is_staying_window (get_or c.args.table.now k nothing_kept).windows x))
          w.and_kept.ensures.io w.and_kept.ensures.memory w.and_kept.ensures.prefetchable in
          subst After (sym w.ways-is)
          (more_ways roots s keep admitted.system admitted.nested c.args.table.now told k f r here.at here.is c.loop-k.ways was w.in-Some.bridge w.in-Some.is w.from-in-Some.result w.from-in-Some.ensures no_class w.and_kept.result nothing_kept
          (λ x. both x ∙ ap (λ n. in_class (get_or c.loop-k.ways n no_class) x && is_staying_window (get_or c.args.table.now k nothing_kept).windows x) bus))
      | in_default w ↦
          subst After (sym w.ways-is)
          (same_ways roots s keep admitted.system admitted.nested c.args.table.now told k f r here.at here.is c.loop-k.ways was w.in_default.is)
    ]

pub returns : goal.returns
returns g c = λ q keep same told.
    let first = (goal.at.returns g c).After-records-records in
    let n = count g first in
    let done = c.loop-k-test.false in
    all_above_are (a g first).roots (system_in (a g first)) keep (admitted_is g first).system (admitted_is g first).nested q c.loop-k.k c.loop-k.ways same (c.loop-k.invariant keep told) (omega (arith, n, done))
