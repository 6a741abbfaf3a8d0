use Rattle.std.proofs.Common.{◌≡◌, ◌∙◌, ◌+◌, ◌<◌, ◌++◌, [], ◌∷◌, ℕ, List, Vec, length, get_or, replicate, false, not, ◌&&◌, ◌||◌, arith, sym, ap, subst}
use Rattle.std.proofs.lemmas.List.{length-append, length-set}
use Rattle.pci_spec.specs.Slot.{Slot}
use Rattle.pci_spec.specs.Text.{Block}
use Rattle.pci_spec.specs.Window.{WindowKind}
use Rattle.pci_spec.specs.System.{Space}
use Rattle.pci_spec.proofs.Pairing.{same_length, length-system_of}
use Rattle.settle_spec.specs.Lists.{Request}
use Rattle.settle_spec.specs.Kept.{Kept as Keeping, unwished}
use Rattle.settle_spec.specs.Keeping.Registers.{settled_function}
use Rattle.pci_base.specs.Space.{is_on}
use Rattle.pci_function.specs.declared.record.Record.{Record}
use Rattle.pci_tree.specs.Admission.{Admission, IsAdmitted}
use Rattle.pci_tree.proofs.Lifting.{same_slot_of}
use Rattle.pci_place.specs.declared.above.Above.{Above}
use Rattle.pci_place.specs.Above.{system_in, IsAbove}
use Rattle.pci_place.proofs.BusTables.{AreTo}
use Rattle.pci_place.proofs.Records.{lent, FunctionAt, same_count, function_read}
use Rattle.pci_first_fit.specs.declared.over.Over.{Over}
use Rattle.pci_first_fit.specs.Kept.{nothing_kept}
use Rattle.pci_first_fit.specs.Slots.{Demand, demand_of, demand_value}
use Rattle.pci_first_fit.specs.Over.{AreClassWindows, no_windows}
use Rattle.pci_first_fit.specs.Own.{AreTerms}
use Rattle.pci_settle_places.specs.Answers.{AreFlagsOfTold}
use Rattle.pci_settle_places.specs.declared.answering.Answering.{Answering}
use Rattle.pci_settle_places.proofs.Registers.{have_registers}
use Rattle.pci_settle_places.specs.Images.{is_staying_window}
use Rattle.pci_settle.specs.declared.closed.Closing.{Closing}
use Rattle.pci_settle.specs.declared.shut.Around.{Around}
use Rattle.pci_settle.specs.declared.way.Way.{Way}
use Rattle.pci_settle.specs.Requests.{IsAskedOf}
use Rattle.pci_settle.specs.Dumps.{IsSettledDump}
use Rattle.pci_settle.specs.Shut.{IsWay, IsAroundFunction, flag_in_space, in_class, is_shut_by, closing_by}
use Rattle.pci_settle.specs.Stages.{AreOf, AreSettledBlocks}
use Rattle.pci_settle.proofs.States.{start_of, settled_of}
use Rattle.pci_settle.proofs.Ways.{no_way as nothing_above, by_spaces, by_classes}
use Rattle.pci_settle.proofs.Closings.{AreClosedTo, none_closed, all_closed, all_clear, start_image, settled_image, way_at, closed_same, closed_more}
use Rattle.pci_settle.proofs.shut.all_closings.Goals as goal
use Rattle.pci_settle.proofs.shut.all_closings.Goals.{After-blocks-start, After-new-each, in-Some, in_default}
use Rattle.pci_settle.proofs.shut.all_closings.Given.{Over as Outer}

-- what stands there where a table has no bus
abbrev no_above : Above
no_above = record { io = false; pref = false; wide = false }

module _ (g : Outer) (c : After-blocks-start g) where
  abbrev a : Admission
  a = c.args.admitted.now

  abbrev l : Demand
  l = demand_value c.args.lists.now

  admitted_is : IsAdmitted a
  admitted_is = c.outline-outline.ensures.admitted

  blocks_are : c.blocks-start.result.now ≡ a.dump
  blocks_are = c.blocks-start.ensures.value ∙ c.dump.ensures

  -- how many functions, blocks and records there are
  size : length (system_in a) ≡ length a.dump
  size = length-system_of a.dump a.probe (same_length a.dump a.probe admitted_is.slots)

  count : length (system_in a) ≡ length c.records-records.result.now
  count = same_count (system_in a) c.records-records.result.now (lent (system_in a) c.records-records.result.now c.records-records.ensures.value c.outline-outline.ensures.records)

  start : AreOf (system_in a) c.blocks-start.result.now
  start = subst (λ (bs : List Block). AreOf (system_in a) bs) (sym blocks_are) (start_of a admitted_is)

  settled : (q : Request) (keep : Keeping) (blocks : List Block) → IsSettledDump q keep a blocks → AreSettledBlocks q (system_in a) keep blocks
  settled q keep blocks to = settled_of a admitted_is q keep blocks to

  abbrev answering : Answering
  answering = c.answering_of-answering.result

  terms : (q : Request) → IsAskedOf q a.roots l → AreTerms (demand_of q) answering.terms
  terms q asked = subst (λ lists. AreTerms lists answering.terms) (sym asked.demands_are) c.answering_of-answering.ensures.terms

  -- the function of a record
  function_here : (k : ℕ) (r : Record) → k < length c.records-records.result.now → r ≡ get_or c.records-records.result.now k r → FunctionAt (system_in a) r k
  function_here = function_read (system_in a) c.records-records.result.now c.records-records.ensures.value c.outline-outline.ensures.records

-- before the first function
module _ (g : Outer) (c : After-new-each g) where
  made : c.in_ok-ways.ways.items ≡ replicate 256 nothing_above
  made = c.in_ok-ways.ensures.items_if_clones_equal (λ y same. same)

pub loop-k-init : goal.loop-k-init
loop-k-init g c =
    let start = (goal.at.loop-k-init g c).After-blocks-start in
    record {
      count = ap length c.new-each.ensures.items;
      size = ap length (made g c);
      closed = λ q keep by.
          let none = none_closed q (a g start).roots (system_in (a g start)) keep (admitted_is g start).system (admitted_is g start).nested in
          record {
            marks = subst (λ ways. AreTo (IsWay q (system_in (a g start)) keep) (a g start).roots (system_in (a g start)) 0 ways) (sym (made g c)) none.marks;
            values = c.new-each.ensures.items;
          };
    }

pub bounds-start-k : goal.bounds-start-k
bounds-start-k g c =
    let start = (goal.at.bounds-start-k g c).After-blocks-start in
    let s = size g start in
    let n = count g start in
    let e = ap length (blocks_are g start) in
    let more = c.loop-k-test.true in
    omega (arith, s, n, e, more)

pub bounds-images-k : goal.bounds-images-k
bounds-images-k g c =
    let start = (goal.at.bounds-images-k g c).After-blocks-start in
    let s = size g start in
    let n = count g start in
    let e = c.requires.plain in
    let more = c.loop-k-test.true in
    omega (arith, s, n, e, more)

pub bounds-images-k-in-loop-k : goal.bounds-images-k-in-loop-k
bounds-images-k-in-loop-k g c =
    let start = (goal.at.bounds-images-k-in-loop-k g c).After-blocks-start in
    let s = size g start in
    let n = count g start in
    let e = c.requires.settled in
    let more = c.loop-k-test.true in
    omega (arith, s, n, e, more)

pub bounds-tables-k : goal.bounds-tables-k
bounds-tables-k g c =
    let start = (goal.at.bounds-tables-k g c).After-blocks-start in
    let n = count g start in
    let e = c.requires.staying in
    let more = c.loop-k-test.true in
    omega (arith, n, e, more)

pub shut_itself-itself-requires-clause-bars : goal.shut_itself-itself-requires-clause-bars
shut_itself-itself-requires-clause-bars g c =
    let first = (goal.at.shut_itself-itself-requires-clause-bars g c).After-blocks-start in
    let here = function_here g first c.loop-k.k c.index-records-k.result c.loop-k-test.true c.index-records-k.is in
    have_registers (system_in (a g first)) here.f c.index-records-k.result here.is

pub loop-k-preserved : goal.loop-k-preserved
loop-k-preserved g c =
    let first = (goal.at.loop-k-preserved g c).After-blocks-start in
    let s = system_in (a g first) in
    let roots = (a g first).roots in
    let admitted = admitted_is g first in
    let k = c.loop-k.k in
    let r = c.index-records-k.result in
    let here = function_here g first k r c.loop-k-test.true c.index-records-k.is in
    let f = here.f in
    let bus : c.bus-bus.result ≡ f.slot.bus = c.bus-bus.ensures ∙ ap (λ (x : Slot). x.bus) (same_slot_of r f here.is.value) in
    let way : Way = c.index-way.result.now in
    let above : Above = get_or c.aboves-aboves.result c.from-in-loop-k.result no_above in
    let over : Over = record { above = above; windows = c.open_over.result } in
    let around : Around = record { over = over; answering = answering g first; way = way; kept = record { ref_ptr = c.args.tables.now.staying.ref_ptr; now = get_or c.args.tables.now.staying.now k nothing_kept } } in
    let left : Closing = record { command = closing_by around r c.shut.result; windows = c.without.result } in
    let each : c.push.new.self.items ≡ c.loop-k.each.items ++ left ∷ [] =
    c.in_ok-push.ensures.items ∙ ap (λ n. c.loop-k.each.items ++ (record { command = n; windows = c.without.result }) ∷ []) c.closing_command.ensures in
    record {
      count = ap length each ∙ length-append c.loop-k.each.items _ ∙ ap (λ n. n + 1) c.loop-k.invariant.count;
      size = elim c.match-record.branch [
        | in-Some w ↦ ap (λ (v : Vec Way g.row.A.Denot). length v.items) w.ways-is ∙ length-set c.loop-k.ways.items w.from-in-Some.result w.and.result ∙ c.loop-k.invariant.size
        | in_default w ↦ ap (λ (v : Vec Way g.row.A.Denot). length v.items) w.ways-is ∙ c.loop-k.invariant.size
      ];
      closed = λ q keep by.
          let was = c.loop-k.invariant.closed q keep by in
          let is_around : IsAroundFunction q s keep f around = record {
            over = record {
              above = subst (λ n. IsAbove s f.slot.bus (get_or c.aboves-aboves.result n no_above)) (sym (c.from-in-loop-k.ensures ∙ bus)) (c.aboves-aboves.ensures f no_above here.is.listed);
              windows_are = subst (AreClassWindows q s f.slot.bus) (sym (c.open_over.ensures ∙ ap (λ n. get_or c.args.overs.now n no_windows) bus)) (by.overs_are f here.is.listed);
            };
            terms = terms g first q by.asked;
            told = ap (λ (d : Demand). d.told.ranges) by.asked.demands_are ∙ sym c.answering_of-answering.ensures.told;
            stand = subst (AreFlagsOfTold q s) (sym c.answering_of-answering.ensures.standing) by.stand;
            way = subst (IsWay q s keep f.slot.bus) (sym (c.index-way.ensures ∙ ap (λ n. get_or c.loop-k.ways.items n way) (c.from.ensures ∙ bus))) (way_at q roots s keep admitted.system admitted.nested k f r here.at here.is c.loop-k.ways.items c.loop-k.each.items was way);
            kept = λ part there. by.stays.each k f nothing_kept part here.at there;
          } in
          let old : List ℕ = c.old.inside.image.0 in
          let plain : List ℕ = c.plain.inside.image.0 in
          let new : List ℕ = c.new.inside.image.0 in
          let old_is : old ≡ f.image = ap (λ (x : Block). x.image) c.old.view_is
          ∙ start_image q roots s keep admitted.system admitted.nested k f r here.at here.is c.blocks-start.result.now c.index-start-k.result c.index-start-k.is (start g first) in
          let plain_is : plain ≡ (settled_function q s (unwished keep) f).image = ap (λ (x : Block). x.image) (c.plain.view_is ∙ sym c.index-images-k.is)
          ∙ settled_image q roots s keep admitted.system admitted.nested k f r here.at here.is (unwished keep) c.args.images.now.plain.now c.index-images-k.result c.index-images-k.is
          (settled g first q (unwished keep) c.args.images.now.plain.now by.plain) in
          let new_is : new ≡ (settled_function q s keep f).image = ap (λ (x : Block). x.image) (c.new.view_is ∙ sym c.index-images-k-in-loop-k.is)
          ∙ settled_image q roots s keep admitted.system admitted.nested k f r here.at here.is keep c.args.images.now.settled.now c.index-images-k-in-loop-k.result c.index-images-k-in-loop-k.is
          (settled g first q keep c.args.images.now.settled.now by.settled) in
          let itself_by : (x : Space) → flag_in_space c.shut_itself-itself.result x ≡ is_shut_by around x old new r =
          by_spaces (λ x. flag_in_space c.shut_itself-itself.result x ≡ is_shut_by around x old new r) c.shut_itself-itself.ensures.io c.shut_itself-itself.ensures.memory in
          let shut_by : (x : Space) → flag_in_space c.shut.result x ≡ (flag_in_space c.shut_itself-itself.result x || not (flag_in_space way.clear x)) =
          by_spaces (λ x. flag_in_space c.shut.result x ≡ (flag_in_space c.shut_itself-itself.result x || not (flag_in_space way.clear x))) c.shut.ensures.io c.shut.ensures.memory in
          let kept = get_or c.args.tables.now.staying.now k nothing_kept in
          let windows_by : (x : WindowKind) → in_class c.without.result x ≡ (not (is_staying_window kept.windows x) && in_class c.changed_windows-changed.result x) =
          by_classes (λ x. in_class c.without.result x ≡ (not (is_staying_window kept.windows x) && in_class c.changed_windows-changed.result x)) c.without.ensures.io c.without.ensures.memory c.without.ensures.prefetchable in
          let After : Vec Way g.row.A.Denot → Type 0 = λ ways. AreClosedTo q roots s keep (k + 1) ways.items c.push.new.self.items in
          elim c.match-record.branch [
            | in-Some w ↦
                subst After (sym w.ways-is)
                (closed_more q roots s keep admitted.system admitted.nested k f r here.at here.is around is_around old plain new old_is plain_is new_is c.shut_itself-itself.result c.shut.result itself_by shut_by
                c.changed_windows-changed.result c.without.result c.changed_windows-changed.ensures windows_by
                c.loop-k.ways.items c.loop-k.each.items c.push.new.self.items was each w.in-Some.bridge w.in-Some.is w.from-in-Some.result w.from-in-Some.ensures w.and.result
                (by_spaces (λ x. flag_in_space w.and.result.on x ≡ (flag_in_space way.on x && is_on r.command x)) w.and.ensures.io w.and.ensures.memory)
                (by_spaces (λ x. flag_in_space w.and.result.clear x ≡ (flag_in_space way.clear x && not (flag_in_space c.shut_itself-itself.result x))) w.and.ensures.clear_io w.and.ensures.clear_memory)
                (by_classes (λ x. in_class w.and.result.same x ≡ (in_class way.same x && not (in_class c.changed_windows-changed.result x))) w.and.ensures.same_io w.and.ensures.same_memory w.and.ensures.same_prefetchable))
            | in_default w ↦
                subst After (sym w.ways-is)
                (closed_same q roots s keep admitted.system admitted.nested k f r here.at here.is around is_around old plain new old_is plain_is new_is c.shut_itself-itself.result c.shut.result itself_by shut_by
                c.changed_windows-changed.result c.without.result c.changed_windows-changed.ensures windows_by
                c.loop-k.ways.items c.loop-k.each.items c.push.new.self.items was each w.in_default.is)
          ];
    }

pub returns-clause-count : goal.returns-clause-count
returns-clause-count g c =
    let first = (goal.at.returns-clause-count g c).After-blocks-start in
    let n = count g first in
    let done = c.loop-k-test.false in
    let most = c.loop-k.auto.k-end in
    let so_far = c.loop-k.invariant.count in
    omega (arith, n, done, most, so_far)

pub returns-clause-closings : goal.returns-clause-closings
returns-clause-closings g c =
    let first = (goal.at.returns-clause-closings g c).After-blocks-start in
    let n = count g first in
    let done = c.loop-k-test.false in
    λ q keep by. all_closed q (a g first).roots (system_in (a g first)) keep (admitted_is g first).system (admitted_is g first).nested c.loop-k.k c.loop-k.ways.items c.loop-k.each.items
    (c.loop-k.invariant.closed q keep by) (omega (arith, n, done))

pub returns-clause-ways : goal.returns-clause-ways
returns-clause-ways g c =
    let first = (goal.at.returns-clause-ways g c).After-blocks-start in
    let n = count g first in
    let done = c.loop-k-test.false in
    λ q keep by. all_clear q (a g first).roots (system_in (a g first)) keep (admitted_is g first).system (admitted_is g first).nested c.loop-k.k c.loop-k.ways.items c.loop-k.each.items
    (c.loop-k.invariant.closed q keep by) (omega (arith, n, done)) by.asked.roots_are
