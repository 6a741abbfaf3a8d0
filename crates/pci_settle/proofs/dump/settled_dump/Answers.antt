use Rattle.std.proofs.Common.{◌≡◌, ℕ, ◌+◌, ◌<◌, List, length, map, get_or, arith, refl, sym, ◌∙◌, ap, subst}
use Rattle.pci_spec.specs.Text.{Block, IsDump}
use Rattle.pci_spec.specs.Slot.{Slot}
use Rattle.pci_spec.specs.Stops.{IsAboveLast, last_slot}
use Rattle.pci_spec.specs.System.{Function, function_of}
use Rattle.pci_spec.specs.Decoded.{HasRecords}
use Rattle.pci_spec.proofs.Pairing.{same_length, length-system_of}
use Rattle.pci_function.specs.declared.record.Record.{Record}
use Rattle.pci_function.specs.Values.{record_value}
use Rattle.pci_tree.specs.Admission.{Admission, IsAdmitted}
use Rattle.pci_tree.proofs.Lifting.{same_slot_of}
use Rattle.pci_place.specs.Above.{system_in}
use Rattle.pci_place.proofs.Records.{same_count}
use Rattle.pci_first_fit.specs.Kept.{nothing_kept}
use Rattle.pci_first_fit.specs.Slots.{Demand, demand_value}
use Rattle.pci_settle_places.specs.Answers.{AreFlagsOfTold}
use Rattle.pci_settle_places.specs.declared.answering.Answering.{Answering}
use Rattle.pci_settle_places.proofs.Registers.{have_registers}
use Rattle.pci_plan.proofs.PlannedDumps.{ArePlanned, none_planned, found_count, next_above, all_planned}
use Rattle.pci_settle.proofs.SettledDumps.{IsSettledOf, IsHere, request_by, placed_here, told_here, block_here, next_settled, all_settled}
use Rattle.pci_settle.proofs.dump.settled_dump.Goals as goal
use Rattle.pci_settle.proofs.dump.settled_dump.Goals.{After-empty-dump}
use Rattle.pci_settle.proofs.dump.settled_dump.Given.{Over}

module _ (g : Over) (c : After-empty-dump g) where
  abbrev a : Admission
  a = c.args.admitted.now

  abbrev l : Demand
  l = demand_value c.args.lists.now

  abbrev P : Function → Function → Type 0
  P = IsSettledOf a.roots (system_in a) l c.args.tables.now c.args.wished.now

  abbrev answering : Answering
  answering = c.answering_of-answering.result

  admitted_is : IsAdmitted a
  admitted_is = c.outline-outline.ensures.admitted

  has : HasRecords (system_in a) (map record_value c.records-records.result.now)
  has = subst (λ rs. HasRecords (system_in a) rs) (sym c.records-records.ensures.value) c.outline-outline.ensures.records

  blocks_are : c.blocks-blocks.result.now ≡ a.dump
  blocks_are = c.blocks-blocks.ensures.value ∙ c.dump.ensures

  dump_is : IsDump a.dump
  dump_is = subst (λ (bs : List Block). IsDump bs) c.dump.ensures c.blocks-blocks.ensures.dump

  -- how many functions, blocks and records there are
  size : length (system_in a) ≡ length c.blocks-blocks.result.now
  size = length-system_of a.dump a.probe (same_length a.dump a.probe admitted_is.slots) ∙ sym (ap length blocks_are)

  count : length (system_in a) ≡ length c.records-records.result.now
  count = same_count (system_in a) c.records-records.result.now has

  -- a block and its record
  module _ (k : ℕ) (b : Block) (r : Record) (within : k < length c.blocks-blocks.result.now) (b_is : b ≡ get_or c.blocks-blocks.result.now k b) (r_is : r ≡ get_or c.records-records.result.now k r) where
    inside : k < length a.dump
    inside = let e = ap length blocks_are in omega (arith, e, within)

    b_at : b ≡ get_or a.dump k b
    b_at = b_is ∙ ap (λ (bs : List Block). get_or bs k b) blocks_are

    here : IsHere a k b r
    here = block_here a c.records-records.result.now admitted_is has k b r inside b_at r_is

pub loop-k-init : goal.loop-k-init
loop-k-init g c =
    subst (λ (found : List Block). ArePlanned (P g c) (a g c).dump (a g c).probe 0 found) (sym c.empty-dump.ensures) (none_planned (P g c) (a g c).dump (a g c).probe (admitted_is g c).slots)

pub bounds-records-k : goal.bounds-records-k
bounds-records-k g c =
    let start = (goal.at.bounds-records-k g c).After-empty-dump in
    let s = size g start in
    let n = count g start in
    let more = c.loop-k-test.true in
    omega (arith, s, n, more)

pub bounds-tables-k : goal.bounds-tables-k
bounds-tables-k g c =
    let start = (goal.at.bounds-tables-k g c).After-empty-dump in
    let s = size g start in
    let n = c.requires.places in
    let more = c.loop-k-test.true in
    omega (arith, s, n, more)

pub shown_windows-shown-requires : goal.shown_windows-shown-requires
shown_windows-shown-requires g c =
    let start = (goal.at.shown_windows-shown-requires g c).After-empty-dump in
    let s = size g start in
    let n = c.requires.staying in
    let more = c.loop-k-test.true in
    omega (arith, s, n, more)

pub settled_function-image-requires : goal.settled_function-image-requires
settled_function-image-requires g c =
    let start = (goal.at.settled_function-image-requires g c).After-empty-dump in
    let at = here g start c.loop-k.k c.index-blocks-k.result c.index-records-k.result c.loop-k-test.true c.index-blocks-k.is c.index-records-k.is in
    have_registers (system_in (a g start)) _ c.index-records-k.result at.is

pub loop-k-preserved : goal.loop-k-preserved
loop-k-preserved g c =
    let start = (goal.at.loop-k-preserved g c).After-empty-dump in
    let s = system_in (a g start) in
    let k = c.loop-k.k in
    let old = c.index-blocks-k.result in
    let r = c.index-records-k.result in
    let less = inside g start k old r c.loop-k-test.true c.index-blocks-k.is c.index-records-k.is in
    let b = b_at g start k old r c.loop-k-test.true c.index-blocks-k.is c.index-records-k.is in
    let at = here g start k old r c.loop-k-test.true c.index-blocks-k.is c.index-records-k.is in
    let f = function_of old at.probe in
    let slot : c.push_next.inside.slot ≡ old.slot = ap (λ (b : Block). b.slot) (c.push_next.view_is ∙ c.copy.ensures) in
    let title : c.push_next.inside.title ≡ old.title = ap (λ (b : Block). b.title) (c.push_next.view_is ∙ c.copy.ensures) in
    let new : Block = record { slot = c.push_next.inside.slot; title = c.push_next.inside.title; image = c.settled_function-image.result.0 } in
    let bus = c.from.ensures ∙ c.bus.ensures ∙ ap (λ (x : Slot). x.bus) (same_slot_of r f at.is.value) in
    subst (λ (found : List Block). ArePlanned (P g start) (a g start).dump (a g start).probe (k + 1) found) (sym c.in_ok-push_next.ensures)
    (next_settled (a g start) (admitted_is g start) (l g start) c.args.tables.now c.args.wished.now k c.loop-k.dump c.loop-k.invariant old new r at less b slot title
    (λ q keep by.
    let of = request_by q s (a g start).roots (l g start) (answering g start) by.asked c.answering_of-answering.ensures.terms (sym c.answering_of-answering.ensures.told) (subst (AreFlagsOfTold q s) (sym c.answering_of-answering.ensures.standing) by.stand) in
    c.settled_function-image.ensures q s keep f (ap (λ (x : Block). x.image) c.block.view_is)
    (placed_here (a g start).roots s (admitted_is g start).system (admitted_is g start).nested q keep (answering g start) c.args.tables.now.places.now of by.places c.args.tables.now.grown.now c.args.wished.now c.args.tables.now.staying.now by.tells by.wishes k f r at.at at.is _ _ refl nothing_kept c.shown_windows-shown.result.staying.kept.now c.shown_windows-shown.ensures.kept _ _ c.shown_windows-shown.ensures.grown c.shown_windows-shown.ensures.wished)
    (told_here (a g start).roots s (admitted_is g start).system (admitted_is g start).nested q keep (answering g start) c.args.tables.now.places.now of by.places (answering g start).terms refl
    c.live_buses-io.result c.live_buses-memory.result c.live_buses-io.ensures c.live_buses-memory.ensures c.aboves-aboves.result c.aboves-aboves.ensures
    f r at.is c.from.result bus _ record { io = c.is_live_behind.result; memory = c.is_live_behind-in-loop-k.result } c.is_live_behind.ensures c.is_live_behind-in-loop-k.ensures)))

pub push_next-requires-clause-above : goal.push_next-requires-clause-above
push_next-requires-clause-above g c =
    let start = (goal.at.push_next-requires-clause-above g c).After-empty-dump in
    let old = c.index-blocks-k.result in
    let r = c.index-records-k.result in
    let above = next_above (P g start) (a g start).dump (a g start).probe (admitted_is g start).slots c.loop-k.k c.loop-k.dump c.loop-k.invariant
    (dump_is g start) (inside g start c.loop-k.k old r c.loop-k-test.true c.index-blocks-k.is c.index-records-k.is) old
    (b_at g start c.loop-k.k old r c.loop-k-test.true c.index-blocks-k.is c.index-records-k.is) in
    subst (λ (s : Slot). IsAboveLast (last_slot c.loop-k.dump) s) (sym (ap (λ (d : Block). d.slot) (c.push_next.view_is ∙ c.copy.ensures))) above

pub push_next-requires-clause-room : goal.push_next-requires-clause-room
push_next-requires-clause-room g c =
    let start = (goal.at.push_next-requires-clause-room g c).After-empty-dump in
    let less = inside g start c.loop-k.k c.index-blocks-k.result c.index-records-k.result c.loop-k-test.true c.index-blocks-k.is c.index-records-k.is in
    let count = found_count (P g start) (a g start).dump (a g start).probe (admitted_is g start).slots c.loop-k.k c.loop-k.dump c.loop-k.invariant (omega (arith, less)) in
    let most = (dump_is g start).room in
    omega (arith, less, count, most)

pub returns-clause-titles : goal.returns-clause-titles
returns-clause-titles g c =
    let start = (goal.at.returns-clause-titles g c).After-empty-dump in
    let e = ap length (blocks_are g start) in
    let done = c.loop-k-test.false in
    (all_planned (P g start) (a g start).dump (a g start).probe (admitted_is g start).slots c.loop-k.k c.loop-k.dump c.loop-k.invariant (omega (arith, e, done))).1

pub returns-clause-settled : goal.returns-clause-settled
returns-clause-settled g c =
    let start = (goal.at.returns-clause-settled g c).After-empty-dump in
    let e = ap length (blocks_are g start) in
    let done = c.loop-k-test.false in
    let all = all_planned (P g start) (a g start).dump (a g start).probe (admitted_is g start).slots c.loop-k.k c.loop-k.dump c.loop-k.invariant (omega (arith, e, done)) in
    λ q keep asked stand places tells wishes. record {
      slots = all.0;
      system = all_settled (a g start).roots (system_in (a g start)) (l g start) c.args.tables.now c.args.wished.now q keep (record { asked = asked; stand = stand; places = places; tells = tells; wishes = wishes }) (system_in (a g start)) _ all.2;
    }
