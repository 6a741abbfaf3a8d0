use Rattle.std.proofs.Common.{◌≡◌, ℕ, ◌+◌, ◌<◌, ◌++◌, List, [], Some, drop, length, map, get_or, arith, sym, ◌∙◌, ap, subst}
use Rattle.std.specs.List.{AllZip, slice_get}
use Rattle.std.proofs.lemmas.List.{get_or_default}
use Rattle.std.proofs.lemmas.Option.{slice_get-get_or}
use Rattle.std.proofs.lemmas.Slice.Zip.{AllZip-long}
use Rattle.pci_spec.specs.Text.{Block, IsDump, slots_of}
use Rattle.pci_spec.specs.Slot.{Slot}
use Rattle.pci_spec.specs.Number.{IsImage}
use Rattle.pci_spec.specs.Stops.{IsAboveLast, last_slot}
use Rattle.pci_spec.specs.System.{function_of, system_of}
use Rattle.plan_spec.specs.Planning.Numbers.{IsPlannedFunction, new_number, new_command}
use Rattle.pci_spec.proofs.Pairing.{function-at, same_length, length-system_of}
use Rattle.pci_tree.specs.Admission.{IsAdmitted}
use Rattle.pci_place.specs.Above.{system_in}
use Rattle.pci_place.specs.Pools.{pools_value}
use Rattle.pci_plan.specs.Numbered.{IsNewHeader}
use Rattle.pci_plan.proofs.PlannedDumps.{ArePlanned, none_planned, found_count, next_above, next_planned, all_planned}
use Rattle.pci_plan.proofs.Numberings.{beside, filled_by_header}
use Rattle.pci_plan.proofs.planned.planned_dump.Goals as goal
use Rattle.pci_plan.proofs.planned.planned_dump.Goals.{After-empty-dump, After-loop-i}
use Rattle.pci_plan.proofs.planned.planned_dump.Given.{Over}

module _ (g : Over) (c : After-empty-dump g) where
  admitted_is : IsAdmitted c.args.admitted.now
  admitted_is = c.outline-outline.ensures.admitted

  blocks_are : c.blocks-blocks.result.now ≡ c.args.admitted.now.dump
  blocks_are = c.blocks-blocks.ensures.value ∙ c.dump.ensures

  dump_is : IsDump c.args.admitted.now.dump
  dump_is = subst (λ (bs : List Block). IsDump bs) c.dump.ensures c.blocks-blocks.ensures.dump

  -- how many blocks, functions and headers there are
  size : length (system_in c.args.admitted.now) ≡ length c.blocks-blocks.result.now
  size = length-system_of c.args.admitted.now.dump c.args.admitted.now.probe (same_length c.args.admitted.now.dump c.args.admitted.now.probe admitted_is.slots) ∙ sym (ap length blocks_are)

  -- what is at a place
  module _ (i : ℕ) (b : Block) (within : i < length c.blocks-blocks.result.now) (b_is : b ≡ get_or c.blocks-blocks.result.now i b) where
    abbrev probe_block : Block
    probe_block = get_or c.args.admitted.now.probe i b

    inside : i < length c.args.admitted.now.dump
    inside = let e = ap length blocks_are in omega (arith, e, within)

    b_at : b ≡ get_or c.args.admitted.now.dump i b
    b_at = b_is ∙ ap (λ (bs : List Block). get_or bs i b) blocks_are

    p_at : probe_block ≡ get_or c.args.admitted.now.probe i probe_block
    p_at =
        let count = same_length c.args.admitted.now.dump c.args.admitted.now.probe admitted_is.slots in
        get_or_default c.args.admitted.now.probe i b probe_block (let l = inside in omega (arith, count, l))

    f_at : get_or (system_in c.args.admitted.now) i (function_of b probe_block) ≡ function_of b probe_block
    f_at =
        let count = same_length c.args.admitted.now.dump c.args.admitted.now.probe admitted_is.slots in
        let l = inside in
        function-at c.args.admitted.now.dump c.args.admitted.now.probe i b probe_block (function_of b probe_block) inside (omega (arith, count, l))
        ∙ ap (λ (d : Block). function_of d (get_or c.args.admitted.now.probe i probe_block)) (sym b_at) ∙ ap (λ (d : Block). function_of b d) (sym p_at)

    here : slice_get (system_in c.args.admitted.now) i ≡ Some (function_of b probe_block)
    here = slice_get-get_or (system_in c.args.admitted.now) i (function_of b probe_block) (let s = size in omega (arith, s, within)) ∙ ap Some f_at

    is_image : IsImage b.image
    is_image = subst (λ (d : Block). IsImage d.image) (sym b_at) (dump_is.each i b inside).image

    -- the function with its header
    function_of_header : (image : List ℕ) → image ≡ get_or c.args.headers.now i [] ++ drop 64 b.image
        → IsPlannedFunction c.args.admitted.now.roots (system_in c.args.admitted.now) (pools_value c.args.pools.now) (function_of b probe_block) record (function_of b probe_block) { image = image }
    function_of_header image whole =
        let a = c.args.admitted.now in
        let pools = pools_value c.args.pools.now in
        let f = function_of b probe_block in
        let header : List ℕ = get_or c.args.headers.now i [] in
        let many = AllZip-long _ _ _ c.requires in
        let s = size in
        let at = slice_get-get_or c.args.headers.now i [] (omega (arith, many, s, within)) in
        let is = beside (IsNewHeader a.roots (system_in a) pools) (system_in a) c.args.headers.now i f header c.requires here at in
        filled_by_header f is_image (new_number a.roots (system_in a) pools f) (new_command (system_in a) pools f) is.image image is.planned (whole ∙ ap (λ (xs : List ℕ). xs ++ drop 64 b.image) is.first)

pub loop-i-init : goal.loop-i-init
loop-i-init g c =
    let a = c.args.admitted.now in
    subst (λ (found : List Block). ArePlanned (IsPlannedFunction a.roots (system_in a) (pools_value c.args.pools.now)) a.dump a.probe 0 found) (sym c.empty-dump.ensures)
    (none_planned (IsPlannedFunction a.roots (system_in a) (pools_value c.args.pools.now)) a.dump a.probe (admitted_is g c).slots)

pub bounds-headers-i : goal.bounds-headers-i
bounds-headers-i g c =
    let s = size g (goal.at.bounds-headers-i g c).After-empty-dump in
    let many = AllZip-long _ _ _ c.requires in
    let more = c.loop-i-test.true in
    omega (arith, s, many, more)

pub loop-i-preserved : goal.loop-i-preserved
loop-i-preserved g c =
    let start = (goal.at.loop-i-preserved g c).After-empty-dump in
    let a = c.args.admitted.now in
    let i = c.loop-i.i in
    let old = c.index-blocks-i.result in
    let pools = pools_value c.args.pools.now in
    let P = IsPlannedFunction a.roots (system_in a) pools in
    let less = inside g start i old c.loop-i-test.true c.index-blocks-i.is in
    let b = b_at g start i old c.loop-i-test.true c.index-blocks-i.is in
    let p = probe_block g start i old c.loop-i-test.true c.index-blocks-i.is in
    let slot : c.push_next.inside.slot ≡ old.slot = ap (λ (b : Block). b.slot) (c.push_next.view_is ∙ c.copy.ensures) in
    let title : c.push_next.inside.title ≡ old.title = ap (λ (b : Block). b.title) (c.push_next.view_is ∙ c.copy.ensures) in
    let new : Block = record { slot = c.push_next.inside.slot; title = c.push_next.inside.title; image = c.with_header.result } in
    let here = function_of_header g start i old c.loop-i-test.true c.index-blocks-i.is c.with_header.result
    (c.with_header.ensures ∙ ap (λ (b : Block). get_or c.args.headers.now i [] ++ drop 64 b.image) c.block.view_is) in
    let planned_block : P (function_of old p) (function_of new p) = subst (λ (s : Slot). P (function_of old p) record { slot = s; image = c.with_header.result; probe = p.image }) (sym slot) here in
    subst (λ (found : List Block). ArePlanned P a.dump a.probe (i + 1) found) (sym c.in_ok-push_next.ensures)
    (next_planned P a.dump a.probe (admitted_is g start).slots i c.loop-i.dump c.loop-i.invariant new old p less b (p_at g start i old c.loop-i-test.true c.index-blocks-i.is) slot title planned_block)

pub push_next-requires-clause-above : goal.push_next-requires-clause-above
push_next-requires-clause-above g c =
    let start = (goal.at.push_next-requires-clause-above g c).After-empty-dump in
    let a = c.args.admitted.now in
    let b = c.index-blocks-i.result in
    let above = next_above (IsPlannedFunction a.roots (system_in a) (pools_value c.args.pools.now)) a.dump a.probe (admitted_is g start).slots c.loop-i.i c.loop-i.dump c.loop-i.invariant
    (dump_is g start) (inside g start c.loop-i.i b c.loop-i-test.true c.index-blocks-i.is) b
    (b_at g start c.loop-i.i b c.loop-i-test.true c.index-blocks-i.is) in
    subst (λ (s : Slot). IsAboveLast (last_slot c.loop-i.dump) s) (sym (ap (λ (d : Block). d.slot) (c.push_next.view_is ∙ c.copy.ensures))) above

pub push_next-requires-clause-room : goal.push_next-requires-clause-room
push_next-requires-clause-room g c =
    let start = (goal.at.push_next-requires-clause-room g c).After-empty-dump in
    let a = c.args.admitted.now in
    let less = inside g start c.loop-i.i c.index-blocks-i.result c.loop-i-test.true c.index-blocks-i.is in
    let count = found_count (IsPlannedFunction a.roots (system_in a) (pools_value c.args.pools.now)) a.dump a.probe (admitted_is g start).slots c.loop-i.i c.loop-i.dump c.loop-i.invariant (omega (arith, less)) in
    let most = (dump_is g start).room in
    omega (arith, less, count, most)

whole : (g : Over) (c : After-loop-i g) → (slots_of c.loop-i.dump ≡ slots_of c.args.admitted.now.dump) × (map (λ b. b.title) c.loop-i.dump ≡ map (λ b. b.title) c.args.admitted.now.dump)
    × AllZip (IsPlannedFunction c.args.admitted.now.roots (system_in c.args.admitted.now) (pools_value c.args.pools.now)) (system_in c.args.admitted.now) (system_of c.loop-i.dump c.args.admitted.now.probe)
whole g c =
    let start = (goal.at.returns-clause-planned g c).After-empty-dump in
    let a = c.args.admitted.now in
    let e = ap length (blocks_are g start) in
    let done = c.loop-i-test.false in
    all_planned (IsPlannedFunction a.roots (system_in a) (pools_value c.args.pools.now)) a.dump a.probe (admitted_is g start).slots c.loop-i.i c.loop-i.dump c.loop-i.invariant (omega (arith, e, done))

pub returns-clause-planned : goal.returns-clause-planned
returns-clause-planned g c = (whole g c).2
