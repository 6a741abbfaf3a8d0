use Rattle.std.proofs.Common.{◌≡◌, ℕ, ◌+◌, ◌<◌, List, [], Some, length, map, get_or, arith, refl, sym, ◌∙◌, ap, subst}
use Rattle.std.specs.List.{slice_get}
use Rattle.std.specs.List.Sorted.{IsStrictlyIncreasing}
use Rattle.std.proofs.lemmas.List.{get_or_default}
use Rattle.pci_spec.specs.Text.{Block}
use Rattle.pci_spec.specs.Window.{WindowKind}
use Rattle.pci_spec.specs.System.{Function, function_of}
use Rattle.pci_spec.specs.Decoded as decoded
use Rattle.pci_spec.specs.Decoded.{HasRecords}
use Rattle.plan_spec.specs.Planning.Plannable.{IsPlannable}
use Rattle.plan_spec.specs.Planning.Table.{IsTable}
use Rattle.plan_spec.specs.Planning.Numbers.{IsPlannedFunction, place_at}
use Rattle.pci_spec.proofs.Pairing.{same_length, length-system_of}
use Rattle.pci_tree.specs.Admission.{IsAdmitted}
use Rattle.pci_function.specs.Values.{record_value}
use Rattle.pci_function.specs.declared.record.Record.{Record}
use Rattle.pci_tree.proofs.RootLists.{set_rises}
use Rattle.pci_place.specs.Above.{system_in}
use Rattle.pci_place.specs.Pools.{pools_value}
use Rattle.pci_place.specs.Records.{IsRecordInSystem}
use Rattle.pci_place.proofs.Records.{same_count}
use Rattle.pci_plan.proofs.PlannedDumps.{filling_at, function_here, tables_of, plannable_of}
use Rattle.pci_plan.proofs.numbered.filled_image.Goals as goal
use Rattle.pci_plan.proofs.numbered.filled_image.Goals.{After-blocks-blocks}
use Rattle.pci_plan.proofs.numbered.filled_image.Given.{Over}

module _ (g : Over) (c : After-blocks-blocks g) where
  admitted_is : IsAdmitted c.args.admitted.now
  admitted_is = c.outline-2.ensures.admitted

  blocks_are : c.blocks-blocks.result.now ≡ c.args.admitted.now.dump
  blocks_are = c.blocks-blocks.ensures.value ∙ c.dump.ensures

  records_are : HasRecords (system_in c.args.admitted.now) (map record_value c.records-records.result.now)
  records_are = subst (λ (rs : List decoded.Record). HasRecords (system_in c.args.admitted.now) rs) (sym c.records-records.ensures.value) c.outline-2.ensures.records

  plannable : IsPlannable c.args.admitted.now.roots (system_in c.args.admitted.now) (pools_value c.args.pools.now)
  plannable = plannable_of c.args.admitted.now (pools_value c.args.pools.now) (map record_value c.records-records.result.now) admitted_is records_are c.requires.numbered.plannable (omega arith)

  rising : IsStrictlyIncreasing c.args.admitted.now.roots
  rising = subst (λ (roots : List ℕ). IsStrictlyIncreasing roots) (c.roots-roots.ensures ∙ c.outline.ensures.roots) (λ k l. set_rises c.roots-roots.result.flags k (k + 1) 0 (omega arith) l)

  tables : (k : WindowKind) → IsTable c.args.admitted.now.roots (system_in c.args.admitted.now) (pools_value c.args.pools.now) k (place_at c.args.admitted.now.roots (system_in c.args.admitted.now) (pools_value c.args.pools.now))
  tables = tables_of c.args.admitted.now.roots (system_in c.args.admitted.now) (pools_value c.args.pools.now) plannable rising

  -- how many blocks, functions, records and places there are
  size : length (system_in c.args.admitted.now) ≡ length c.blocks-blocks.result.now
  size = length-system_of c.args.admitted.now.dump c.args.admitted.now.probe (same_length c.args.admitted.now.dump c.args.admitted.now.probe admitted_is.slots) ∙ sym (ap length blocks_are)

  -- what is at the index
  module _ (b : Block) (r : Record) (b_is : b ≡ get_or c.blocks-blocks.result.now c.args.i b) (r_is : r ≡ get_or c.records-records.result.now c.args.i r) where
    abbrev probe_block : Block
    probe_block = get_or c.args.admitted.now.probe c.args.i b

    inside : c.args.i < length c.args.admitted.now.dump
    inside = let e = ap length blocks_are in let s = size in let l = c.requires.within in omega (arith, e, s, l)

    b_at : b ≡ get_or c.args.admitted.now.dump c.args.i b
    b_at = b_is ∙ ap (λ (bs : List Block). get_or bs c.args.i b) blocks_are

    p_at : probe_block ≡ get_or c.args.admitted.now.probe c.args.i probe_block
    p_at =
        let count = same_length c.args.admitted.now.dump c.args.admitted.now.probe admitted_is.slots in
        get_or_default c.args.admitted.now.probe c.args.i b probe_block (let l = inside in omega (arith, count, l))

    here : (slice_get (system_in c.args.admitted.now) c.args.i ≡ Some (function_of b probe_block)) × IsRecordInSystem (system_in c.args.admitted.now) (function_of b probe_block) r
    here = function_here c.args.admitted.now.dump c.args.admitted.now.probe c.records-records.result.now c.args.i b probe_block r admitted_is.slots records_are inside b_at p_at r_is

pub bounds-blocks-i : goal.bounds-blocks-i
bounds-blocks-i g c = let s = size g (goal.at.bounds-blocks-i g c).After-blocks-blocks in let l = c.requires.within in omega (arith, s, l)

pub bounds-records-i : goal.bounds-records-i
bounds-records-i g c =
    let start = (goal.at.bounds-records-i g c).After-blocks-blocks in
    let many = same_count (system_in c.args.admitted.now) c.records-records.result.now (records_are g start) in
    let l = c.requires.within in
    omega (arith, many, l)

pub bounds-places-i : goal.bounds-places-i
bounds-places-i g c = let many = c.requires.numbered.count in let l = c.requires.within in omega (arith, many, l)

pub filled-requires : goal.filled-requires
filled-requires g c =
    let start = (goal.at.filled-requires g c).After-blocks-blocks in
    let a = c.args.admitted.now in
    let at = here g start c.index-blocks-i.result c.index-records-i.result c.index-blocks-i.is c.index-records-i.is in
    filling_at a.roots a.dump a.probe (pools_value c.args.pools.now) c.args.needs.now c.args.places.now (plannable g start) (tables g start) c.requires.numbered.needs c.requires.numbered.places
    _ c.args.i (function_of c.index-blocks-i.result (probe_block g start c.index-blocks-i.result c.index-records-i.result c.index-blocks-i.is c.index-records-i.is))
    record { bars = []; rom = 0; windows = record { io = 0; memory = 0; prefetchable = 0 } } at.0 at.1 (ap (λ (b : Block). b.image) c.block.view_is) refl refl

pub returns : goal.returns
returns g c = λ f at_f.
    let start = (goal.at.returns g c).After-blocks-blocks in
    let a = c.args.admitted.now in
    let pools = pools_value c.args.pools.now in
    let at = here g start c.index-blocks-i.result c.index-records-i.result c.index-blocks-i.is c.index-records-i.is in
    let own : Function = function_of c.index-blocks-i.result (probe_block g start c.index-blocks-i.result c.index-records-i.result c.index-blocks-i.is c.index-records-i.is) in
    let there = at.0 in
    let one : own ≡ f = cc in
    let planned : IsPlannedFunction a.roots (system_in a) pools own record own { image = c.filled.result.0 } =
    c.filled.ensures
    (filling_at a.roots a.dump a.probe pools c.args.needs.now c.args.places.now (plannable g start) (tables g start) c.requires.numbered.needs c.requires.numbered.places
    _ c.args.i own record { bars = []; rom = 0; windows = record { io = 0; memory = 0; prefetchable = 0 } } at.0 at.1 (ap (λ (b : Block). b.image) c.block.view_is) refl refl) in
    subst (λ (h : Function). IsPlannedFunction a.roots (system_in a) pools h record h { image = c.filled.result.0 }) one planned
