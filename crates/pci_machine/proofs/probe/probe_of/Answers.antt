use Rattle.std.proofs.Common.{◌≡◌, ◌<◌, ◌++◌, ◌∷◌, [], List, refl, sym, ◌∙◌, ap, subst, arith, length, map, None, Some}
use Rattle.std.specs.List.{flat_map}
use Rattle.std.specs.Option.{option_map}
use Rattle.std.proofs.lemmas.Result.{err_from_is_err_and}
use Rattle.pci_spec.specs.Text.{Block, IsDump}
use Rattle.pci_spec.specs.Stops.{IsAboveLast, last_slot}
use Rattle.pci_spec.specs.SizesText.{SizesBlock}
use Rattle.pci_spec.specs.ProbeOf.{at_slot, told_of, probe_block, assumed_in, probe_of, assumed_of, identity_fault, read_back_fault, first_of, probe_fault}
use Rattle.pci_machine.specs.Derivation.{told_function}
use Rattle.pci_machine.specs.ProbeFault.{IsFirstProbeFault}
use Rattle.pci_machine.proofs.FirstOf.{first_of-more, first_of-none, header_of-none}
use Rattle.pci_machine.proofs.ToldFunctions.{same_count, length-told_of, told_at, next_above, all_told, blocks_more, assumed_more}
use Rattle.pci_tree.specs.Pair.{IsPair}
use Rattle.pci_machine.proofs.ProbePairs.{pair_of}
use Rattle.pci_machine.proofs.ProbeFaults.{fault_by, register_fault_by}
use Rattle.pci_machine.specs.Assuming.{assuming_of}
use Rattle.pci_machine.proofs.probe.probe_of.Goals as goal

pub returns-in-Some-clause-fault : goal.returns-in-Some-clause-fault
returns-in-Some-clause-fault g c =
    let dump = c.blocks-blocks.ensures.value in
    let sizes = c.blocks-told.ensures.value in
    sym (λ i. probe_fault (assuming_of c.args.assuming) (dump i) (sizes i))
    ∙ fault_by c.args.assuming c.blocks-blocks.result.now c.blocks-told.result.now (Some c.in-Some.slot) (first_of identity_fault c.blocks-blocks.result.now) c.in-Some.ensures.least refl

pub returns-in-Some-header_fault-clause-fault : goal.returns-in-Some-header_fault-clause-fault
returns-in-Some-header_fault-clause-fault g c =
    let dump = c.blocks-blocks.ensures.value in
    let sizes = c.blocks-told.ensures.value in
    sym (λ i. probe_fault (assuming_of c.args.assuming) (dump i) (sizes i))
    ∙ fault_by c.args.assuming c.blocks-blocks.result.now c.blocks-told.result.now None _ c.in-None.ensures.least c.in-Some-header_fault.ensures.some

pub loop-i-init : goal.loop-i-init
unfolding first_of
loop-i-init g c = record { fine = refl; probe = c.empty.ensures; assumed = c.new.ensures.items }

pub bounds-told-i : goal.bounds-told-i
bounds-told-i g c =
    let count = same_count c.blocks-blocks.result.now c.blocks-told.result.now c.in-None.ensures.same in
    let within = c.loop-i-test.true in
    omega (arith, count, within)

pub add-requires-clause-header : goal.add-requires-clause-header
add-requires-clause-header g c =
    header_of-none c.index-blocks-i.result
    (first_of-none identity_fault c.blocks-blocks.result.now c.loop-i.i c.index-blocks-i.result c.loop-i-test.true (sym c.index-blocks-i.is) c.in-None-header_fault.ensures.none)

pub add-requires-clause-above : goal.add-requires-clause-above
add-requires-clause-above g c =
    let blocks = c.blocks-blocks.result.now in
    let dump : IsDump blocks = subst IsDump (sym c.blocks-blocks.ensures.value) c.blocks-blocks.ensures.dump in
    subst (λ (found : List Block). IsAboveLast (last_slot found) c.index-blocks-i.result.slot) (sym c.loop-i.invariant.probe)
    (next_above blocks c.blocks-told.result.now c.in-None.ensures.same c.loop-i.i c.index-blocks-i.result dump c.loop-i-test.true c.index-blocks-i.is)

pub returns-in_err-add-clause-fault : goal.returns-in_err-add-clause-fault
returns-in_err-add-clause-fault g c =
    let dump = c.blocks-blocks.ensures.value in
    let sizes = c.blocks-told.ensures.value in
    let p = err_from_is_err_and c.from_residual.result c.from_residual.ensures.1 in
    rw (p.1, p.2) (subst (λ (bs : List Block). IsFirstProbeFault c.args.assuming bs c.args.sizes.now c.in_err-add.field-0.0) dump
    (subst (λ (ss : List SizesBlock). IsFirstProbeFault c.args.assuming c.blocks-blocks.result.now ss c.in_err-add.field-0.0) sizes
    (register_fault_by c.args.assuming c.blocks-blocks.result.now c.blocks-told.result.now c.in_err-add.field-0.0 c.loop-i.i c.index-blocks-i.result c.index-told-i.result
    c.in-None.ensures.least c.in-None.ensures.same c.in-None-header_fault.ensures.none c.loop-i-test.true c.index-blocks-i.is c.index-told-i.is c.loop-i.invariant.fine c.in_err-add.ensures.fault)))

pub loop-i-preserved : goal.loop-i-preserved
loop-i-preserved g c =
    let blocks = c.blocks-blocks.result.now in
    let sizes = c.blocks-told.result.now in
    let b = c.index-blocks-i.result in
    let s = c.index-told-i.result in
    let same = c.in-None.ensures.same in
    let count = same_count blocks sizes same in
    let long = length-told_of blocks sizes count in
    let within = c.loop-i-test.true in
    let inside : c.loop-i.i < length (told_of blocks sizes) = omega (arith, long, within) in
    let at = told_at blocks sizes c.loop-i.i b s within (omega (arith, count, within)) c.index-blocks-i.is c.index-told-i.is in
    record {
      fine = first_of-more (read_back_fault (assuming_of c.args.assuming)) (told_of blocks sizes) c.loop-i.i (told_function b s) inside at c.loop-i.invariant.fine ∙ ap (option_map (at_slot b.slot)) c.in_ok-add.ensures.told;
      probe = c.in_ok-add.ensures.probe ∙ ap (λ bs. bs ++ probe_block (told_function b s) ∷ []) c.loop-i.invariant.probe ∙ sym (blocks_more blocks sizes same c.loop-i.i (told_function b s) inside at);
      assumed = c.in_ok-add.ensures.assumed ∙ ap (λ xs. xs ++ assumed_in (told_function b s)) c.loop-i.invariant.assumed ∙ sym (assumed_more blocks sizes same c.loop-i.i (told_function b s) inside at);
    }

-- all functions
pub returns-clause-told : goal.returns-clause-told
returns-clause-told g c =
    let blocks = c.blocks-blocks.result.now in
    let told_function = c.blocks-told.result.now in
    let dump = c.blocks-blocks.ensures.value in
    let sizes = c.blocks-told.ensures.value in
    sym (λ i. probe_fault (assuming_of c.args.assuming) (dump i) (sizes i)) ∙ fault_by c.args.assuming blocks told_function None None c.in-None.ensures.least c.in-None-header_fault.ensures.none
    ∙ ap (first_of (read_back_fault (assuming_of c.args.assuming))) (sym (all_told blocks told_function c.in-None.ensures.same c.loop-i.i c.loop-i-test.false)) ∙ c.loop-i.invariant.fine

pub returns-clause-probe : goal.returns-clause-probe
returns-clause-probe g c =
    let dump = c.blocks-blocks.ensures.value in
    let sizes = c.blocks-told.ensures.value in
    c.loop-i.invariant.probe ∙ ap (map probe_block) (all_told c.blocks-blocks.result.now c.blocks-told.result.now c.in-None.ensures.same c.loop-i.i c.loop-i-test.false)
    ∙ (λ i. probe_of (dump i) (sizes i))

pub returns-clause-assumed : goal.returns-clause-assumed
returns-clause-assumed g c =
    let dump = c.blocks-blocks.ensures.value in
    let sizes = c.blocks-told.ensures.value in
    c.loop-i.invariant.assumed ∙ ap (flat_map assumed_in) (all_told c.blocks-blocks.result.now c.blocks-told.result.now c.in-None.ensures.same c.loop-i.i c.loop-i-test.false)
    ∙ (λ i. assumed_of (dump i) (sizes i))

pub returns-clause-pair : goal.returns-clause-pair
returns-clause-pair g c roots =
    let blocks = c.blocks-blocks.result.now in
    let told_function = c.blocks-told.result.now in
    let dump = c.blocks-blocks.ensures.value in
    let sizes = c.blocks-told.ensures.value in
    let probe : probe_of blocks told_function ≡ c.loop-i.derivation.probe = (λ i. probe_of (dump i) (sizes i)) ∙ sym (returns-clause-probe g c) in
    subst (λ (bs : List Block). IsPair roots bs c.loop-i.derivation.probe) dump
    (subst (λ (ps : List Block). IsPair roots blocks ps) probe (pair_of blocks told_function c.in-None.ensures.same c.in-None-header_fault.ensures.none roots))
