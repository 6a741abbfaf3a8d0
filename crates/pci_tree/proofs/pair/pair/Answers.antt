use Rattle.std.proofs.Common.{◌≡◌, arith, sym, subst, get_or, List}
use Rattle.std.specs.List.{All}
use Rattle.std.proofs.lemmas.List.{take_all}
use Rattle.pci_spec.specs.Text.{Block, IsDump}
use Rattle.pci_spec.specs.System.{system_of}
use Rattle.pci_spec.specs.Order.{IsFirstThere}
use Rattle.pci_spec.proofs.Pairing.{same_length, length-system_of}
use Rattle.pci_function.specs.Fault.{fault_of}
use Rattle.pci_function.specs.Profile.{IsAnswering}
use Rattle.pci_tree.specs.Pair.{IsPair}
use Rattle.pci_tree.proofs.PairOrder.{slots_refusal, pair_refusal}
use Rattle.pci_tree.proofs.Pairs.{holds_of_more, answering_pair}
use Rattle.pci_tree.proofs.pair.pair.Goals as goal

pub bounds-probes-i : goal.bounds-probes-i
bounds-probes-i g c =
    let long = same_length c.blocks-blocks.result.now c.blocks-probes.result.now c.in-None.ensures.none in
    omega (arith, long)

-- the two lists of slots differ
pub returns-in-Some-clause-first : goal.returns-in-Some-clause-first
returns-in-Some-clause-first g c = λ roots.
    slots_refusal roots c.args.dump.now c.args.probe.now c.blocks-blocks.result.now c.blocks-probes.result.now c.in-Some.slot c.blocks-blocks.ensures.dump c.blocks-probes.ensures.dump
    c.blocks-blocks.ensures.value c.blocks-probes.ensures.value c.in-Some.ensures.some c.in-Some.ensures.least

pub returns-in-Some-identity_fault-clause-first : goal.returns-in-Some-identity_fault-clause-first
returns-in-Some-identity_fault-clause-first g c = λ roots.
    let blocks = c.blocks-blocks.result.now in
    let probes = c.blocks-probes.result.now in
    let e = fault_of c.in-Some-identity_fault.fault in
    let hd : IsDump blocks = subst IsDump (sym c.blocks-blocks.ensures.value) c.blocks-blocks.ensures.dump in
    let hp : IsDump probes = subst IsDump (sym c.blocks-probes.ensures.value) c.blocks-probes.ensures.dump in
    let b : Block = record { slot = c.block.inside.slot; title = c.block.inside.title; image = c.block.inside.image.0 } in
    let p : Block = record { slot = c.read_backs.inside.slot; title = c.read_backs.inside.title; image = c.read_backs.inside.image.0 } in
    let b_is = subst (λ x. x ≡ get_or blocks c.loop-i.i x) (sym c.block.view_is) c.index-blocks-i.is in
    let p_is = subst (λ x. x ≡ get_or probes c.loop-i.i x) (sym c.read_backs.view_is) c.index-probes-i.is in
    let first = pair_refusal blocks probes c.loop-i.i b p e hd hp c.in-None.ensures.none (omega arith) b_is p_is c.loop-i.invariant
    c.in-Some-identity_fault.ensures.fault c.in-Some-identity_fault.ensures.first roots in
    subst (λ (bs : List Block). IsFirstThere roots bs c.args.probe.now e) c.blocks-blocks.ensures.value
    (subst (λ (bs : List Block). IsFirstThere roots blocks bs e) c.blocks-probes.ensures.value first)

pub returns-in-Some-identity_fault-clause-there : goal.returns-in-Some-identity_fault-clause-there
returns-in-Some-identity_fault-clause-there g c = λ roots. (returns-in-Some-identity_fault-clause-first g c roots).there

pub loop-i-preserved : goal.loop-i-preserved
loop-i-preserved g c =
    let blocks = c.blocks-blocks.result.now in
    let probes = c.blocks-probes.result.now in
    let b : Block = record { slot = c.block.inside.slot; title = c.block.inside.title; image = c.block.inside.image.0 } in
    let p : Block = record { slot = c.read_backs.inside.slot; title = c.read_backs.inside.title; image = c.read_backs.inside.image.0 } in
    let b_is = subst (λ x. x ≡ get_or blocks c.loop-i.i x) (sym c.block.view_is) c.index-blocks-i.is in
    let p_is = subst (λ x. x ≡ get_or probes c.loop-i.i x) (sym c.read_backs.view_is) c.index-probes-i.is in
    holds_of_more blocks probes c.in-None.ensures.none c.loop-i.i b p (omega arith) b_is p_is IsAnswering c.loop-i.invariant c.in-None-identity_fault.ensures.fault

pub returns-clause-ok : goal.returns-clause-ok
returns-clause-ok g c = λ roots.
    let blocks = c.blocks-blocks.result.now in
    let probes = c.blocks-probes.result.now in
    let long = length-system_of blocks probes (same_length blocks probes c.in-None.ensures.none) in
    let answering : All IsAnswering (system_of blocks probes) = subst (All IsAnswering) (take_all c.loop-i.i (system_of blocks probes) (omega (arith, long, c.loop-i-test.false))) c.loop-i.invariant in
    let pair = answering_pair blocks probes c.in-None.ensures.none answering roots in
    subst (λ (bs : List Block). IsPair roots bs c.args.probe.now) c.blocks-blocks.ensures.value
    (subst (λ (bs : List Block). IsPair roots blocks bs) c.blocks-probes.ensures.value pair)
