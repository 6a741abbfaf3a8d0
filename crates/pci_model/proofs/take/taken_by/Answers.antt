use Rattle.std.proofs.Common.{◌≡◌, ◌<◌, ◌+◌, ◌++◌, List, [], ◌∷◌, length, arith, sym, ◌∙◌, ap, subst}
use Rattle.pci_spec.specs.Text.{Block, IsDump, slots_of}
use Rattle.pci_spec.specs.System.{function_of, system_of}
use Rattle.judge_spec.specs.Taken.{IsTakenAs}
use Rattle.judge_spec.specs.TakenDumps.{AreTakenAs}
use Rattle.pci_model.specs.Subtractive.{unclaimed_aside_of}
use Rattle.pci_model.specs.WordsValue.{words_value}
use Rattle.pci_spec.proofs.Pairing.{same_length}
use Rattle.pci_model.proofs.Takes.{AreTakenSoFar, next_above, next_taken, room_left, all_taken}
use Rattle.pci_model.proofs.take.taken_by.Goals as goal

pub bounds-probes-i : goal.bounds-probes-i
bounds-probes-i g c =
    let count = same_length c.args.dump.now c.args.probe.now c.requires in
    let more = c.loop-i-test.true in
    omega (arith, count, more, ap length c.blocks-blocks.ensures.value, ap length c.blocks-probes.ensures.value)

pub push_next-requires-clause-above : goal.push_next-requires-clause-above
push_next-requires-clause-above g c =
    let blocks = c.blocks-blocks.result.now in
    let is = subst (λ (bs : List Block). IsDump bs) (sym c.blocks-blocks.ensures.value) c.blocks-blocks.ensures.dump in
    next_above blocks c.loop-i.taken.dump c.loop-i.i c.take_blocks.new.block.slot c.index-blocks-i.result c.loop-i.invariant.slots is c.loop-i-test.true c.index-blocks-i.is
    (c.take_blocks.ensures.slot ∙ ap (λ (b : Block). b.slot) c.copy-block.ensures)

pub push_next-requires-clause-room : goal.push_next-requires-clause-room
push_next-requires-clause-room g c =
    let blocks = c.blocks-blocks.result.now in
    let is = subst (λ (bs : List Block). IsDump bs) (sym c.blocks-blocks.ensures.value) c.blocks-blocks.ensures.dump in
    room_left blocks c.loop-i.taken.dump c.loop-i.i c.loop-i.invariant.slots is c.loop-i-test.true

pub push_next-requires-in-loop-i-clause-above : goal.push_next-requires-in-loop-i-clause-above
push_next-requires-in-loop-i-clause-above g c =
    let probes = c.blocks-probes.result.now in
    let is = subst (λ (bs : List Block). IsDump bs) (sym c.blocks-probes.ensures.value) c.blocks-probes.ensures.dump in
    let count = same_length c.args.dump.now c.args.probe.now c.requires in
    let more = c.loop-i-test.true in
    let inside : c.loop-i.i < length probes = omega (arith, count, more, ap length c.blocks-blocks.ensures.value, ap length c.blocks-probes.ensures.value) in
    next_above probes c.loop-i.taken.probe c.loop-i.i c.take_blocks.new.probe.slot c.index-probes-i.result c.loop-i.invariant.probe_slots is inside c.index-probes-i.is
    (c.take_blocks.ensures.probe_slot ∙ ap (λ (b : Block). b.slot) c.copy-read_backs.ensures)

pub push_next-requires-in-loop-i-clause-room : goal.push_next-requires-in-loop-i-clause-room
push_next-requires-in-loop-i-clause-room g c =
    let probes = c.blocks-probes.result.now in
    let is = subst (λ (bs : List Block). IsDump bs) (sym c.blocks-probes.ensures.value) c.blocks-probes.ensures.dump in
    let count = same_length c.args.dump.now c.args.probe.now c.requires in
    let more = c.loop-i-test.true in
    let inside : c.loop-i.i < length probes = omega (arith, count, more, ap length c.blocks-blocks.ensures.value, ap length c.blocks-probes.ensures.value) in
    room_left probes c.loop-i.taken.probe c.loop-i.i c.loop-i.invariant.probe_slots is inside

pub loop-i-preserved : goal.loop-i-preserved
loop-i-preserved g c =
    let blocks = c.blocks-blocks.result.now in
    let probes = c.blocks-probes.result.now in
    let same : slots_of blocks ≡ slots_of probes = ap slots_of c.blocks-blocks.ensures.value ∙ c.requires ∙ ap slots_of (sym c.blocks-probes.ensures.value) in
    let R : Block → Block → Type 0 = λ b p. IsTakenAs (words_value c.args.words) (slots_of blocks) (unclaimed_aside_of (words_value c.args.words) (system_of blocks probes) (function_of b p)) (function_of c.take_blocks.new.block c.take_blocks.new.probe) in
    let taken = subst (λ b. R b c.index-probes-i.result) c.copy-block.ensures (subst (λ p. R c.copy-block.result p) c.copy-read_backs.ensures (c.take_blocks.ensures.taken probes same)) in
    let next = next_taken (words_value c.args.words) blocks probes c.loop-i.i c.loop-i.taken.dump c.loop-i.taken.probe c.take_blocks.new.block c.take_blocks.new.probe c.index-blocks-i.result c.index-probes-i.result same
    c.loop-i.invariant c.loop-i-test.true c.index-blocks-i.is c.index-probes-i.is
    (c.take_blocks.ensures.slot ∙ ap (λ (b : Block). b.slot) c.copy-block.ensures) (c.take_blocks.ensures.probe_slot ∙ ap (λ (b : Block). b.slot) c.copy-read_backs.ensures)
    (c.take_blocks.ensures.probe_title ∙ ap (λ (b : Block). b.title) c.copy-read_backs.ensures) taken in
    subst (λ ds. AreTakenSoFar (words_value c.args.words) blocks probes (c.loop-i.i + 1) ds c.push_next-in-loop-i.new.self) (sym c.in_ok-push_next.ensures)
    (subst (λ ps. AreTakenSoFar (words_value c.args.words) blocks probes (c.loop-i.i + 1) (c.loop-i.taken.dump ++ c.take_blocks.new.block ∷ []) ps) (sym c.in_ok-push_next-2.ensures) next)

pub returns : goal.returns
returns g c =
    let blocks_are = c.blocks-blocks.ensures.value in
    let probes_are = c.blocks-probes.ensures.value in
    let same : slots_of c.blocks-blocks.result.now ≡ slots_of c.blocks-probes.result.now = ap slots_of blocks_are ∙ c.requires ∙ ap slots_of (sym probes_are) in
    let all = all_taken (words_value c.args.words) c.blocks-blocks.result.now c.blocks-probes.result.now c.loop-i.i c.loop-i.taken.dump c.loop-i.taken.probe same c.loop-i.invariant c.loop-i-test.false in
    subst (λ bs. AreTakenAs (words_value c.args.words) bs c.args.probe.now c.loop-i.taken.dump c.loop-i.taken.probe) blocks_are
    (subst (λ bs. AreTakenAs (words_value c.args.words) c.blocks-blocks.result.now bs c.loop-i.taken.dump c.loop-i.taken.probe) probes_are all)
