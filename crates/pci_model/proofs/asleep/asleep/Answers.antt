use Rattle.std.proofs.Common.{◌≡◌, ◌+◌, ◌++◌, List, [], ◌∷◌, IsTrue, sym, ◌∙◌, ap, subst}
use Rattle.std.specs.Prelude.{◌↔◌}
use Rattle.std.proofs.lemmas.Bool.{both_ways, not-true}
use Rattle.pci_spec.specs.Slot.{Slot}
use Rattle.pci_spec.specs.Text.{Block, slots_of}
use Rattle.pci_spec.specs.System.{Function, function_of, system_of}
use Rattle.judge_spec.specs.Asleep.{AreAsleepBy}
use Rattle.judge_spec.specs.Taken.{IsAsleepBy}
use Rattle.pci_model.specs.WordsValue.{words_value}
use Rattle.pci_model.proofs.Sleepers.{AreAsleepSoFar, all_asleep, next_asleep, next_awake, none_asleep}
use Rattle.pci_model.proofs.asleep.asleep.Goals as goal
use Rattle.pci_model.proofs.asleep.asleep.Goals.{then-is_taken_asleep+in_ok-push, else-is_taken_asleep}

pub returns-then-not-words : goal.returns-then-not-words
returns-then-not-words g c =
    subst (λ (slots : List Slot). AreAsleepBy (words_value c.args.words) (system_of c.args.dump.now c.args.probe.now) slots) (sym c.new-slots.ensures.items)
    (none_asleep (words_value c.args.words) (system_of c.args.dump.now c.args.probe.now) (not-true c.args.words.power c.if-not-words.true))

pub loop-i-preserved : goal.loop-i-preserved
loop-i-preserved g c =
    let w = words_value c.args.words in
    let blocks = c.blocks-blocks.result.now in
    let probes = c.blocks-probes.result.now in
    let same : slots_of blocks ≡ slots_of probes = ap slots_of c.blocks-blocks.ensures.value ∙ c.requires ∙ ap slots_of (sym c.blocks-probes.ensures.value) in
    let b = c.index-blocks-i.result in
    let p = c.index-probes-i.result in
    let asked : IsTrue c.is_taken_asleep.result ↔ IsAsleepBy w (function_of b p) =
    subst (λ (f : Function). IsTrue c.is_taken_asleep.result ↔ IsAsleepBy w f) (λ i. function_of (c.block.view_is i) (c.read_backs.view_is i)) c.is_taken_asleep.ensures in
    let slot_is : c.block.inside.slot ≡ b.slot = ap (λ (x : Block). x.slot) c.block.view_is in
    elim c.if-is_taken_asleep.branch [
      | then-is_taken_asleep+in_ok-push t ↦
          subst (λ (slots : List Slot). AreAsleepSoFar w blocks probes (c.loop-i.i + 1) slots)
          (sym (ap (λ v. v.items) t.slots-is ∙ t.in_ok-push.ensures.items ∙ ap (λ (s : Slot). c.loop-i.slots.items ++ s ∷ []) slot_is))
          (next_asleep w blocks probes c.loop-i.i c.loop-i.slots.items b p same c.loop-i-test.true c.index-blocks-i.is c.index-probes-i.is c.loop-i.invariant (asked.0 t.if-is_taken_asleep.true))
      | else-is_taken_asleep t ↦
          subst (λ (slots : List Slot). AreAsleepSoFar w blocks probes (c.loop-i.i + 1) slots) (sym (ap (λ v. v.items) t.slots-is))
          (next_awake w blocks probes c.loop-i.i c.loop-i.slots.items b p same c.loop-i-test.true c.index-blocks-i.is c.index-probes-i.is c.loop-i.invariant
          (λ asleep. both_ways c.is_taken_asleep.result t.if-is_taken_asleep.false (asked.1 asleep)))
    ]

pub returns : goal.returns
returns g c =
    let w = words_value c.args.words in
    let blocks_are = c.blocks-blocks.ensures.value in
    let probes_are = c.blocks-probes.ensures.value in
    let same : slots_of c.blocks-blocks.result.now ≡ slots_of c.blocks-probes.result.now = ap slots_of blocks_are ∙ c.requires ∙ ap slots_of (sym probes_are) in
    let all = all_asleep w c.blocks-blocks.result.now c.blocks-probes.result.now c.loop-i.i c.loop-i.slots.items same c.loop-i-test.false c.loop-i.invariant in
    subst (λ bs. AreAsleepBy w (system_of bs c.args.probe.now) c.loop-i.slots.items) blocks_are
    (subst (λ bs. AreAsleepBy w (system_of c.blocks-blocks.result.now bs) c.loop-i.slots.items) probes_are all)
