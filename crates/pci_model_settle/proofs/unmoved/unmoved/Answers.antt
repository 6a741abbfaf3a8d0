use Rattle.std.specs.Prelude.{◌||◌}
use Rattle.std.proofs.Common.{◌≡◌, ℕ, ◌+◌, ◌++◌, true, false, List, [], ◌∷◌, get_or, sym, ◌∙◌, ap, subst}
use Rattle.std.specs.List.{list_any}
use Rattle.pci_spec.specs.Slot.{Slot}
use Rattle.pci_spec.specs.Text.{Block, slots_of}
use Rattle.pci_spec.specs.System.{Function, System, function_of, system_of}
use Rattle.pci_spec.proofs.Pairing.{same_length}
use Rattle.judge_spec.specs.ModelWords.{Words}
use Rattle.pci_model.specs.WordsValue.{words_value}
use Rattle.pci_model_settle.specs.Unmoved.{is_among, is_below, is_bridge_unmoved, is_unmoved, unmoved_among}
use Rattle.pci_model_settle.specs.SleepTables.{IsSlotTable, is_above_by}
use Rattle.pci_model_settle.proofs.Sleeping.{below_is}
use Rattle.pci_model_settle.proofs.Staying.{AreAlike, AreSoFar, taken_same, next_unmoved, next_moved, all_unmoved}
use Rattle.pci_model_settle.proofs.unmoved.unmoved.Goals as goal
use Rattle.pci_model_settle.proofs.unmoved.unmoved.Goals.{then-sleeps+in_ok-push, then-sleeps-via-then-sleeps, then-sleeps-via-else-sleeps+then-is_bridge_unmoved, else-sleeps+else-is_bridge_unmoved}

pub loop-i-preserved : goal.loop-i-preserved
loop-i-preserved g c =
    let w : Words = words_value c.args.words in
    let blocks = c.blocks-blocks.result.now in
    let probes = c.blocks-probes.result.now in
    let takens = c.blocks-changed.result.now in
    let taken_probes : List Block = c.args.taken.now.probe in
    let asleep : List Slot = c.in_ok-asleep.asleep.items in
    let alike : AreAlike blocks probes takens taken_probes = record {
      read = ap slots_of c.blocks-blocks.ensures.value ∙ c.requires.probe ∙ ap slots_of (sym c.blocks-probes.ensures.value);
      own = ap slots_of c.blocks-changed.ensures.value ∙ c.requires.taken ∙ ap slots_of (sym c.blocks-blocks.ensures.value);
      own_read = c.requires.taken_probe ∙ ap slots_of (sym c.blocks-probes.ensures.value);
    } in
    let i : ℕ = c.loop-i.i in
    let b : Block = c.index-blocks-i.result in
    let p : Block = c.index-probes-i.result in
    let k : Block = c.index-changed-i.result in
    let q : Block = get_or taken_probes i k in
    let f : Function = function_of b p in
    let h : Function = function_of k q in
    let t : System = system_of takens taken_probes in
    let told : IsSlotTable asleep c.slot_table-sleeping.result = subst (λ ss. IsSlotTable ss c.slot_table-sleeping.result) c.as_slice.ensures.value c.slot_table-sleeping.ensures in
    let slept : (is_among asleep b.slot || is_below asleep t b.slot.bus) ≡ c.sleeps.result =
    sym (c.sleeps.ensures asleep takens told (c.below_table-below.ensures asleep told)
    ∙ ap (λ (x : Block). is_among asleep x.slot || list_any (is_above_by asleep x.slot.bus) takens) c.block.view_is
    ∙ ap (λ y. is_among asleep b.slot || y) (below_is asleep takens taken_probes b.slot.bus (same_length takens taken_probes (taken_same w asleep blocks probes takens taken_probes alike)))) in
    let slot_is : c.block.inside.slot ≡ b.slot = ap (λ (x : Block). x.slot) c.block.view_is in
    let slots = c.loop-i.slots.items in
    elim c.if-sleeps.branch [
      | then-sleeps+in_ok-push v ↦
          let stays : is_unmoved w asleep t f h ≡ true = elim v.then-sleeps.branch [
            | then-sleeps-via-then-sleeps u ↦ ap (λ x. x || is_bridge_unmoved w f h) (slept ∙ u.if-sleeps.true)
            | then-sleeps-via-else-sleeps+then-is_bridge_unmoved u ↦
                ap (λ x. x || is_bridge_unmoved w f h) (slept ∙ u.if-sleeps.false)
                ∙ sym (u.is_bridge_unmoved.ensures b.slot k.slot q.image
                ∙ (λ j. is_bridge_unmoved w record { slot = b.slot; image = (c.block.view_is j).image; probe = (c.read_backs.view_is j).image } record { slot = k.slot; image = (c.as_taken.view_is j).image; probe = q.image }))
                ∙ u.if-is_bridge_unmoved.true
          ] in
          subst (λ (ss : List Slot). AreSoFar w asleep blocks probes takens taken_probes (i + 1) ss)
          (sym (ap (λ x. x.items) v.slots-is ∙ v.in_ok-push.ensures.items ∙ ap (λ (s : Slot). slots ++ s ∷ []) slot_is))
          (next_unmoved w asleep blocks probes takens taken_probes alike i slots b p k c.loop-i-test.true c.index-blocks-i.is c.index-probes-i.is c.index-changed-i.is c.loop-i.invariant stays)
      | else-sleeps+else-is_bridge_unmoved v ↦
          let moves : is_unmoved w asleep t f h ≡ false =
          ap (λ x. x || is_bridge_unmoved w f h) (slept ∙ v.if-sleeps.false)
          ∙ sym (v.is_bridge_unmoved.ensures b.slot k.slot q.image
          ∙ (λ j. is_bridge_unmoved w record { slot = b.slot; image = (c.block.view_is j).image; probe = (c.read_backs.view_is j).image } record { slot = k.slot; image = (c.as_taken.view_is j).image; probe = q.image }))
          ∙ v.if-is_bridge_unmoved.false in
          subst (λ (ss : List Slot). AreSoFar w asleep blocks probes takens taken_probes (i + 1) ss) (sym (ap (λ x. x.items) v.slots-is))
          (next_moved w asleep blocks probes takens taken_probes alike i slots b p k c.loop-i-test.true c.index-blocks-i.is c.index-probes-i.is c.index-changed-i.is c.loop-i.invariant moves)
    ]

pub returns : goal.returns
returns g c =
    let w : Words = words_value c.args.words in
    let taken_probes : List Block = c.args.taken.now.probe in
    let asleep : List Slot = c.in_ok-asleep.asleep.items in
    let blocks_are = c.blocks-blocks.ensures.value in
    let probes_are = c.blocks-probes.ensures.value in
    let takens_are = c.blocks-changed.ensures.value in
    record {
      asleep = asleep;
      are_asleep = c.in_ok-asleep.ensures;
      are = all_unmoved w asleep c.blocks-blocks.result.now c.blocks-probes.result.now c.blocks-changed.result.now taken_probes record {
        read = ap slots_of blocks_are ∙ c.requires.probe ∙ ap slots_of (sym probes_are);
        own = ap slots_of takens_are ∙ c.requires.taken ∙ ap slots_of (sym blocks_are);
        own_read = c.requires.taken_probe ∙ ap slots_of (sym probes_are);
      } c.loop-i.i c.loop-i.slots.items c.loop-i-test.false c.loop-i.invariant
          ∙ (λ j. unmoved_among w asleep (system_of (takens_are j) taken_probes) (system_of (blocks_are j) (probes_are j)) (system_of (takens_are j) taken_probes));
    }
