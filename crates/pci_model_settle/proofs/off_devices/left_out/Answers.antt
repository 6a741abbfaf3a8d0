use Rattle.std.proofs.Common.{List, ◌≡◌, ◌++◌, ◌∷◌, [], sym, ◌∙◌, ap}
use Rattle.pci_spec.specs.Slot.{Slot}
use Rattle.pci_spec.specs.Text.{Block, slots_of}
use Rattle.pci_model_settle.specs.OffDevices.{is_left_out, left_out}
use Rattle.pci_model_settle.proofs.LeftDevices.{next_left_out, no_slots, none_stays, not_noted, noted}
use Rattle.pci_model_settle.proofs.off_devices.left_out.Goals as goal
use Rattle.pci_model_settle.proofs.off_devices.left_out.Goals.{then-is_left_out+in_ok-push, else-is_left_out}

pub loop-i-preserved : goal.loop-i-preserved
loop-i-preserved g c =
    let unmoved = c.args.unmoved.now in
    let dump = c.args.dump.now in
    let blocks = c.blocks-blocks.result.now in
    let probes = c.blocks-probes.result.now in
    let same : slots_of dump ≡ slots_of blocks = c.requires.dump ∙ ap slots_of (sym c.blocks-blocks.ensures.value) in
    let read : slots_of blocks ≡ slots_of probes = ap slots_of c.blocks-blocks.ensures.value ∙ c.requires.probe ∙ ap slots_of (sym c.blocks-probes.ensures.value) in
    let i = c.loop-i.i in
    let d = c.index-dump-i.result in
    let b = c.index-blocks-i.result in
    let p = c.index-probes-i.result in
    let slots = c.loop-i.slots.items in
    let next = next_left_out unmoved slots dump blocks probes i d b p same read c.loop-i-test.true c.index-dump-i.is c.index-blocks-i.is c.index-probes-i.is c.loop-i.invariant in
    let is = c.is_left_out.ensures unmoved c.slot_table-among.ensures in
    let slot_is : c.block.inside.slot ≡ d.slot = ap (λ (x : Block). x.slot) c.block.view_is in
    elim c.if-is_left_out.branch [
      | then-is_left_out+in_ok-push v ↦
          ap (λ x. x.items) v.slots-is ∙ v.in_ok-push.ensures.items ∙ ap (λ (s : Slot). slots ++ s ∷ []) slot_is
          ∙ sym (noted slots d.slot (is_left_out unmoved d b p) (sym is ∙ v.if-is_left_out.true)) ∙ sym next
      | else-is_left_out v ↦ ap (λ x. x.items) v.slots-is ∙ sym (not_noted slots d.slot (is_left_out unmoved d b p) (sym is ∙ v.if-is_left_out.false)) ∙ sym next
    ]

pub returns-then-is_empty : goal.returns-then-is_empty
returns-then-is_empty g c =
    let taken = c.args.taken.now in
    c.new-slots.ensures.items ∙ none_stays c.args.dump.now taken.dump taken.probe
    ∙ sym (ap (λ (slots : List Slot). left_out slots c.args.dump.now taken.dump taken.probe) (no_slots c.args.unmoved.now (sym c.is_empty.ensures ∙ c.if-is_empty.true)))
