use Rattle.std.proofs.Common.{◌≡◌, IsTrue, subst}
use Rattle.pci_spec.specs.Text.{slots_of}
use Rattle.pci_spec.specs.System.{Function}
use Rattle.pci_spec.specs.Order.{Place}
use Rattle.judge_spec.specs.Bytes.{switched_off}
use Rattle.judge_spec.specs.Taken.{FixedParts, HasNoOwnFaultBefore, IsAsleep, IsWhere, bridge_aside, first_aside, fixed_parts_by, may_have_parts_by, parts_aside, function_with_image}
use Rattle.pci_model.specs.FixedPartsValue.{fixed_value}
use Rattle.pci_model.specs.WordsValue.{words_value}
use Rattle.pci_model.proofs.take.take.Goals as goal

pub returns : goal.returns
returns c =
    let w = words_value c.args.words in
    let slots = slots_of c.args.blocks.now in
    let slot = c.args.slot in
    let probe = c.first_aside.new.probe.0 in
    let f : Function = record { slot = slot; image = c.args.image.now.0; probe = c.args.probe.now.0 } in
    let g : Function = record { slot = slot; image = c.take_asleep.new.image.0; probe = probe } in
    let b : Function = record { slot = slot; image = c.bridge_aside.new.image.0; probe = probe } in
    let k : Function = record { slot = slot; image = c.parts_aside.new.image.0; probe = c.parts_aside.new.probe.0 } in
    let a : Function = record { slot = slot; image = c.first_aside.new.image.0; probe = probe } in
    let a_is : a ≡ first_aside w f = c.first_aside.ensures slot in
    let b_is : b ≡ bridge_aside w slots g = c.bridge_aside.ensures slot probe in
    let fixed_is : fixed_value c.fixed_parts-fixed.result ≡ fixed_parts_by w f = c.fixed_parts-fixed.ensures slot c.args.probe.now.0 in
    let by_own : IsWhere (IsTrue (may_have_parts_by w b) × HasNoOwnFaultBefore Place b) b (parts_aside w (fixed_parts_by w f) b) k =
    subst (λ (fixed : FixedParts). IsWhere (IsTrue (may_have_parts_by w b) × HasNoOwnFaultBefore Place b) b (parts_aside w fixed b) k) fixed_is c.parts_aside.ensures in
    record {
      g = g;
      k = k;
      power = subst (λ (x : Function). IsWhere (IsTrue w.power × IsAsleep x) x (function_with_image x (switched_off x.image)) g) a_is c.take_asleep.ensures;
      parts = subst (λ (x : Function). IsWhere (IsTrue (may_have_parts_by w x) × HasNoOwnFaultBefore Place x) x (parts_aside w (fixed_parts_by w f) x) k) b_is by_own;
      header = c.cardbus_aside.ensures slot;
    }
