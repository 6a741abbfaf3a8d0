use Rattle.std.proofs.Common.{◌≡◌, List, map, refl, sym, ◌∙◌, ap, inl, inr, false, ◌&&◌}
use Rattle.std.proofs.lemmas.Bool.{both_ways}
use Rattle.std.proofs.Math.Bool.{and-false}
use Rattle.pci_spec.specs.System.{Function}
use Rattle.pci_spec.specs.Order.{Place}
use Rattle.pci_function.specs.Fault.{fault_of}
use Rattle.pci_function.specs.Values.{record_value}
use Rattle.judge_spec.specs.Taken.{HasNoOwnFaultBefore, is_ide, is_compatible, is_unnumbered_bridge}
use Rattle.judge_spec.specs.Bytes.{without_bars}
use Rattle.pci_spec.specs.Decoded.{DecodedBar}
use Rattle.pci_image.specs.Bars.{decoded_bar_of}
use Rattle.pci_image.specs.declared.bar.Bar.{Bar}
use Rattle.std.specs.List.{filter}
use Rattle.pci_model.specs.FixedPartsValue.{fixed_value}
use Rattle.pci_model.specs.WordsValue.{words_value}
use Rattle.pci_model.proofs.Alone.{clear_alone, there_alone}
use Rattle.pci_function.proofs.FirstIn.{early_phase}
use Rattle.pci_model.proofs.Parts.{channels_aside, buses_aside, nothing_aside}
use Rattle.pci_model.proofs.aside.parts_aside.Goals as goal
use Rattle.pci_model.proofs.aside.parts_aside.Goals.{else-words-via-then-words+else-is_ide, else-words-via-else-words, else-words-2-via-then-words-2+else-is_unnumbered, else-words-2-via-else-words-2}

pub returns-then-not-may_have_parts : goal.returns-then-not-may_have_parts
returns-then-not-may_have_parts c =
    let own = c.may_have_parts.ensures c.args.slot c.args.probe.now.0 in
    inr (λ both. both_ways _ (sym own ∙ c.if-not-may_have_parts.true) both.0, refl)

pub returns-in-Err : goal.returns-in-Err
returns-in-Err c =
    let f : Function = record { slot = c.args.slot; image = c.args.image.now.0; probe = c.args.probe.now.0 } in
    let told = fault_of c.in-Err.field-0 in
    inr (λ both. both.1 told (early_phase f told c.in-Err.ensures.here) (there_alone f told c.in-Err.ensures.here), refl)

pub returns-then-is_ide : goal.returns-then-is_ide
returns-then-is_ide c =
    let bars : List DecodedBar = map decoded_bar_of c.in-Ok.decoded.bars.items in
    let f : Function = record { slot = c.args.slot; image = c.args.image.now.0; probe = c.args.probe.now.0 } in
    let none : HasNoOwnFaultBefore Place f = λ fault low is. clear_alone 4 f fault c.in-Ok.ensures.clear low low is in
    inl (
      (sym (c.may_have_parts.ensures f.slot f.probe) ∙ c.if-not-may_have_parts.false, none),
      channels_aside (words_value c.args.words) (fixed_value c.args.fixed) f (record_value c.in-Ok.decoded) c.in-Ok.ensures.decoded.same c.if-words.true (sym c.is_ide.ensures ∙ c.if-is_ide.true) _ _
          (c.leave_channels_out.ensures ∙ ap (λ (bs : List Bar). without_bars (filter (λ bar. is_compatible c.u8-interface.result bar.register) (map decoded_bar_of bs)) f.image) c.deref.ensures.0
          ∙ ap (λ n. without_bars (filter (λ bar. is_compatible n bar.register) bars) f.image) c.u8-interface.ensures)
          (c.leave_channels_out-then-is_ide.ensures ∙ ap (λ (bs : List Bar). without_bars (filter (λ bar. is_compatible c.u8-interface.result bar.register) (map decoded_bar_of bs)) f.probe) c.deref-then-is_ide.ensures.0
          ∙ ap (λ n. without_bars (filter (λ bar. is_compatible n bar.register) bars) f.probe) c.u8-interface.ensures),
    )

pub returns-then-is_unnumbered : goal.returns-then-is_unnumbered
returns-then-is_unnumbered c =
    let f : Function = record { slot = c.args.slot; image = c.args.image.now.0; probe = c.args.probe.now.0 } in
    let none : HasNoOwnFaultBefore Place f = λ fault low is. clear_alone 4 f fault c.in-Ok.ensures.clear low low is in
    let other : (c.args.words.ide && is_ide f.image) ≡ false = elim c.else-words.branch [
      | else-words-via-then-words+else-is_ide w ↦ (let no : is_ide f.image ≡ false = sym w.is_ide.ensures ∙ w.if-is_ide.false in rw no (and-false c.args.words.ide))
      | else-words-via-else-words w ↦ (let no : c.args.words.ide ≡ false = w.if-words.false in rw no refl)
    ] in
    inl (
      (sym (c.may_have_parts.ensures f.slot f.probe) ∙ c.if-not-may_have_parts.false, none),
      buses_aside (words_value c.args.words) (fixed_value c.args.fixed) f (record_value c.in-Ok.decoded) c.in-Ok.ensures.decoded.same other c.if-words-2.true
          (sym c.is_unnumbered.ensures ∙ c.if-is_unnumbered.true) _ _ c.make_device.ensures c.make_device_read_backs.ensures,
    )

pub returns-else-words-2 : goal.returns-else-words-2
returns-else-words-2 c =
    let f : Function = record { slot = c.args.slot; image = c.args.image.now.0; probe = c.args.probe.now.0 } in
    let r = record_value c.in-Ok.decoded in
    let none : HasNoOwnFaultBefore Place f = λ fault low is. clear_alone 4 f fault c.in-Ok.ensures.clear low low is in
    let other : (c.args.words.ide && is_ide f.image) ≡ false = elim c.else-words.branch [
      | else-words-via-then-words+else-is_ide w ↦ (let no : is_ide f.image ≡ false = sym w.is_ide.ensures ∙ w.if-is_ide.false in rw no (and-false c.args.words.ide))
      | else-words-via-else-words w ↦ (let no : c.args.words.ide ≡ false = w.if-words.false in rw no refl)
    ] in
    let numbered : (c.args.words.unnumbered && is_unnumbered_bridge (fixed_value c.args.fixed) r r.bridge) ≡ false = elim c.else-words-2.branch [
      | else-words-2-via-then-words-2+else-is_unnumbered w ↦ (let no : is_unnumbered_bridge (fixed_value c.args.fixed) r r.bridge ≡ false = sym w.is_unnumbered.ensures ∙ w.if-is_unnumbered.false in rw no (and-false c.args.words.unnumbered))
      | else-words-2-via-else-words-2 w ↦ (let no : c.args.words.unnumbered ≡ false = w.if-words-2.false in rw no refl)
    ] in
    inl ((sym (c.may_have_parts.ensures f.slot f.probe) ∙ c.if-not-may_have_parts.false, none), nothing_aside (words_value c.args.words) (fixed_value c.args.fixed) f r c.in-Ok.ensures.decoded.same other numbered)
