use Rattle.std.proofs.Common.{◌≡◌, get_or, arith, sym, ◌∙◌, ap, inl, inr}
use Rattle.std.proofs.lemmas.Bool.{cases_lt, le-leb, lt-leb}
use Rattle.pci_spec.specs.Header.{secondary_bus, subordinate_bus}
use Rattle.pci_spec.specs.Text.{Block}
use Rattle.pci_model.proofs.Behind.{none_behind, one_behind, same_place}
use Rattle.pci_model.proofs.listed_behind.is_anyone_behind.Goals as goal

pub returns-then-blocks-first : goal.returns-then-blocks-first
returns-then-blocks-first c slot probe =
    let low = secondary_bus c.args.bridge.now.0 in
    let blocks = c.args.blocks.now in
    let end = c.if-blocks-first.true in
    let first = c.first_from-first.result in
    sym (none_behind blocks low (subordinate_bus c.args.bridge.now.0) first c.requires
    (λ k d from less. let is = c.first_from-first.ensures.before k d from less in let at = c.u8.ensures in omega (arith, is, at))
    (λ inside d. absurd (omega (arith, inside, end))))

pub returns : goal.returns
returns c slot probe =
    let low = secondary_bus c.args.bridge.now.0 in
    let high = subordinate_bus c.args.bridge.now.0 in
    let blocks = c.args.blocks.now in
    let first = c.first_from-first.result in
    let b = c.index-blocks-first.result in
    let end = c.if-blocks-first.false in
    let bus = c.bus.ensures in
    let same = ap (λ (x : Block). x.slot.bus) c.block.view_is in
    let low_is = c.u8.ensures in
    let high_is = c.u8-2.ensures in
    elim (cases_lt c.u8-2.result c.bus.result) [
      | inl above ↦ lt-leb c.bus.result c.u8-2.result above
          ∙ sym (none_behind blocks low high first c.requires
          (λ k d from less. let is = c.first_from-first.ensures.before k d from less in omega (arith, is, low_is))
          (λ inside d. let at : b.slot.bus ≡ (get_or blocks first d).slot.bus = ap (λ (x : Block). x.slot.bus) (c.index-blocks-first.is ∙ same_place blocks first b d inside) in
          omega (arith, at, bus, same, high_is, above)))
      | inr within ↦ le-leb c.bus.result c.u8-2.result within
          ∙ sym (one_behind blocks low high first b
          (λ k d from less. let is = c.first_from-first.ensures.after k d from less in omega (arith, is, low_is))
          (omega (arith, end)) c.index-blocks-first.is (omega (arith, bus, same, high_is, within)))
    ]
