use Rattle.std.proofs.Common.{◌≡◌, get_or, arith, sym, ◌∙◌, ap}
use Rattle.pci_spec.specs.Text.{Block}
use Rattle.pci_model.proofs.Behind.{same_place}
use Rattle.pci_model.proofs.Rivals.{no_rival}
use Rattle.pci_model.proofs.subtractive.has_rival.Goals as goal

pub returns-then-bus : goal.returns-then-bus
returns-then-bus c =
    let blocks = c.args.blocks.now in
    let i = c.loop-i.i in
    let b = c.index-blocks-i.result in
    let above = c.if-bus.true in
    let own = c.bus-bus.ensures in
    let bus = c.bus.ensures in
    let same = ap (λ (x : Block). x.slot.bus) c.other.view_is in
    sym (no_rival blocks c.args.slot i c.requires c.loop-i.invariant
    (λ inside d. let at : b.slot.bus ≡ (get_or blocks i d).slot.bus = ap (λ (x : Block). x.slot.bus) (c.index-blocks-i.is ∙ same_place blocks i b d inside) in
    omega (arith, at, bus, same, own, above)))

pub returns : goal.returns
returns c =
    let end = c.loop-i-test.false in
    sym (no_rival c.args.blocks.now c.args.slot c.loop-i.i c.requires c.loop-i.invariant (λ inside d. absurd (omega (arith, inside, end))))
