use Rattle.std.proofs.Common.{◌≡◌, ◌+◌, refl, sym, ◌∙◌, ap, Some}
use Rattle.pci_spec.specs.Text.{Block}
use Rattle.pci_spec.specs.ProbeOf.{identity_fault, first_of}
use Rattle.pci_machine.specs.ProbeFault.{fault_value}
use Rattle.pci_machine.proofs.FirstOf.{first_of-more, first_of-found, header-none, header-fault}
use Rattle.pci_machine.proofs.probe.header_fault.Goals as goal

pub loop-block-init : goal.loop-block-init
unfolding first_of
loop-block-init c = refl

pub returns-in-Err-clause-some : goal.returns-in-Err-clause-some
returns-in-Err-clause-some c =
    let b : Block = record { slot = c.block.inside.slot; title = c.block.inside.title; image = c.block.inside.image.0 } in
    let here : identity_fault c.block-item.result ≡ Some (fault_value c.at.result) =
    ap identity_fault (sym c.block.view_is) ∙ header-fault b c.in-Err.fault c.in-Err.ensures.fault ∙ ap Some (sym c.at.ensures) in
    first_of-found identity_fault c.args.dump.now (c.loop-block.block-index + 1) (fault_value c.at.result)
    (first_of-more identity_fault c.args.dump.now c.loop-block.block-index c.block-item.result c.loop-block-test.true (sym c.block-item.is) c.loop-block.invariant ∙ here)

pub loop-block-preserved : goal.loop-block-preserved
loop-block-preserved c =
    let b : Block = record { slot = c.block.inside.slot; title = c.block.inside.title; image = c.block.inside.image.0 } in
    first_of-more identity_fault c.args.dump.now c.loop-block.block-index c.block-item.result c.loop-block-test.true (sym c.block-item.is) c.loop-block.invariant
    ∙ ap identity_fault (sym c.block.view_is) ∙ header-none b c.in-Ok.ensures.header
