use Rattle.std.proofs.Common.{◌≡◌, ◌==◌, sym, ◌∙◌, ap, subst}
use Rattle.pci_spec.specs.Number.{byte_at}
use Rattle.pci_spec.specs.Header.{layout}
use Rattle.pci_spec.specs.Machine.{Target, writable_bits, clearing_bits, in_fields}
use Rattle.pci_spec.specs.Port.{IsTarget}
use Rattle.pci_image.specs.Layouts.{is_of_bridge}
use Rattle.pci_machine.specs.Masks.{HasBits}
use Rattle.pci_spec.specs.Machine.{writable_by, clearing_by}
use Rattle.pci_machine.proofs.MaskBits.{are_writable_bits, are_clearing_bits}
use Rattle.pci_machine.proofs.TargetOf.{IsTarget-target_of, no_write_of_header}
use Rattle.pci_machine.proofs.function.registers_of.Goals as goal

pub returns-clause-made : goal.returns-clause-made
returns-clause-made c =
    let image = c.args.image.now.0 in
    let probe = c.args.probe.now.0 in
    let bridge : is_of_bridge c.or_device-layout.result ≡ (layout image == 1) = c.or_device-layout.ensures in
    let writable : c.writable_bytes.result ≡ writable_bits image probe =
    are_writable_bits image probe c.writable_bytes.result c.writable_bytes.ensures.image.full c.writable_bytes.ensures.image.bytes
    (subst (λ b. HasBits c.writable_bytes.result (in_fields (writable_by b probe))) bridge c.writable_bytes.ensures.bits) in
    let clearing : c.clearing_bytes.result ≡ clearing_bits image =
    are_clearing_bits image c.clearing_bytes.result c.clearing_bytes.ensures.image.full c.clearing_bytes.ensures.image.bytes
    (subst (λ b. HasBits c.clearing_bytes.result (in_fields (clearing_by b))) bridge c.clearing_bytes.ensures.bits) in
    ap (λ w. let t : Target = record { slot = c.args.slot; image = image; writable = w; clearing = c.clearing_bytes.result } in t) writable
    ∙ ap (λ w. let t : Target = record { slot = c.args.slot; image = image; writable = writable_bits image probe; clearing = w } in t) clearing

pub returns-clause-lawful : goal.returns-clause-lawful
returns-clause-lawful c =
    subst IsTarget (sym (returns-clause-made c)) (IsTarget-target_of record { slot = c.args.slot; image = c.args.image.now.0; probe = c.args.probe.now.0 } c.requires)

pub returns-clause-header : goal.returns-clause-header
returns-clause-header c = ap (λ (t : Target). byte_at t.writable 0x0e) (returns-clause-made c) ∙ no_write_of_header c.args.image.now.0 c.args.probe.now.0
