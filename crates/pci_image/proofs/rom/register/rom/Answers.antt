use Rattle.std.proofs.Common.{◌≡◌, ◌∙◌, ap, sym, refl}
use Rattle.pci_spec.specs.Number.{number_at}
use Rattle.pci_spec.specs.Header.{rom_register, layout}
use Rattle.pci_spec.specs.Rom.{rom_at}
use Rattle.pci_spec.proofs.Ranges.{absent_rom}
use Rattle.pci_base.specs.Ranges.{decoded_range_of}
use Rattle.pci_image.proofs.Found.{layout-of_header}
use Rattle.pci_image.proofs.Registers.{bit-test}
use Rattle.pci_image.proofs.Roms.{rom-absent, none-decoded, rom-kept, rom-decoded, rom-compared}
use Rattle.pci_image.proofs.rom.register.rom.Goals as goal

pub returns-then-mask-eq0-clause-compared : goal.returns-then-mask-eq0-clause-compared
returns-then-mask-eq0-clause-compared c a =
    let register : c.rom_register-reg.result ≡ rom_register (layout c.args.image.now.0) =
    c.rom_register-reg.ensures ∙ ap rom_register (sym (layout-of_header c.args.image.now c.in_ok-of.field-0 c.in_ok-of.ensures.header)) in
    let value : c.from-value.result ≡ rom_at c.args.image.now.0 c.args.image.now.0 = c.from-value.ensures ∙ c.u32.ensures ∙ ap (λ r. number_at c.args.image.now.0 r 4) register in
    let mask : c.from-mask.result ≡ rom_at c.args.image.now.0 c.args.probe.now.0 = c.from-mask.ensures ∙ c.u32-2.ensures ∙ ap (λ r. number_at c.args.probe.now.0 r 4) register in
    absent_rom c.args.image.now.0 c.args.probe.now.0 a
    (rom-absent c.args.image.now.0 c.args.probe.now.0 c.from-value.result c.from-mask.result value mask c.if-value-eq0.true c.if-mask-eq0.true)

pub returns-then-mask-eq0-clause-decoded : goal.returns-then-mask-eq0-clause-decoded
returns-then-mask-eq0-clause-decoded c =
    let register : c.rom_register-reg.result ≡ rom_register (layout c.args.image.now.0) =
    c.rom_register-reg.ensures ∙ ap rom_register (sym (layout-of_header c.args.image.now c.in_ok-of.field-0 c.in_ok-of.ensures.header)) in
    let value : c.from-value.result ≡ rom_at c.args.image.now.0 c.args.image.now.0 = c.from-value.ensures ∙ c.u32.ensures ∙ ap (λ r. number_at c.args.image.now.0 r 4) register in
    let mask : c.from-mask.result ≡ rom_at c.args.image.now.0 c.args.probe.now.0 = c.from-mask.ensures ∙ c.u32-2.ensures ∙ ap (λ r. number_at c.args.probe.now.0 r 4) register in
    none-decoded c.args.image.now.0 c.args.probe.now.0
    (rom-absent c.args.image.now.0 c.args.probe.now.0 c.from-value.result c.from-mask.result value mask c.if-value-eq0.true c.if-mask-eq0.true)

pub returns-clause-lawful : goal.returns-clause-lawful
returns-clause-lawful c =
    let register : c.rom_register-reg.result ≡ rom_register (layout c.args.image.now.0) =
    c.rom_register-reg.ensures ∙ ap rom_register (sym (layout-of_header c.args.image.now c.in_ok-of.field-0 c.in_ok-of.ensures.header)) in
    let value : c.from-value.result ≡ rom_at c.args.image.now.0 c.args.image.now.0 = c.from-value.ensures ∙ c.u32.ensures ∙ ap (λ r. number_at c.args.image.now.0 r 4) register in
    let mask : c.from-mask.result ≡ rom_at c.args.image.now.0 c.args.probe.now.0 = c.from-mask.ensures ∙ c.u32-2.ensures ∙ ap (λ r. number_at c.args.probe.now.0 r 4) register in
    let header = c.in_ok-of.ensures.lawful.0 refl in (
      (λ _. record {
        vendor = header.vendor;
        header = header.layout;
        rom = rom-kept c.args.image.now.0 c.args.probe.now.0 c.from-value.result c.from-mask.result value mask c.in-Some.ensures.0;
      }),
      (λ _. refl),
    )

pub returns-clause-decoded : goal.returns-clause-decoded
returns-clause-decoded c =
    let register : c.rom_register-reg.result ≡ rom_register (layout c.args.image.now.0) =
    c.rom_register-reg.ensures ∙ ap rom_register (sym (layout-of_header c.args.image.now c.in_ok-of.field-0 c.in_ok-of.ensures.header)) in
    let value : c.from-value.result ≡ rom_at c.args.image.now.0 c.args.image.now.0 = c.from-value.ensures ∙ c.u32.ensures ∙ ap (λ r. number_at c.args.image.now.0 r 4) register in
    let mask : c.from-mask.result ≡ rom_at c.args.image.now.0 c.args.probe.now.0 = c.from-mask.ensures ∙ c.u32-2.ensures ∙ ap (λ r. number_at c.args.probe.now.0 r 4) register in
    rom-decoded c.args.image.now.0 c.args.probe.now.0 c.from-value.result c.from-mask.result value mask c.in-Some.ensures.0
    c.rom_register-reg.result _ (decoded_range_of c.in-Some.field-0) register (bit-test c.from-value.result 0) c.in-Some.ensures.1

pub returns-clause-compared : goal.returns-clause-compared
returns-clause-compared c =
    let register : c.rom_register-reg.result ≡ rom_register (layout c.args.image.now.0) =
    c.rom_register-reg.ensures ∙ ap rom_register (sym (layout-of_header c.args.image.now c.in_ok-of.field-0 c.in_ok-of.ensures.header)) in
    let value : c.from-value.result ≡ rom_at c.args.image.now.0 c.args.image.now.0 = c.from-value.ensures ∙ c.u32.ensures ∙ ap (λ r. number_at c.args.image.now.0 r 4) register in
    let mask : c.from-mask.result ≡ rom_at c.args.image.now.0 c.args.probe.now.0 = c.from-mask.ensures ∙ c.u32-2.ensures ∙ ap (λ r. number_at c.args.probe.now.0 r 4) register in
    rom-compared c.args.image.now.0 c.args.probe.now.0 c.from-value.result c.from-mask.result value mask c.in-Some.ensures.0
    (decoded_range_of c.in-Some.field-0) c.in-Some.ensures.1
