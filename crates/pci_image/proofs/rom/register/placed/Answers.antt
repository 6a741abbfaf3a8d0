use Rattle.std.proofs.Common.{◌^◌, sym, ap, ◌∙◌}
use Rattle.std.proofs.lemmas.Bool.{and_from, and_right}
use Rattle.pci_spec.specs.Decoded.{aligned_range}
use Rattle.pci_image.proofs.Roms.{rom-sized, within-code}
use Rattle.pci_image.proofs.rom.register.placed.Goals as goal

pub returns-then-fits_within : goal.returns-then-fits_within
returns-then-fits_within c =
    let at = rom-sized c.args.value c.args.mask c.in_ok-log2.log2 c.in_ok-log2.ensures in
    let within = sym (within-code c.args.value c.args.mask c.ranges.value.fits) ∙ sym c.if-fits_within.ensures in
    (and_from _ _ at.0 within, c.aligned.ensures ∙ ap (λ k. aligned_range c.args.value (2 ^ k)) (sym at.1))

pub returns-else-fits_within : goal.returns-else-fits_within
returns-else-fits_within c =
    and_right _ _ (sym (within-code c.args.value c.args.mask c.ranges.value.fits) ∙ sym c.if-fits_within.ensures)
