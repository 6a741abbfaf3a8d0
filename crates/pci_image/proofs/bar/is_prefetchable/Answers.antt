use Rattle.std.proofs.Common.{sym, ◌∙◌, ap}
use Rattle.pci_spec.specs.Bar.{is_io}
use Rattle.pci_image.proofs.Registers.{prefetchable-read}
use Rattle.pci_image.proofs.bar.is_prefetchable.Goals as goal

pub returns-then-not-is_io : goal.returns-then-not-is_io
returns-then-not-is_io c = prefetchable-read c.args.mask (ap is_io (sym c.from.ensures) ∙ sym c.is_io.ensures ∙ c.if-not-is_io.true)
