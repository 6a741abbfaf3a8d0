use Rattle.std.proofs.Common.{sym, ap, ◌∙◌}
use Rattle.std.specs.Option.{option_copied}
use Rattle.pci_picture.proofs.Told.{no_digits}
use Rattle.pci_picture.proofs.tellings.digits_of.Goals as goal

pub returns-in-None : goal.returns-in-None
returns-in-None c = no_digits c.args.regions.now (sym c.first.ensures.value ∙ ap option_copied c.in-None.is)
