use Rattle.std.proofs.Common.{arith}
use Rattle.std.specs.String.{string_bytes}
use Rattle.pci_spec.specs.Mark.{all_named}
use Rattle.pci_base.specs.Space.{space_of}
use Rattle.pci_claims.specs.Values.{code_given_value, told_value}
use Rattle.pci_why.proofs.FitsTold.{told_range}
use Rattle.pci_why.proofs.fits.push_fits.Goals as goal

pub returns-then-name-ge-TOLD_FROM-clause-told : goal.returns-then-name-ge-TOLD_FROM-clause-told
returns-then-name-ge-TOLD_FROM-clause-told g c =
    told_range (all_named c.args.judged.now.probe.now) (told_value c.args.judged.now.told.now) (code_given_value c.args.judged.now.given.now) c.args.judged.now.outline.now c.args.name.slot c.args.name.register (space_of c.args.name.space)
    (string_bytes c.args.text.now) (omega (arith, c.if-name-ge-TOLD_FROM.true))
