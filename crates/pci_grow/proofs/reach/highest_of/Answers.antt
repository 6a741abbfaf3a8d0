use Rattle.std.proofs.Common.{◌∙◌}
use Rattle.pci_base.specs.WindowKinds.{kind_value}
use Rattle.pci_first_fit.proofs.Highest.{highest_is}
use Rattle.pci_grow.proofs.reach.highest_of.Goals as goal

pub returns-in-Some : goal.returns-in-Some
returns-in-Some c = λ s f is bridge.
    c.highest_in.ensures ∙ highest_is c.args.function.now f c.in-Some.bridge is.value c.in-Some.is (kind_value c.args.class)
