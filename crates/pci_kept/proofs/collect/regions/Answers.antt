use Rattle.std.proofs.Common.{sym, subst}
use Rattle.pci_kept.specs.Flags.{AreFlags}
use Rattle.pci_kept.proofs.collect.regions.Goals as goal

pub returns : goal.returns
returns g c = c.in_ok-regions.ensures c.args.rules.now.fixed.now (subst (AreFlags c.args.rules.now.fixed.now) (sym c.as_slice.ensures.value) c.in_ok-flags.ensures)
