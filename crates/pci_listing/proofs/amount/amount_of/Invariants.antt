use Rattle.std.proofs.Common.{◌≡◌, drop, codes}
use Rattle.pci_spec.specs.Why.{scaled_text, amount_text}
use Rattle.pci_listing.specs.Amounts.{unit_text}
use Rattle.pci_listing.proofs.amount.amount_of.Given as goal

abbrev pub invariant-loop-unit : goal.invariant-loop-unit
invariant-loop-unit l = scaled_text (drop l.unit (codes "KMGTPE")) (unit_text l.unit) l.scaled ≡ amount_text l.fn.number
