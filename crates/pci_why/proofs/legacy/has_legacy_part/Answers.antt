use Rattle.std.proofs.Common.{sym, ◌∙◌}
use Rattle.pci_spec.specs.Slot.{same_slot}
use Rattle.pci_claims.specs.Values.{legacy_value}
use Rattle.pci_why.proofs.LegacyWords.{one_found}
use Rattle.pci_why.proofs.legacy.has_legacy_part.Goals as goal

pub returns-then-is_at : goal.returns-then-is_at
returns-then-is_at c = sym (one_found legacy_value (λ e. same_slot e.slot c.args.slot) c.args.given.now.legacy.now c.loop-entry.entry-index c.entry-item.result c.loop-entry-test.true c.entry-item.is
    (sym c.is_at.ensures ∙ c.if-is_at.true))
