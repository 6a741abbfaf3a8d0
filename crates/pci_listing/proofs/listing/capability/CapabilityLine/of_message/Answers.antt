use Rattle.std.proofs.Common.{sym, ◌∙◌}
use Rattle.pci_listing.proofs.Messages.{message_line-wide, message_line-narrow}
use Rattle.pci_listing.proofs.listing.capability.CapabilityLine.of_message.Goals as goal

pub returns-then-flag-eq1 : goal.returns-then-flag-eq1
returns-then-flag-eq1 c =
    message_line-wide c.args.image.now.0 c.args.place c.u16-control.ensures (sym c.flag.ensures ∙ c.if-flag-eq1.true)
    (c.from-lower.ensures ∙ c.u32.ensures) (c.from-upper.ensures ∙ c.u32-then-flag-eq1.ensures) c.u16.ensures

pub returns-else-flag-eq1 : goal.returns-else-flag-eq1
returns-else-flag-eq1 c =
    message_line-narrow c.args.image.now.0 c.args.place c.u16-control.ensures (λ e. c.if-flag-eq1.false (c.flag.ensures ∙ e))
    (c.from-lower.ensures ∙ c.u32.ensures) c.u16-else-flag-eq1.ensures
