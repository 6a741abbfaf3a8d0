use Rattle.std.proofs.Common.{sym, ◌∙◌, ap}
use Rattle.pci_spec.specs.Slot.{Slot}
use Rattle.pci_faults.proofs.Odds.{of_two_buses}
use Rattle.pci_faults.proofs.pairs.least_of_buses.Goals as goal

pub returns : goal.returns
returns g c =
    of_two_buses c.args.first.now c.args.second.now
    (λ same. c.if-bus.false (c.bus.ensures ∙ ap (λ (x : Slot). x.bus) c.slot.ensures ∙ same ∙ sym (c.bus-2.ensures ∙ ap (λ (x : Slot). x.bus) c.slot-2.ensures)))
    c.least_at_odds.result c.least_at_odds.ensures
