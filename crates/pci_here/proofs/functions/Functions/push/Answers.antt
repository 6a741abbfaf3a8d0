use Rattle.pci_spec.specs.Stops.{last_slot}
use Rattle.pci_here.proofs.Crowded.{above_if}
use Rattle.pci_here.proofs.functions.Functions.push.Goals as goal

pub returns-clause-above : goal.returns-clause-above
returns-clause-above c =
    above_if (last_slot c.args.self.now.dump) c.args.function.block.slot (λ no. let is = c.in_ok-push.ensures.not_above.1 no in absurd (cc is))
