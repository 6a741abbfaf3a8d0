use Rattle.std.proofs.Common.{sym, ◌∙◌}
use Rattle.pci_first_fit.specs.Slots.{demand_value}
use Rattle.pci_kept.specs.Known.{asked_by_rules}
use Rattle.pci_settle.specs.Ended.{ended_value}
use Rattle.pci_settle.proofs.Outcomes.{ended_standing}
use Rattle.pci_settle.proofs.settle.settle_ungrown.Goals as goal

pub returns-clause-ends : goal.returns-clause-ends
returns-clause-ends g c =
    let a = c.args.admitted.now in
    ended_standing a (asked_by_rules a.roots (demand_value c.args.lists.now) c.args.rules.now) (ended_value c.in_ok-ended.ended) c.args.fault c.requires.fault
    (sym c.is_too_large.ensures ∙ c.if-is_too_large.false) c.in_ok-ended.ensures.ends
