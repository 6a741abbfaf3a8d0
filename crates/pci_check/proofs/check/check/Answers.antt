use Rattle.pci_check.proofs.Verdicts.{fault_is_first, free_is_sound}
use Rattle.pci_check.proofs.check.check.Goals as goal

pub returns-in-Some : goal.returns-in-Some
returns-in-Some g c =
    fault_is_first c.args.admitted.now c.outline.result.now c.outline.ensures.roots c.outline.ensures.records c.outline.ensures.admitted c.in_ok-fault.field-0 c.in-Some.fault c.in-Some.is
    c.in_ok-fault.ensures.judgement

pub of-requires : goal.of-requires
of-requires g c =
    free_is_sound c.args.admitted.now c.outline.result.now c.outline.ensures.roots c.outline.ensures.records c.outline.ensures.admitted c.in_ok-fault.field-0 c.in-None.is
    c.in_ok-fault.ensures.judgement
