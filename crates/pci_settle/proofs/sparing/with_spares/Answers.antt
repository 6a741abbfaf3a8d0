use Rattle.std.proofs.Common.{◌∙◌, true, false, length, sym, ap, subst}
use Rattle.pci_settle.specs.Ended.{ended_value}
use Rattle.pci_settle.specs.Endings.{IsEndedAfter}
use Rattle.pci_settle.specs.Sparing.{asked_value}
use Rattle.pci_settle.proofs.HaveSpares.{alike_told, never_spared}
use Rattle.pci_settle.proofs.sparing.with_spares.Goals as goal

pub keep_alike-requires-clause-other : goal.keep_alike-requires-clause-other
keep_alike-requires-clause-other g c = ap length c.as_slice.ensures.value ∙ c.in-Ok.ensures.staying

pub returns-then-keep_alike-clause-have : goal.returns-then-keep_alike-clause-have
returns-then-keep_alike-clause-have g c =
    let a = c.args.admitted.now in
    let q = asked_value a.roots c.args.asked.now in
    alike_told a q c.requires.fine c.args.staying.now (ended_value c.in-Ok.ended) c.in-Ok.ensures.ends true c.as_slice.result.now c.as_slice.ensures.value
    (λ k j told other known too. sym c.if-keep_alike.true ∙ c.keep_alike.ensures q k j told other known too)

pub returns-else-keep_alike-clause-have : goal.returns-else-keep_alike-clause-have
returns-else-keep_alike-clause-have g c =
    let a = c.args.admitted.now in
    let q = asked_value a.roots c.args.asked.now in
    alike_told a q c.requires.fine c.args.staying.now (ended_value c.in-Ok.ended) c.in-Ok.ensures.ends false c.as_slice.result.now c.as_slice.ensures.value
    (λ k j told other known too. sym c.if-keep_alike.false ∙ c.keep_alike.ensures q k j told other known too)

pub returns-in-Err-Fault-clause-have : goal.returns-in-Err-Fault-clause-have
returns-in-Err-Fault-clause-have g c =
    let a = c.args.admitted.now in
    let q = asked_value a.roots c.args.asked.now in
    never_spared a q c.requires.fine c.args.staying.now c.in-Err-Fault.field-0-0
    (subst (IsEndedAfter a q) c.in-Err-Fault.field-0-is c.in-Err-Fault.ensures.refusal)
