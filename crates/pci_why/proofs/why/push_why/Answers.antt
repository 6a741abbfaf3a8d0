use Rattle.std.proofs.Common.{subst}
use Rattle.std.specs.String.{string_bytes}
use Rattle.std.proofs.lemmas.Result.{on_ok_weaker}
use Rattle.pci_spec.specs.Mark.{all_named}
use Rattle.judge_spec.specs.ToldFault.{Fault}
use Rattle.pci_claims.specs.Values.{code_given_value, told_value}
use Rattle.pci_faults.specs.AllLines.{any_fault_value}
use Rattle.pci_why.specs.Whys.{IsWhyTold}
use Rattle.pci_why.proofs.AllTold.{why_told}
use Rattle.pci_why.proofs.why.push_why.Goals as goal

pub returns-clause-told : goal.returns-clause-told
returns-clause-told g c = on_ok_weaker c.push_advice.result
    (λ advice. subst (λ (fault : Fault). IsWhyTold (all_named c.args.judged.now.probe.now) (told_value c.args.judged.now.told.now) (code_given_value c.args.judged.now.given.now) c.args.judged.now.outline.now fault
    (string_bytes c.args.text.now) (string_bytes c.push_advice.new.text)) c.resolved-fault.ensures.same
    (why_told (all_named c.args.judged.now.probe.now) (told_value c.args.judged.now.told.now) (code_given_value c.args.judged.now.given.now) c.args.judged.now.outline.now (any_fault_value c.resolved-fault.result)
    (string_bytes c.args.text.now) (string_bytes c.push_evidence.new.text) (string_bytes c.push_advice.new.text)
    c.in_ok-push_evidence.ensures advice))
    c.push_advice.ensures.told
