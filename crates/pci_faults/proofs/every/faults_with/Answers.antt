use Rattle.std.proofs.Common.{◌≡◌, ◌∙◌, List, ap, map, subst}
use Rattle.std.proofs.lemmas.Result.{IfOk-weaker}
use Rattle.judge_spec.specs.Given.{TakingBridge}
use Rattle.judge_spec.specs.UnclaimedLaws.{with_taking}
use Rattle.pci_claims.specs.declared.given.TakingBridge as claims
use Rattle.pci_claims.specs.Values.{code_given_value, told_value, taking_value}
use Rattle.pci_faults.specs.AllLines.{AreAllLines}
use Rattle.pci_faults.proofs.every.faults_with.Goals as goal

pub returns : goal.returns
returns g c =
    let bridges : map taking_value c.deref.result.now ≡ c.args.taking.now = ap (λ (l : List claims.TakingBridge). map taking_value l) c.deref.ensures.value ∙ c.in_ok-lent.ensures in
    IfOk-weaker c.all_of_judging.result _ _
    (λ v all. subst (λ (bs : List TakingBridge). AreAllLines (told_value c.args.said.now.told) (with_taking bs (code_given_value c.args.said.now.given)) c.args.outline.now v.items) bridges all) c.all_of_judging.ensures
