use Rattle.std.proofs.Common.{List, refl, subst}
use Rattle.judge_spec.specs.Given.{TakingBridge}
use Rattle.judge_spec.specs.UnclaimedLaws.{with_taking}
use Rattle.pci_claims.specs.Values.{code_given_value, told_value}
use Rattle.pci_faults.specs.AllLines.{AreAllLines}
use Rattle.pci_faults.proofs.every.judge.Goals as goal

pub returns : goal.returns
returns g c = record {
  tree = refl;
  taken = c.in_ok-taking.ensures;
  all = subst (λ (bs : List TakingBridge). AreAllLines (told_value c.args.said.now.told) (with_taking bs (code_given_value c.args.said.now.given)) c.args.outline c.in_ok-faults.faults.items)
      c.deref.ensures.value c.in_ok-faults.ensures;
}
