use Rattle.std.proofs.Common.{inr, ap, map}
use Rattle.std.proofs.lemmas.Result.{IfOk-weaker}
use Rattle.pci_tree.specs.Roots.{buses_of}
use Rattle.judge_spec.specs.UnclaimedLaws.{with_taking}
use Rattle.pci_claims.specs.Values.{code_given_value, told_value}
use Rattle.pci_faults.specs.AllLines.{any_fault_value}
use Rattle.pci_faults.proofs.EveryTold.{in_all, every_of_judged}
use Rattle.pci_faults.proofs.every.all_faults.Goals as goal

pub returns-in-Refused : goal.returns-in-Refused
returns-in-Refused g c =
    let found = (rw c.in-Refused.is at c.in_ok-found.ensures) (with_taking c.new.result.items (code_given_value c.args.said.now.given)) in
    record {
      taken = λ ready. absurd (found.unready ready);
      untaken = λ unready. c.new.ensures.items;
      all = in_all _ _ _ _ _ _ found.before;
      none = (λ none. absurd (found.some (ap (map any_fault_value) none)), λ sound. absurd (found.unsound sound));
      judged = found.before;
    }

pub returns-in-Admitted : goal.returns-in-Admitted
returns-in-Admitted g c =
    let ready = rw c.in-Admitted.is at c.in_ok-found.ensures in
    let every = every_of_judged (told_value c.args.said.now.told) c.requires (code_given_value c.args.said.now.given) (buses_of c.args.said.now.roots) c.args.said.now.taking.now
    c.args.dump.now c.args.probe.now c.in-Admitted.outline ready.1 ready.0 in
    record {
      taken = IfOk-weaker c.judge.result _ _ (λ found is. (every found.judged found.taking.items found.faults.items is).taken) c.judge.ensures;
      untaken = IfOk-weaker c.judge.result _ _ (λ found is. λ unready. absurd (unready ready.0)) c.judge.ensures;
      all = IfOk-weaker c.judge.result _ _ (λ found is. inr (inr (inr (every found.judged found.taking.items found.faults.items is).every.judged))) c.judge.ensures;
      none = IfOk-weaker c.judge.result _ _ (λ found is. (every found.judged found.taking.items found.faults.items is).every.none) c.judge.ensures;
      judged = IfOk-weaker c.judge.result _ _ (λ found is. (every found.judged found.taking.items found.faults.items is).outline) c.judge.ensures;
    }
