use Rattle.std.proofs.Common.{IsTrue, subst}
use Rattle.std.specs.Prelude.{◌↔◌}
use Rattle.pci_spec.specs.System.{Function}
use Rattle.judge_spec.specs.Taken.{IsAsleep}
use Rattle.pci_model.proofs.asleep.is_taken_asleep.Goals as goal

pub returns : goal.returns
returns c =
    subst (λ (x : Function). IsTrue c.is_asleep.result ↔ (IsTrue c.args.words.power × IsAsleep x)) (c.first_aside.ensures c.args.slot)
    (λ yes. (c.requires, c.is_asleep.ensures.0 yes), λ both. c.is_asleep.ensures.1 both.1)
