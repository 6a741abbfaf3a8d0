-- The answer that is a map, or the line of a fault.
use Rattle.std.proofs.Common.{◌≡◌, ℕ, List, inl, inr, subst, arith}
use Rattle.pci_spec.specs.Slot.{Slot}
use Rattle.pci_spec.specs.Text.{Block}
use Rattle.pci_spec.specs.System.{System, system_of}
use Rattle.pci_spec.specs.Fault.{Orphan}
use Rattle.pci_tree.specs.Admission.{IsOutlineFor}
use Rattle.pci_tree.specs.Outline.{Tree}
use Rattle.pci_tree.specs.Trees.{HasTree}
use Rattle.judge_spec.specs.Given.{Given, TakingBridge}
use Rattle.judge_spec.specs.ToldClaims.{Told}
use Rattle.judge_spec.specs.ToldFault.{Fault}
use Rattle.judge_spec.specs.ToldNumbered.{AreListedIn}
use Rattle.judge_spec.specs.Unclaimed.{AreTaking}
use Rattle.judge_spec.specs.UnclaimedLaws.{with_taking}
use Rattle.judge_spec.specs.MapText.{IsMapText}
use Rattle.pci_faults.specs.Every.{AreFound, AreReadyForJudging}
use Rattle.pciplan_tasks.specs.Answers.{Answer, done}
use Rattle.pciplan_tasks.specs.MapAnswers.{IsFirstLine, IsMapped}

pub mapped : (told : Told) (given : Given) (roots : List ℕ) (slots : List Slot) (dump probe : List Block) (o : Tree) (bridges : List TakingBridge) (text : List ℕ) (answer : Answer) → AreReadyForJudging told roots dump probe
    → IsOutlineFor record { roots = roots; dump = dump; probe = probe } o → ((s : System) → HasTree o s → AreTaking told given s slots bridges)
    → ((s : System) → HasTree o s → AreListedIn told s → IsMapText told (with_taking bridges given) o.roots s text)
    → answer ≡ done text → IsMapped told given roots slots dump probe answer
mapped told given roots slots dump probe o bridges text answer ready outline taking is line =
    let s = system_of dump probe in
    let tree : HasTree o s = record { system = outline.admitted.system; records = outline.records } in
    inl record {
      admitted = outline.admitted;
      listed = ready.listed;
      led_to = λ slot held. ready.none_earlier (Orphan slot) (omega arith) (inr held);
      bridges = bridges;
      taking = taking s tree;
      text = text;
      is = subst (λ r. IsMapText told (with_taking bridges given) r s text) outline.roots (is s tree ready.listed);
      line = line;
    }

pub not_mapped : (told : Told) (given : Given) (roots : List ℕ) (slots : List Slot) (dump probe : List Block) (faults : List Fault) (answer : Answer) → AreFound told given roots dump probe faults
    → IsFirstLine faults answer → IsMapped told given roots slots dump probe answer
not_mapped told given roots slots dump probe faults answer found line = inr record { faults = faults; before = found.before; line = line }
