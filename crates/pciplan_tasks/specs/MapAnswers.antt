-- What the program answers where a map of two texts is asked for.
use Rattle.std.specs.Prelude.{◌≡◌, ◌⊎◌, ℕ, List, [], ◌∷◌}
use Rattle.pci_spec.specs.Slot.{Slot}
use Rattle.pci_spec.specs.Text.{Block}
use Rattle.pci_spec.specs.System.{system_of}
use Rattle.judge_spec.specs.Given.{Given, TakingBridge}
use Rattle.judge_spec.specs.ToldClaims.{Told}
use Rattle.judge_spec.specs.ToldFault.{Fault, IsHeldOrphan}
use Rattle.judge_spec.specs.ToldFaultLines.{AreListed}
use Rattle.judge_spec.specs.ToldLine.{fault_text}
use Rattle.judge_spec.specs.Unclaimed.{AreTaking}
use Rattle.judge_spec.specs.UnclaimedLaws.{with_taking}
use Rattle.judge_spec.specs.MapText.{IsMapText}
use Rattle.pci_faults.specs.Every.{AreBefore}
use Rattle.pci_tree.specs.Admission.{IsAdmitted}
use Rattle.pciplan_tasks.specs.Answers.{Answer, done, fault_answer_line, refused}
use Rattle.pciplan_tasks.specs.FaultsAnswers.{given_of, taking_of}
use Rattle.pci_tree.specs.Roots.{buses_of}
use Rattle.pciplan_tasks.specs.ToldAnswers.{IsAnswerWithTold}
use Rattle.pciplan_tasks.specs.declared.task.Beside.{Beside}

-- The map of the two, which are admitted with what is told: no 34 is there, and no 58 of a held range. Bridges at some slots
-- take what no region of their bus claims.
pub record IsMapAnswer (told : Told) (given : Given) (roots : List ℕ) (slots : List Slot)
    (dump probe : List Block) (answer : Answer) : Type 0 where
  pub admitted : IsAdmitted record { roots = roots; dump = dump; probe = probe }
  pub listed : AreListed told dump probe
  pub led_to : (slot : Slot) → IsHeldOrphan told roots (system_of dump probe) slot → ⊥
  pub bridges : List TakingBridge
  pub taking : AreTaking told given (system_of dump probe) slots bridges
  pub text : List ℕ
  pub is : IsMapText told (with_taking bridges given) roots (system_of dump probe) text
  pub line : answer ≡ done text

-- the line of the first of some faults
abbrev pub IsFirstLine : List Fault → Answer → Type 0
IsFirstLine [] answer = ⊥
IsFirstLine (fault ∷ rest) answer = answer ≡ refused (fault_answer_line (fault_text fault))

-- that of all faults that are looked for before judging
pub record IsNoMap (told : Told) (given : Given) (roots : List ℕ) (dump probe : List Block)
    (answer : Answer) : Type 0 where
  pub faults : List Fault
  pub before : AreBefore told given roots dump probe faults
  pub line : IsFirstLine faults answer

-- `map`: the map, or the line of that fault
abbrev pub IsMapped :
    Told → Given → List ℕ → List Slot → List Block → List Block → Answer → Type 0
IsMapped told given roots slots dump probe answer =
    IsMapAnswer told given roots slots dump probe answer
    ⊎ IsNoMap told given roots dump probe answer

-- of the two as words take them, beside what the dump as it is gives and what is told
abbrev pub IsMapAnswerBy : Beside → List Block → List Block → Answer → Type 0
IsMapAnswerBy beside dump probe answer =
    IsAnswerWithTold beside
    (λ told. IsMapped told (given_of beside.host beside.words dump) (buses_of beside.roots)
    (taking_of beside.words (system_of dump dump)))
    dump probe answer
