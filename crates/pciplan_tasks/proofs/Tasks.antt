-- The texts of a task that were read.
use Rattle.std.proofs.Common.{◌≡◌, ℕ, List, Option, Result, Ok, Err, sym, subst, Some}
use Rattle.std.specs.Result.{IfOk, MatchResult}
use Rattle.pci_spec.specs.Text.{Block, IsTextOf}
use Rattle.pci_check.specs.Audits.{IsDumpOf}
use Rattle.pciplan_tasks.specs.Answers.{Answer}
use Rattle.pciplan_tasks.specs.Tasks.{IsAnswerTo, IsTextsAnswer, IsOfWholePair, IsPairAnswer}
use Rattle.pciplan_tasks.specs.declared.task.Task.{Task}
use Rattle.pciplan_tasks.specs.declared.task.Task.TheVariants as task

-- what holds of a value that was read holds where the fault was turned into another
pub read_ok : {T E D : Type 0} (P : T → Type 0) (read : Result T E) (made : Result T D) → MatchResult read (λ x. made ≡ Ok x) (λ e. IfOk made (λ _. ⊥))
    → IfOk read P → IfOk made P
read_ok P (Ok x) made same holds = subst (λ r. IfOk r P) (sym same) holds
read_ok P (Err e) (Ok x) same holds = absurd same
read_ok P (Err e) (Err d) same holds = tt

pub dump_read : {E D : Type 0} (left : Option (List ℕ)) (read : Result (List Block) E) (made : Result (List Block) D)
    → MatchResult read (λ x. made ≡ Ok x) (λ e. IfOk made (λ _. ⊥))
    → IfOk read (λ blocks. (bytes : List ℕ) → left ≡ Some bytes → IsTextOf bytes blocks)
    → IfOk read (λ blocks. (bytes : List ℕ) → left ≡ Some bytes → (others : List Block) → IsTextOf bytes others → others ≡ blocks)
    → IfOk made (IsDumpOf left)
dump_read left (Ok x) made same text only = subst (λ r. IfOk r (IsDumpOf left)) (sym same) record { text = text; only = only }
dump_read left (Err e) (Ok x) same text only = absurd same
dump_read left (Err e) (Err d) same text only = tt

-- a task that takes a whole pair answers it
pub pair_answered : (t : Task) → IsOfWholePair t → (dump_left second_left : Option (List ℕ)) (answer : Answer)
    → IsAnswerTo IsDumpOf (IsPairAnswer t) dump_left second_left answer → IsTextsAnswer t dump_left second_left answer
pair_answered (task.Check roots) whole dump_left second_left answer is = absurd whole
pair_answered (task.Probe assuming) whole dump_left second_left answer is = absurd whole
pair_answered _ whole dump_left second_left answer is = is
