-- What is answered to two texts and a list of root buses, and where its text is put.
use Rattle.std.specs.Prelude.{◌≡◌, ◌<◌, ℕ, List, length, Some}
use Rattle.pci_tree.specs.Roots.{IsRootList}
use Rattle.pci_check.specs.Audits.{IsAudited, outcome_line}
use Rattle.pciplan_c.specs.Puts.{IsPutInto}
use Rattle.pciplan_c.specs.Refusals.{IsHeldRefusal, refusal_text}
use Rattle.pciplan_c.specs.declared.answer.Answer.{Answer}
use Rattle.pciplan_c.specs.declared.answer.Answer.TheVariants.{Verdict, Refused}

-- the line of the verdict, or the message of the refusal
abbrev pub answer_text : Answer → List ℕ
answer_text (Verdict outcome) = outcome_line outcome
answer_text (Refused refusal) = refusal_text refusal

-- the verdict on the two texts, or why there is none
abbrev pub IsVerdictText : List ℕ → List ℕ → List ℕ → Answer → Type 0
IsVerdictText roots dump probe (Verdict outcome) =
    IsRootList roots × IsAudited roots (Some dump) (Some probe) outcome
IsVerdictText roots dump probe (Refused refusal) = IsHeldRefusal roots dump probe refusal

-- an answer that is so, with its text at the front of the bytes
pub record IsAnswerTold (IsSo : Answer → Type 0) (answer : Answer) (old new : List ℕ)
    (used : ℕ) : Type 0 where
  pub answered : IsSo answer
  pub text : IsPutInto old new (answer_text answer)
  pub count : used ≡ length (answer_text answer)

-- there is an answer, whose text needs so many bytes: more than there are
pub record IsTooLong (roots dump probe bytes : List ℕ) (needed : ℕ) : Type 0 where
  pub answer : Answer
  pub answered : IsVerdictText roots dump probe answer
  pub count : needed ≡ length (answer_text answer)
  pub more : length bytes < needed
