-- The text of a list of all faults, with what is given and told: a line for each, what stands behind it where reasons are
-- asked for, and `yes` where there is none.
use Rattle.std.specs.Prelude.{◌≡◌, ℕ, ◌==◌, Bool, true, false, if◌then◌else◌, List, [], ◌∷◌, ◌++◌, codes}
use Rattle.pci_spec.specs.System.{System}
use Rattle.pci_spec.specs.Order.{phase_key, phase_of, Judging}
use Rattle.pci_spec.specs.Mark.{AssumedRegister}
use Rattle.judge_spec.specs.Given.{Given}
use Rattle.judge_spec.specs.Fault as untold
use Rattle.judge_spec.specs.ToldClaims.{Told}
use Rattle.judge_spec.specs.ToldFault.{Fault, Known, NotListed}
use Rattle.judge_spec.specs.ToldLine.{fault_line, list_text}
use Rattle.judge_spec.specs.Why.{IsWhy, all_off_lines}

-- the line that stands where there is no fault
abbrev pub yes_line : List Fault → List ℕ
yes_line [] = codes "yes" ++ 10 ∷ []
yes_line (fault ∷ rest) = []

-- what stands behind a fault: nothing behind 34
abbrev pub IsBehind :
    List AssumedRegister → Told → Given → List ℕ → System → Fault → List ℕ → Type 0
IsBehind assumed told given roots s (Known fault) lines =
    IsWhy assumed told given roots s fault lines
IsBehind assumed told given roots s (NotListed slot) lines = lines ≡ []

-- the faults' lines, each with the lines behind it
abbrev pub AreReasoned :
    List AssumedRegister → Told → Given → List ℕ → System → List Fault → List ℕ → Type 0
AreReasoned assumed told given roots s [] lines = lines ≡ []
AreReasoned assumed told given roots s (fault ∷ rest) lines =
    (behind : List ℕ) × (more : List ℕ) × IsBehind assumed told given roots s fault behind
    × AreReasoned assumed told given roots s rest more
    × (lines ≡ (fault_line fault ++ behind) ++ more)

-- whether a fault is one of judging
abbrev pub is_of_judging : untold.Fault → Bool
is_of_judging (untold.Known fault) = phase_of fault == phase_key Judging
is_of_judging (untold.Outside slot register space address) = true

-- whether judging came to look: no fault of an earlier phase is there
abbrev pub is_judged : List Fault → Bool
is_judged [] = true
is_judged (Known fault ∷ rest) = is_of_judging fault
is_judged (NotListed slot ∷ rest) = false

-- the lines of BARs and told ranges that are off end the text where judging looked
abbrev pub off_behind : Told → System → List Fault → List ℕ
off_behind told s faults = if is_judged faults then all_off_lines told s else []

-- with reasons
pub record IsReasonedText (assumed : List AssumedRegister) (told : Told) (given : Given)
    (roots : List ℕ) (s : System) (faults : List Fault) (text : List ℕ) : Type 0 where
  pub lines : List ℕ
  pub reasoned : AreReasoned assumed told given roots s faults lines
  pub is : text ≡ (yes_line faults ++ lines) ++ off_behind told s faults

-- with reasons, or without
abbrev pub IsFaultsText :
    List AssumedRegister → Told → Given → List ℕ → System → Bool → List Fault → List ℕ → Type 0
IsFaultsText assumed told given roots s true faults text =
    IsReasonedText assumed told given roots s faults text
IsFaultsText assumed told given roots s false faults text = text ≡ list_text faults
