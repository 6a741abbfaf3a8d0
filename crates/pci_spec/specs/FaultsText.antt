-- The text of a list of all faults: a line for each, what stands behind it where reasons are asked for, and `yes` where
-- there is none.
use Rattle.std.specs.Prelude.{◌≡◌, ℕ, ◌==◌, Bool, true, false, if◌then◌else◌, List, [], ◌∷◌, ◌++◌, codes}
use Rattle.std.specs.List.{flat_map}
use Rattle.pci_spec.specs.System.{System}
use Rattle.pci_spec.specs.Fault.{Fault}
use Rattle.pci_spec.specs.Order.{phase_key, phase_of, Judging}
use Rattle.pci_spec.specs.Line.{fault_text}
use Rattle.pci_spec.specs.Mark.{AssumedRegister}
use Rattle.pci_spec.specs.Why.{IsWhy, off_lines}

-- a fault's line is that of a verdict without its `no`
abbrev pub fault_line : Fault → List ℕ
fault_line fault = fault_text fault ++ 10 ∷ []

-- the line that stands where there is no fault
abbrev pub yes_line : List Fault → List ℕ
yes_line [] = codes "yes" ++ 10 ∷ []
yes_line (fault ∷ rest) = []

-- the faults' lines, each with the lines behind it
abbrev pub AreReasoned : List AssumedRegister → List ℕ → System → List Fault → List ℕ → Type 0
AreReasoned assumed roots s [] lines = lines ≡ []
AreReasoned assumed roots s (fault ∷ rest) lines =
    (behind : List ℕ) × (more : List ℕ) × IsWhy assumed roots s fault behind
    × AreReasoned assumed roots s rest more × (lines ≡ (fault_line fault ++ behind) ++ more)

-- whether judging came to look: no fault of an earlier phase is there
abbrev pub is_judged : List Fault → Bool
is_judged [] = true
is_judged (fault ∷ rest) = phase_of fault == phase_key Judging

-- the lines of BARs that are off end the text where judging looked; before that not all registers need to decode
abbrev pub off_behind : System → List Fault → List ℕ
off_behind s faults = if is_judged faults then off_lines s else []

-- with reasons
pub record IsReasonedText (assumed : List AssumedRegister) (roots : List ℕ) (s : System)
    (faults : List Fault) (text : List ℕ) : Type 0 where
  pub lines : List ℕ
  pub reasoned : AreReasoned assumed roots s faults lines
  pub is : text ≡ (yes_line faults ++ lines) ++ off_behind s faults

-- with reasons, or without
abbrev pub IsFaultsText :
    List AssumedRegister → List ℕ → System → Bool → List Fault → List ℕ → Type 0
IsFaultsText assumed roots s true faults text = IsReasonedText assumed roots s faults text
IsFaultsText assumed roots s false faults text =
    text ≡ yes_line faults ++ flat_map fault_line faults
