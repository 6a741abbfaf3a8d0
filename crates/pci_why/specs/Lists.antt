-- A list's faults with what stands behind each.
use Rattle.std.specs.Prelude.{◌≡◌, ℕ, true, List}
use Rattle.std.specs.List.{Contains}
use Rattle.pci_spec.specs.System.{System}
use Rattle.pci_spec.specs.Mark.{AssumedRegister}
use Rattle.pci_tree.specs.Outline.{Tree}
use Rattle.pci_tree.specs.Trees.{HasTree}
use Rattle.pci_why.specs.Lines.{Appends}
use Rattle.judge_spec.specs.Given.{Given}
use Rattle.judge_spec.specs.ToldClaims.{Told}
use Rattle.judge_spec.specs.ToldFault.{Fault, IsIn}
use Rattle.judge_spec.specs.ToldNumbered.{AreListedIn}
use Rattle.judge_spec.specs.FaultsText.{AreReasoned, is_judged, IsReasonedText}

-- the faults are there
abbrev pub AreIn : Told → Given → Tree → System → List Fault → Type 0
AreIn told given t s faults =
    (fault : Fault) → Contains faults fault → IsIn told given t.roots s fault

-- in each system with the tree where they are there, and that lists each slot of a range that isn't held
abbrev pub AreReasonedTold :
    List AssumedRegister → Told → Given → Tree → List Fault → List ℕ → List ℕ → Type 0
AreReasonedTold assumed told given t faults old new =
    (s : System) → HasTree t s → AreListedIn told s → AreIn told given t s faults
    → Appends (AreReasoned assumed told given t.roots s faults) old new

-- the text of a list of faults of judging, in each such system
abbrev pub IsReasonedTextOf :
    List AssumedRegister → Told → Given → Tree → List Fault → List ℕ → Type 0
IsReasonedTextOf assumed told given t faults text =
    (s : System) → HasTree t s → AreListedIn told s → AreIn told given t s faults
    → is_judged faults ≡ true → IsReasonedText assumed told given t.roots s faults text
