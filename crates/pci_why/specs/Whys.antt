-- All lines behind a fault.
use Rattle.std.specs.Prelude.{◌≡◌, ℕ, List, []}
use Rattle.pci_spec.specs.System.{System, Space}
use Rattle.pci_spec.specs.Fault.{RegionName}
use Rattle.pci_spec.specs.Mark.{AssumedRegister}
use Rattle.pci_tree.specs.Outline.{Tree}
use Rattle.pci_tree.specs.Trees.{HasTree}
use Rattle.pci_why.specs.Lines.{Appends}
use Rattle.judge_spec.specs.Given.{Given}
use Rattle.judge_spec.specs.ToldClaims.{Told}
use Rattle.judge_spec.specs.ToldFault.{Fault, Known, NotListed, IsIn}
use Rattle.judge_spec.specs.ToldNumbered.{AreListedIn}
use Rattle.pci_why.specs.Fits.{IsFitTold}
use Rattle.judge_spec.specs.Why.{IsEvidence, IsAdvice}
use Rattle.judge_spec.specs.FaultsText.{IsBehind}

-- 34 has no lines
abbrev pub IsEvidenceOf : Told → Given → List ℕ → System → Fault → List ℕ → Type 0
IsEvidenceOf told given roots s (Known fault) lines = IsEvidence told given roots s fault lines
IsEvidenceOf told given roots s (NotListed slot) lines = lines ≡ []

abbrev pub IsAdviceOf :
    List AssumedRegister → Told → Given → List ℕ → System → Fault → List ℕ → Type 0
IsAdviceOf assumed told given roots s (Known fault) lines =
    IsAdvice assumed told given roots s fault lines
IsAdviceOf assumed told given roots s (NotListed slot) lines = lines ≡ []

-- in each system with the tree where the fault is there, and that lists each slot of a range that isn't held, with what
-- ranges it is
abbrev pub IsEvidenceTold : Told → Given → Tree → Fault → List ℕ → List ℕ → Type 0
IsEvidenceTold told given t fault old new =
    (s : System) → HasTree t s → AreListedIn told s → IsIn told given t.roots s fault
    → Appends (IsEvidenceOf told given t.roots s fault) old new

-- where that is told, where the region that could be moved would fit
abbrev pub IsAdviceTold :
    List AssumedRegister → Told → Given → Tree → Fault → List ℕ → List ℕ → Type 0
IsAdviceTold assumed told given t fault old new =
    (s : System) (evidence : List ℕ) → HasTree t s
    → IsEvidenceOf told given t.roots s fault evidence
    → Appends (IsAdviceOf assumed told given t.roots s fault) old new

-- all that is to be told is where the region that a slot and a register name would fit
abbrev pub IsAdvisedBy : Given → Fault → RegionName → Space → Type 0
IsAdvisedBy given fault region space =
    (assumed : List AssumedRegister) (told : Told) (t : Tree) (old new : List ℕ)
    → IsFitTold assumed told given t region space old new
    → IsAdviceTold assumed told given t fault old new

-- nothing is
abbrev pub NoneAdvised : Given → Fault → Type 0
NoneAdvised given fault =
    (assumed : List AssumedRegister) (told : Told) (t : Tree) (old : List ℕ)
    → IsAdviceTold assumed told given t fault old old

-- both
abbrev pub IsWhyTold :
    List AssumedRegister → Told → Given → Tree → Fault → List ℕ → List ℕ → Type 0
IsWhyTold assumed told given t fault old new =
    (s : System) → HasTree t s → AreListedIn told s → IsIn told given t.roots s fault
    → Appends (IsBehind assumed told given t.roots s fault) old new
