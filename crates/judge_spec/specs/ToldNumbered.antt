-- The faults of judging of one number that a list of all names, with what is given and told.
use Rattle.std.specs.Prelude.{◌≡◌, ℕ, ◌++◌, IsTrue, List}
use Rattle.std.specs.List.{AllPairs, Contains}
use Rattle.pci_spec.specs.Slot.{Slot}
use Rattle.pci_spec.specs.System.{System}
use Rattle.pci_spec.specs.Order.{precedes}
use Rattle.judge_spec.specs.Given.{Given}
use Rattle.judge_spec.specs.Fault.{Fault, fault_number}
use Rattle.judge_spec.specs.AllFaults.{judging_key}
use Rattle.judge_spec.specs.ToldClaims.{Told}
use Rattle.judge_spec.specs.ToldFault.{IsNotListed}
use Rattle.judge_spec.specs.ToldAllFaults.{IsNamed, AreAllOfJudging}

-- every range that isn't held is of a slot that the system lists
abbrev pub AreListedIn : Told → System → Type 0
AreListedIn told s = (slot : Slot) → IsNotListed told s slot → ⊥

-- just those faults, in the order in which judging looks for them, and so none twice
pub record AreAllNumbered (number : ℕ) (told : Told) (given : Given) (roots : List ℕ) (s : System)
    (faults : List Fault) : Type 0 where
  pub each : (fault : Fault) → Contains faults fault
      → IsNamed told given roots s fault × (fault_number fault ≡ number)
  pub complete : (fault : Fault) → IsNamed told given roots s fault → fault_number fault ≡ number
      → Contains faults fault
  pub rising : AllPairs (λ fault other. IsTrue (precedes (judging_key fault) (judging_key other)))
      faults

-- The lists of 63, 60, 61 and 62, one behind the other, are a list of all.
abbrev pub AllOfFour : Type 0
AllOfFour =
    (told : Told) (given : Given) (roots : List ℕ) (s : System) (outside unreached clashes splits : List Fault)
    → AreAllNumbered 63 told given roots s outside → AreAllNumbered 60 told given roots s unreached
    → AreAllNumbered 61 told given roots s clashes → AreAllNumbered 62 told given roots s splits
    → AreAllOfJudging told given roots s (outside ++ unreached ++ clashes ++ splits)
