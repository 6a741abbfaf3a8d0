-- Laws of the list of all faults: with nothing given it is the plain one, and with nothing told, either, so is its text.
use Rattle.std.specs.Prelude.{◌≡◌, ℕ, ◌↔◌, Bool, List, ◌∷◌, map}
use Rattle.pci_spec.specs.Slot.{Slot}
use Rattle.pci_spec.specs.Text.{Block, IsDump}
use Rattle.pci_spec.specs.Fault as plain
use Rattle.pci_spec.specs.FaultLines as plain_lines
use Rattle.pci_spec.specs.Order.{IsFirstThere}
use Rattle.pci_spec.specs.Mark.{AssumedRegister}
use Rattle.judge_spec.specs.Given.{nothing_given}
use Rattle.judge_spec.specs.Fault.{Fault, Known}
use Rattle.judge_spec.specs.FaultLines.{AreAllFaults}
use Rattle.judge_spec.specs.ToldClaims.{nothing_told}
use Rattle.judge_spec.specs.DeterminedLaws.{IsTextOfAll, IsPlainTextOfAll}

-- the faults are those of the list without what is given, in its order
pub record ArePlainFaults (roots : List ℕ) (dump probe : List Block)
    (faults : List Fault) : Type 0 where
  pub plain_faults : List plain.Fault
  pub all : plain_lines.AreAllFaults roots dump probe plain_faults
  pub are : faults ≡ map Known plain_faults

-- With nothing given the list of all faults is the one without it.
abbrev pub SameList : Type 0
SameList =
    (roots : List ℕ) (dump probe : List Block) (faults : List Fault) → IsDump dump → IsDump probe
    → AreAllFaults nothing_given roots dump probe faults ↔ ArePlainFaults roots dump probe faults

-- So is its text, with reasons or without, where nothing is told, either.
abbrev pub SameTextOfAll : Type 0
SameTextOfAll =
    (assumed : List AssumedRegister) (asleep : List Slot) (roots : List ℕ)
    (dump probe : List Block) (why : Bool) (text : List ℕ) → IsDump dump → IsDump probe
    → IsTextOfAll assumed (nothing_told asleep) nothing_given roots dump probe why text
    ↔ IsPlainTextOfAll assumed roots dump probe why text

-- The first fault of that list is the one that is looked for first, which a verdict names.
abbrev pub FirstOfListIsFirst : Type 0
FirstOfListIsFirst =
    (roots : List ℕ) (dump probe : List Block) (fault : plain.Fault) (rest : List plain.Fault)
    → IsDump dump → IsDump probe
    → plain_lines.AreAllFaults roots dump probe (fault ∷ rest)
    → IsFirstThere roots dump probe fault
