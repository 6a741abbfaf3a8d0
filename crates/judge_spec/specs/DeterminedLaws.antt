-- Laws: a relation that defines a text has at most one.
use Rattle.std.specs.Prelude.{◌≡◌, ℕ, Bool, List}
use Rattle.pci_spec.specs.Text.{Block, IsDump}
use Rattle.pci_spec.specs.System.{System, IsSystem, system_of}
use Rattle.pci_spec.specs.Bus.{IsNested}
use Rattle.pci_spec.specs.Fault as plain
use Rattle.pci_spec.specs.FaultLines as plain_lines
use Rattle.pci_spec.specs.Mark.{AssumedRegister}
use Rattle.pci_spec.specs.Why as why
use Rattle.pci_spec.specs.FaultsText as plain_text
use Rattle.judge_spec.specs.Given.{Given}
use Rattle.judge_spec.specs.Fault.{Fault, Known}
use Rattle.judge_spec.specs.FaultLines.{AreAllFaults}
use Rattle.judge_spec.specs.ToldClaims.{Told}
use Rattle.judge_spec.specs.ToldFault as told_fault
use Rattle.judge_spec.specs.ToldFaultLines as told_lines
use Rattle.judge_spec.specs.Why.{IsWhy}
use Rattle.judge_spec.specs.FaultsText.{IsFaultsText}

-- ---- the lines behind a fault

-- Two texts behind one fault are equal.
abbrev pub WhyIsDetermined : Type 0
WhyIsDetermined =
    (assumed : List AssumedRegister) (told : Told) (given : Given) (roots : List ℕ) (s : System)
    (fault : Fault) (lines others : List ℕ) → IsSystem s → IsNested roots s
    → IsWhy assumed told given roots s fault lines → IsWhy assumed told given roots s fault others
    → lines ≡ others

-- Behind a fault other than 63 they are equal whatever bus numbers the bridges have.
abbrev pub KnownWhyIsDetermined : Type 0
KnownWhyIsDetermined =
    (assumed : List AssumedRegister) (told : Told) (given : Given) (roots : List ℕ) (s : System)
    (fault : plain.Fault) (lines others : List ℕ) → IsSystem s
    → IsWhy assumed told given roots s (Known fault) lines
    → IsWhy assumed told given roots s (Known fault) others → lines ≡ others

-- The same without what is given and told.
abbrev pub PlainWhyIsDetermined : Type 0
PlainWhyIsDetermined =
    (assumed : List AssumedRegister) (roots : List ℕ) (s : System) (fault : plain.Fault)
    (lines others : List ℕ) → IsSystem s → why.IsWhy assumed roots s fault lines
    → why.IsWhy assumed roots s fault others → lines ≡ others

-- ---- the list of all faults, and its text

-- Two lists of all faults of a dump and its probe are equal.
abbrev pub ListIsDetermined : Type 0
ListIsDetermined =
    (given : Given) (roots : List ℕ) (dump probe : List Block) (faults others : List Fault)
    → AreAllFaults given roots dump probe faults → AreAllFaults given roots dump probe others
    → faults ≡ others

-- The same without what is given.
abbrev pub PlainListIsDetermined : Type 0
PlainListIsDetermined =
    (roots : List ℕ) (dump probe : List Block) (faults others : List plain.Fault)
    → plain_lines.AreAllFaults roots dump probe faults
    → plain_lines.AreAllFaults roots dump probe others → faults ≡ others

-- a text of the list of all faults of a dump and its probe, with what is told, and with reasons or without
pub record IsTextOfAll (assumed : List AssumedRegister) (told : Told) (given : Given)
    (roots : List ℕ) (dump probe : List Block) (why : Bool) (text : List ℕ) : Type 0 where
  pub faults : List told_fault.Fault
  pub all : told_lines.AreAllFaults told given roots dump probe faults
  pub is : IsFaultsText assumed told given roots (system_of dump probe) why faults text

-- Two such texts are equal.
abbrev pub TextIsDetermined : Type 0
TextIsDetermined =
    (assumed : List AssumedRegister) (told : Told) (given : Given) (roots : List ℕ)
    (dump probe : List Block) (why : Bool) (text other : List ℕ) → IsDump dump → IsDump probe
    → IsTextOfAll assumed told given roots dump probe why text
    → IsTextOfAll assumed told given roots dump probe why other → text ≡ other

-- the same without what is given and told
pub record IsPlainTextOfAll (assumed : List AssumedRegister) (roots : List ℕ)
    (dump probe : List Block) (why : Bool) (text : List ℕ) : Type 0 where
  pub faults : List plain.Fault
  pub all : plain_lines.AreAllFaults roots dump probe faults
  pub is : plain_text.IsFaultsText assumed roots (system_of dump probe) why faults text

abbrev pub PlainTextIsDetermined : Type 0
PlainTextIsDetermined =
    (assumed : List AssumedRegister) (roots : List ℕ) (dump probe : List Block) (why : Bool)
    (text other : List ℕ) → IsDump dump → IsDump probe
    → IsPlainTextOfAll assumed roots dump probe why text
    → IsPlainTextOfAll assumed roots dump probe why other → text ≡ other
