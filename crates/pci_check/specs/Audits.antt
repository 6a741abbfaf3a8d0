-- What an audit of two texts answers.
use Rattle.std.specs.Prelude.{◌≡◌, ◌≢◌, ◌⊎◌, ℕ, ◌+◌, ◌<◌, List, Option, None, Some}
use Rattle.pci_spec.specs.Text.{Block, IsTextOf, slots_of}
use Rattle.pci_spec.specs.System.{system_of}
use Rattle.pci_spec.specs.Fault.{IsThere, fault_number}
use Rattle.pci_spec.specs.Order.{IsFirst, IsFirstThere}
use Rattle.pci_spec.specs.Sound.{IsSound}
use Rattle.pci_spec.specs.Line.{verdict_line}
use Rattle.pci_dump.specs.ReadFault.{IsTextFault}
use Rattle.pci_dump.specs.declared.read_fault.ReadFault.{ReadFault}
use Rattle.pci_dump.specs.declared.read_fault.ReadFault.TheVariants as faults
use Rattle.pci_function.specs.declared.fault.Fault.{Fault}
use Rattle.pci_function.specs.Fault.{fault_of}
use Rattle.pci_dump.specs.Begun.{AppendsBeginning}
use Rattle.pci_check.specs.declared.outcome.AuditFault.{AuditFault}
use Rattle.pci_check.specs.declared.outcome.AuditFault.TheVariants.{Dump, Probe, Memory, Write}
use Rattle.pci_check.specs.declared.outcome.Outcome.{Outcome}
use Rattle.pci_check.specs.declared.outcome.Outcome.TheVariants.{Yes, No}

-- both list the same slots, and their system is sound
abbrev pub ArePlainlySound : List ℕ → List Block → List Block → Type 0
ArePlainlySound roots dump probe = (slots_of dump ≡ slots_of probe) × IsSound roots (system_of dump probe)

-- the fault is there, and none that is looked for before it, the two aren't sound, and it is the first of its kind where it is one of judging
pub record IsRefused (roots : List ℕ) (dump probe : List Block) (fault : Fault) : Type 0 where
  pub there : IsThere roots dump probe (fault_of fault)
  pub first : (fault_number (fault_of fault) < 60)
      ⊎ IsFirst roots (system_of dump probe) (fault_of fault)
  pub unsound : ArePlainlySound roots dump probe → ⊥
  pub order : IsFirstThere roots dump probe (fault_of fault)

-- yes exactly where they are sound, and no with a fault
abbrev pub IsOutcomeOf : List ℕ → List Block → List Block → Outcome → Type 0
IsOutcomeOf roots dump probe Yes = ArePlainlySound roots dump probe
IsOutcomeOf roots dump probe (No fault) = IsRefused roots dump probe fault

-- the line that is written
abbrev pub outcome_line : Outcome → List ℕ
outcome_line Yes = verdict_line None
outcome_line (No fault) = verdict_line (Some (fault_of fault))

-- the dump whose text was left, where the bytes are told; no other blocks have it
pub record IsDumpOf (left : Option (List ℕ)) (dump : List Block) : Type 0 where
  pub text : (bytes : List ℕ) → left ≡ Some bytes → IsTextOf bytes dump
  pub only : (bytes : List ℕ) → left ≡ Some bytes → (others : List Block) → IsTextOf bytes others
      → others ≡ dump

-- the outcome of the two texts that were left
pub record IsAudited (roots : List ℕ) (dump_left probe_left : Option (List ℕ))
    (outcome : Outcome) : Type 0 where
  pub dump : List Block
  pub probe : List Block
  pub dump_text : IsDumpOf dump_left dump
  pub probe_text : IsDumpOf probe_left probe
  pub verdict : IsOutcomeOf roots dump probe outcome

-- why a text was refused: a read failed, or it has this fault
pub record IsReadFaultOf (left : Option (List ℕ)) (before after : ℕ)
    (fault : ReadFault) : Type 0 where
  pub io : fault ≡ faults.Io → after ≡ before + 1
  pub whole : fault ≢ faults.Io → after ≡ before
  pub told : fault ≢ faults.Io → (bytes : List ℕ) → left ≡ Some bytes → IsTextFault bytes fault
  pub other : fault ≢ faults.Memory

-- a dump was read in which no read failed
pub record IsWholeDumpRead (left : Option (List ℕ)) (before after : ℕ) : Type 0 where
  pub dump : List Block
  pub text : IsDumpOf left dump
  pub whole : after ≡ before

-- what a text had left before it was read, and the counts of failed reads before and after
pub record Reading : Type 0 where
  pub left : Option (List ℕ)
  pub before : ℕ
  pub after : ℕ

abbrev pub reading : Option (List ℕ) → ℕ → ℕ → Reading
reading left before after = record { left = left; before = before; after = after }

-- why there is no verdict: the dump's text, or the probe's where the dump's is one
abbrev pub IsTextRefusal : Reading → Reading → AuditFault → Type 0
IsTextRefusal dump probe (Dump fault) = IsReadFaultOf dump.left dump.before dump.after fault
IsTextRefusal dump probe (Probe fault) =
    IsWholeDumpRead dump.left dump.before dump.after
    × IsReadFaultOf probe.left probe.before probe.after fault
IsTextRefusal dump probe Memory = Unit {0}
IsTextRefusal dump probe Write = Unit {0}

-- a beginning of the line of the two texts' outcome was written
pub record HasBegun (roots : List ℕ) (dump_left probe_left : Option (List ℕ))
    (before after : Option (List ℕ)) : Type 0 where
  pub outcome : Outcome
  pub audited : IsAudited roots dump_left probe_left outcome
  pub begun : AppendsBeginning before after (outcome_line outcome)
