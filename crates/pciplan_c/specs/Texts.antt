-- Two texts with a list of root buses: that they are admitted, or why they aren't.
use Rattle.std.specs.Prelude.{◌≡◌, ◌<◌, ℕ, List, Some}
use Rattle.pci_spec.specs.Text.{Block, IsTextOf}
use Rattle.pci_spec.specs.Fault.{fault_number}
use Rattle.pci_spec.specs.Order.{IsFirstThere}
use Rattle.pci_spec.specs.Line.{verdict_line}
use Rattle.pci_base.specs.declared.memory.Refused.{Refused}
use Rattle.pci_base.specs.declared.memory.Refused.TheVariants as refused
use Rattle.pci_function.specs.Fault.{fault_of}
use Rattle.pci_function.specs.declared.fault.Fault.{Fault}
use Rattle.pci_tree.specs.Admission.{Admission}
use Rattle.pci_tree.specs.Roots.{IsRootList}
use Rattle.pciplan_c.specs.Refusals.{IsHeldRefusal, refusal_text, refusal_line}
use Rattle.pciplan_c.specs.declared.unread.Unread.{Unread}
use Rattle.pciplan_c.specs.declared.unread.Unread.TheVariants.{Refused as IsRefused, NotAdmitted}

-- the message, or the line
abbrev pub unread_text : Unread → List ℕ
unread_text (IsRefused refusal) = refusal_text refusal
unread_text (NotAdmitted fault) = verdict_line (Some (fault_of fault))

-- the line of a text that it names, or 0 where it names none
abbrev pub unread_line : Unread → ℕ
unread_line (IsRefused refusal) = refusal_line refusal
unread_line (NotAdmitted fault) = 0

abbrev pub unread_status : Unread → ℕ
unread_status (IsRefused refusal) = 2
unread_status (NotAdmitted fault) = 1

-- the dumps whose texts the two are, with the root buses
pub record AreTexts (roots dump probe : List ℕ) (a : Admission) : Type 0 where
  pub buses : a.roots ≡ roots
  pub rising : IsRootList roots
  pub dump_text : IsTextOf dump a.dump
  pub probe_text : IsTextOf probe a.probe

-- the first fault that they have is one that is looked for before judging
pub record IsNotAdmitted (roots dump probe : List ℕ) (fault : Fault) : Type 0 where
  pub listed : List Block
  pub read_back : List Block
  pub rising : IsRootList roots
  pub dump_text : IsTextOf dump listed
  pub probe_text : IsTextOf probe read_back
  pub first : IsFirstThere roots listed read_back (fault_of fault)
  pub early : fault_number (fault_of fault) < 60

-- why they aren't admitted
abbrev pub IsUnreadOf : List ℕ → List ℕ → List ℕ → Unread → Type 0
IsUnreadOf roots dump probe (IsRefused refusal) = IsHeldRefusal roots dump probe refusal
IsUnreadOf roots dump probe (NotAdmitted fault) = IsNotAdmitted roots dump probe fault

-- the same, or there was no memory
abbrev pub AreNotAdmitted : List ℕ → List ℕ → List ℕ → Refused Unread → Type 0
AreNotAdmitted roots dump probe (refused.Fault unread) = IsUnreadOf roots dump probe unread
AreNotAdmitted roots dump probe refused.Memory = Unit {0}
