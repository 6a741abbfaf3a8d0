-- Two texts that are read side by side, and the survey of the functions that both list.
use Rattle.std.specs.Prelude.{◌≡◌, ◌≢◌, ◌⊎◌, ℕ, List, [], ◌++◌, Option, Some, IfSome, Bool, true, false, ◌<◌}
use Rattle.pci_spec.specs.Slot.{Slot, slot_number}
use Rattle.pci_spec.specs.Text.{Block, IsDump, slots_of}
use Rattle.pci_spec.specs.System.{function_of, system_of}
use Rattle.pci_spec.specs.Fault.{SlotsDiffer, IsInOne}
use Rattle.pci_dump.specs.declared.read_fault.ReadFault.{ReadFault}
use Rattle.pci_dump.specs.declared.ahead.Progress.TheVariants as stages
use Rattle.pci_dump.specs.State.{State, IsRead}
use Rattle.pci_tree.specs.Pair.{IsNoneBelow}
use Rattle.pci_spec.specs.Order.{phase_of}
use Rattle.pci_tree.specs.Survey.{Surveyed, IsSurveyOf, IsAdded}
use Rattle.pci_check.specs.Audits.{IsDumpOf, IsReadFaultOf}

-- two texts before they were read: what their sources had left, and how often each had failed
pub record Texts : Type 0 where
  pub dump_left : Option (List ℕ)
  pub dump_failures : ℕ
  pub probe_left : Option (List ℕ)
  pub probe_failures : ℕ

-- These blocks were read of a text. Up to its end they are its dump; at a fault it has that one.
pub record IsReadSoFar (left : Option (List ℕ)) (failures : ℕ) (state : State)
    (blocks : List Block) : Type 0 where
  pub dump : IsDump blocks
  pub going : state.progress ≡ stages.Open → IsRead left failures state blocks
  pub whole : state.progress ≡ stages.Done → IsDumpOf left blocks × (state.failures ≡ failures)
  pub stopped : (fault : ReadFault) → state.progress ≡ stages.Failed fault
      → IsReadFaultOf left failures state.failures fault

-- these blocks may be all that is left of a text of which those were read
pub record IsRest (state : State) (blocks more : List Block) : Type 0 where
  pub dump : IsDump (blocks ++ more)
  pub none : state.progress ≡ stages.Done → more ≡ []
  pub going : (fault : ReadFault) → state.progress ≡ stages.Failed fault → ⊥

-- no 30 is noted
abbrev pub IsOpen : Surveyed → Type 0
IsOpen v = IfSome v.fault (λ e. phase_of e ≢ 0)

-- both list the same slots, and the survey took their functions; or it notes the least slot that one of them has alone
abbrev pub IsSurveyOfBoth : Surveyed → List Block → List Block → Type 0
IsSurveyOfBoth v dump probe =
    ((slots_of dump ≡ slots_of probe) × IsSurveyOf v (system_of dump probe) × IsOpen v)
    ⊎ ((slot : Slot) × (v.fault ≡ Some (SlotsDiffer slot)) × IsInOne dump probe slot
    × IsNoneBelow dump probe slot)

-- so far both texts list the same slots, and the survey took their functions
pub record IsSideBySide (texts : Texts) (buses : List ℕ) (d p : State) (v : Surveyed) : Type 0 where
  pub dump : List Block
  pub probe : List Block
  pub dump_read : IsRead texts.dump_left texts.dump_failures d dump
  pub probe_read : IsRead texts.probe_left texts.probe_failures p probe
  pub same : slots_of dump ≡ slots_of probe
  pub taken : IsSurveyOf v (system_of dump probe)
  pub no_30 : IsOpen v
  pub roots : v.roots ≡ buses
  pub last : v.last ≡ d.last

-- nothing that is left of the texts can change what the survey says of both
pub record IsDecided (texts : Texts) (buses : List ℕ) (d p : State) (v : Surveyed) : Type 0 where
  pub dump : List Block
  pub probe : List Block
  pub dump_taken : IsReadSoFar texts.dump_left texts.dump_failures d dump
  pub probe_taken : IsReadSoFar texts.probe_left texts.probe_failures p probe
  pub roots : v.roots ≡ buses
  pub decided : (more_dump more_probe : List Block) → IsRest d dump more_dump
      → IsRest p probe more_probe
      → IsSurveyOfBoth v (dump ++ more_dump) (probe ++ more_probe)

-- a survey of two texts that were read to their ends
pub record IsSurveyOfTexts (buses : List ℕ) (dump_left probe_left : Option (List ℕ))
    (v : Surveyed) : Type 0 where
  pub dump : List Block
  pub probe : List Block
  pub dump_is : IsDump dump
  pub probe_is : IsDump probe
  pub dump_text : IsDumpOf dump_left dump
  pub probe_text : IsDumpOf probe_left probe
  pub roots : v.roots ≡ buses
  pub both : IsSurveyOfBoth v dump probe

-- they are beside each other, whatever they were before
abbrev pub AreSideBySide : State → State → Surveyed → Type 0
AreSideBySide d p v = (texts : Texts) × (buses : List ℕ) × IsSideBySide texts buses d p v

-- a pair was taken, and they are still beside each other; or none is left to be taken
abbrev pub IsBesideOrDecided : Bool → Texts → List ℕ → State → State → Surveyed → Type 0
IsBesideOrDecided true texts buses d p v = IsSideBySide texts buses d p v
IsBesideOrDecided false texts buses d p v = IsDecided texts buses d p v

-- a survey took the function of two blocks of one slot; or it noted the lesser of their two slots
abbrev pub IsTakenBySurvey : Surveyed → Surveyed → Block → Block → Bool → Type 0
IsTakenBySurvey v w b p true = (p.slot ≡ b.slot) × IsAdded v w (function_of b p)
IsTakenBySurvey v w b p false =
    (w.roots ≡ v.roots)
    × (((slot_number b.slot < slot_number p.slot) × (w.fault ≡ Some (SlotsDiffer b.slot)))
    ⊎ ((slot_number p.slot < slot_number b.slot) × (w.fault ≡ Some (SlotsDiffer p.slot))))
