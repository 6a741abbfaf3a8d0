-- What is looked for in one function: its identity and its probe, its registers and capabilities list, and its profile.
use Rattle.std.specs.Prelude.{◌≡◌, ℕ, ◌<◌, IsTrue, IsFalse}
use Rattle.pci_spec.specs.Bar as bars
use Rattle.pci_spec.specs.Capability.{ComesTwiceTo, HasLowPlace, HasCutBody, HasChain}
use Rattle.pci_spec.specs.System.{Function}
use Rattle.pci_spec.specs.Decoded.{IsDecodable}
use Rattle.pci_spec.specs.Order.{is_before, phase_of}
use Rattle.pci_spec.specs.Fault.{Fault, NoVendor, HeaderKind, BarType, BarMask, BarPair, RomMask, WindowMask, CapRange, CapLoop, CapCut, SlotsDiffer, StrayProbe, LoneFunction, OfProfile, BusRange, Orphan, Unreached, Clash, Split, has_no_vendor, has_other_layout, is_stray, HasBarFault, HasRomFault, HasWindowFault, HasProfileFault, IsPlainImage}
use Rattle.pci_function.specs.declared.record.Record.{Record}
use Rattle.pci_function.specs.Decoding.{IsRecordOf}

-- a function answers, its header is of type 0 or 1, and its probe is in address registers alone
pub record IsAnswering (f : Function) : Type 0 where
  pub vendor : IsFalse (has_no_vendor f.image)
  pub header : IsFalse (has_other_layout f.image)
  pub probe : (offset : ℕ) → IsFalse (is_stray f.image f.probe offset)

-- the fault is one of the function by itself
abbrev pub IsHere : Function → Fault → Type 0
IsHere f (NoVendor slot) = (slot ≡ f.slot) × IsTrue (has_no_vendor f.image)
IsHere f (HeaderKind slot) = (slot ≡ f.slot) × IsTrue (has_other_layout f.image)
IsHere f (BarType slot register) =
    (slot ≡ f.slot) × HasBarFault f.image f.probe register bars.BarType
IsHere f (BarMask slot register) =
    (slot ≡ f.slot) × HasBarFault f.image f.probe register bars.BarMask
IsHere f (BarPair slot register) =
    (slot ≡ f.slot) × HasBarFault f.image f.probe register bars.BarPair
IsHere f (RomMask slot register) = (slot ≡ f.slot) × HasRomFault f.image f.probe register
IsHere f (WindowMask slot register) = (slot ≡ f.slot) × HasWindowFault f.image f.probe register
IsHere f (CapRange slot place) = (slot ≡ f.slot) × HasLowPlace f.image place
IsHere f (CapLoop slot place) = (slot ≡ f.slot) × ComesTwiceTo f.image place
IsHere f (CapCut slot place) = (slot ≡ f.slot) × HasCutBody f.image place
IsHere f (SlotsDiffer slot) = ⊥
IsHere f (StrayProbe slot offset) = (slot ≡ f.slot) × IsTrue (is_stray f.image f.probe offset)
IsHere f (LoneFunction slot) = ⊥
IsHere f (OfProfile fault slot) = (slot ≡ f.slot) × HasProfileFault f.image fault
IsHere f (BusRange slot) = ⊥
IsHere f (Orphan slot) = ⊥
IsHere f (Unreached slot register space address bridge) = ⊥
IsHere f (Clash bus space address first first_register second second_register) = ⊥
IsHere f (Split space address first first_register second second_register) = ⊥

-- it is one of the function, of this phase
pub record IsHereIn (phase : ℕ) (f : Function) (fault : Fault) : Type 0 where
  pub here : IsHere f fault
  pub phase_is : phase_of fault ≡ phase

-- none of this phase that is looked for before it is one of the function
abbrev pub IsFirstOf : ℕ → Function → Fault → Type 0
IsFirstOf phase f fault =
    (other : Fault) → phase_of other ≡ phase → IsTrue (is_before (λ slot. f.image) other fault)
    → IsHere f other → ⊥

-- nothing of an earlier phase is wrong with the function by itself
pub record IsClearBefore (phase : ℕ) (f : Function) : Type 0 where
  pub answers : 1 < phase → IsAnswering f
  pub registers : 2 < phase → IsDecodable f × HasChain f.image
  pub profile : 3 < phase → IsPlainImage f.image

-- the record is the function's, and nothing is wrong with it by itself
pub record IsExamined (f : Function) (r : Record) : Type 0 where
  pub decoded : IsRecordOf f r
  pub clear : IsClearBefore 4 f

-- the fault is there, and none that is looked for before it: none of an earlier phase, and of its own none with a lesser key
pub record IsFirstFault (f : Function) (fault : Fault) : Type 0 where
  pub here : IsHere f fault
  pub clear : IsClearBefore (phase_of fault) f
  pub first : IsFirstOf (phase_of fault) f fault
