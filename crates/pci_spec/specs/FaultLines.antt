-- Which lines a list of all faults has: of the earliest phase that has any, the first fault of each subject.
use Rattle.std.specs.Prelude.{◌≡◌, ℕ, ◌<◌, IsTrue, List, [], ◌∷◌}
use Rattle.std.specs.List.{AllPairs, Contains}
use Rattle.pci_spec.specs.Text.{Block}
use Rattle.pci_spec.specs.System.{system_of}
use Rattle.pci_spec.specs.Fault.{Fault, NoVendor, HeaderKind, CapRange, CapLoop, CapCut, StrayProbe, IsThere}
use Rattle.pci_spec.specs.Order.{Identity, Decoding, Judging, Capabilities, phase_key, slot_key, in_phase, looking_key, phase_of, is_before, image_at}
use Rattle.pci_spec.specs.AllFaults.{IsNamed}

-- What one line is for, a beginning of the fault's key: a function's identity with its probe, its capabilities list, one
-- of its registers, or else just what the fault says.
abbrev pub subject : Fault → List ℕ
subject (NoVendor slot) = phase_key Identity ∷ slot_key slot
subject (HeaderKind slot) = phase_key Identity ∷ slot_key slot
subject (StrayProbe slot offset) = phase_key Identity ∷ slot_key slot
subject (CapRange slot place) = in_phase Decoding slot Capabilities []
subject (CapLoop slot place) = in_phase Decoding slot Capabilities []
subject (CapCut slot place) = in_phase Decoding slot Capabilities []
subject fault = looking_key (λ slot. []) fault

-- The fault is there, none of an earlier phase is, and none of its subject that is looked for before it. Of judging,
-- where one region shares many addresses, `IsNamed` says which one is told.
pub record IsLine (roots : List ℕ) (dump probe : List Block) (fault : Fault) : Type 0 where
  pub there : IsThere roots dump probe fault
  pub none_earlier : (other : Fault) → phase_of other < phase_of fault
      → IsThere roots dump probe other → ⊥
  pub first : phase_of fault < phase_key Judging → (other : Fault) → subject other ≡ subject fault
      → IsTrue (is_before (image_at (system_of dump probe)) other fault)
      → IsThere roots dump probe other → ⊥
  pub named : phase_of fault ≡ phase_key Judging → IsNamed roots (system_of dump probe) fault

-- just those faults, in the order in which they are looked for, and so none twice
pub record AreAllFaults (roots : List ℕ) (dump probe : List Block)
    (faults : List Fault) : Type 0 where
  pub each : (fault : Fault) → Contains faults fault → IsLine roots dump probe fault
  pub complete : (fault : Fault) → IsLine roots dump probe fault → Contains faults fault
  pub rising : AllPairs
      (λ fault other. IsTrue (is_before (image_at (system_of dump probe)) fault other)) faults
