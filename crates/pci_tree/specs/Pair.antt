-- What a dump and its probe must be, before their registers are decoded.
use Rattle.std.specs.Prelude.{◌≡◌, ℕ, ◌<◌, List}
use Rattle.pci_spec.specs.Slot.{Slot, slot_number}
use Rattle.pci_spec.specs.Text.{Block, slots_of}
use Rattle.pci_spec.specs.Fault.{NoVendor, HeaderKind, SlotsDiffer, StrayProbe, IsInOne, IsThere}

-- no slot below is listed by one of two dumps alone
abbrev pub IsNoneBelow : List Block → List Block → Slot → Type 0
IsNoneBelow dump probe slot =
    (other : Slot) → slot_number other < slot_number slot → IsInOne dump probe other → ⊥

-- none of the faults 20, 21, 30 and 31 is there, and so both list the same slots
pub record IsPair (roots : List ℕ) (dump probe : List Block) : Type 0 where
  pub same : slots_of dump ≡ slots_of probe
  pub slots : (slot : Slot) → IsThere roots dump probe (SlotsDiffer slot) → ⊥
  pub vendors : (slot : Slot) → IsThere roots dump probe (NoVendor slot) → ⊥
  pub layouts : (slot : Slot) → IsThere roots dump probe (HeaderKind slot) → ⊥
  pub probes : (slot : Slot) (offset : ℕ) → IsThere roots dump probe (StrayProbe slot offset) → ⊥
