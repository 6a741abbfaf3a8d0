-- The access at which a port failed.
use Rattle.std.specs.Prelude.{◌≡◌, ℕ, ◌⊎◌, Result, Err}
use Rattle.pci_spec.specs.Slot.{Slot}
use Rattle.pci_spec.specs.Machine.{Write}
use Rattle.pci_machine.specs.declared.port.PortError.{PortError}
use Rattle.pci_machine.specs.declared.port.PortError.TheVariants.{Failed}

-- a read or a write at an offset of the function at a slot failed, and made the one port of the other
abbrev pub Fails : {P : Type 0} → (P → Slot → ℕ → ℕ → Result ℕ PortError → P → Type 0)
    → (P → Write → Result (Unit {0}) PortError → P → Type 0) → Slot → ℕ → P → P → Type 0
Fails reads writes slot offset before after =
    ((width : ℕ) × reads before slot offset width (Err Failed) after)
    ⊎ ((width : ℕ) × (value : ℕ)
    × writes before (record { slot = slot; offset = offset; width = width; value = value }) (Err Failed) after)

-- Such an access failed: none had failed before it, and it was the last one.
pub record FirstFailed {P : Type 0} (failures : P → ℕ) (fails : P → P → Type 0)
    (old new : P) : Type 0 where
  pub before : P
  pub first : failures before ≡ failures old
  pub last : fails before new
