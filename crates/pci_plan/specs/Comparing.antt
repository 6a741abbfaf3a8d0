-- Whether functions behind a port show what a plan starts from.
use Rattle.std.specs.Prelude.{◌≡◌, ◌≢◌, ℕ, ◌<◌, ◌⊎◌, IsFalse, List, ◌∷◌}
use Rattle.std.specs.List.{Contains}
use Rattle.pci_spec.specs.Number.{number_at}
use Rattle.pci_spec.specs.Slot.{Slot}
use Rattle.pci_spec.specs.Registers.{COMMAND}
use Rattle.pci_spec.specs.Header.{layout, address_registers}
use Rattle.pci_spec.specs.Text.{Block}
use Rattle.pci_spec.specs.Machine.{Target}
use Rattle.pci_spec.specs.Port.{has_function, ShowsNumber}
use Rattle.pci_plan.specs.declared.apply_fault.ApplyFault.{ApplyFault}
use Rattle.pci_plan.specs.declared.apply_fault.ApplyFault.TheVariants.{Changed, Port, Stuck}

-- the registers that are compared, with their widths: Command and the address registers
abbrev pub compared : List ℕ → List (ℕ × ℕ)
compared image = (COMMAND, 2) ∷ address_registers (layout image)

-- each of them shows what it has in the image
abbrev pub ShowsAll : List Target → Slot → List ℕ → Type 0
ShowsAll targets slot image =
    (r : ℕ × ℕ) → Contains (compared image) r
    → ShowsNumber targets slot r.0 r.1 (number_at image r.0 r.1)

-- a register shows another number than the image has there
pub record ShowsOther (targets : List Target) (slot : Slot) (image : List ℕ)
    (offset width : ℕ) : Type 0 where
  pub shows : ℕ
  pub shown : ShowsNumber targets slot offset width shows
  pub differs : shows ≢ number_at image offset width

-- one of those at the offset does
pub record IsChangedAt (targets : List Target) (slot : Slot) (image : List ℕ)
    (offset : ℕ) : Type 0 where
  pub width : ℕ
  pub listed : Contains (compared image) (offset, width)
  pub other : ShowsOther targets slot image offset width

-- the functions behind a port at a moment, and how many accesses have failed until then
pub record Moment : Type 0 where
  pub targets : List Target
  pub failures : ℕ

abbrev pub moment : List Target → ℕ → Moment
moment targets failures = record { targets = targets; failures = failures }

-- an access failed, or no function is at the slot
abbrev pub IsRefusedAt : Moment → Slot → ℕ → Type 0
IsRefusedAt before slot failures_after =
    (before.failures < failures_after) ⊎ IsFalse (has_function before.targets slot)

-- why one register, by its offset and width, doesn't compare
abbrev pub IsCompareFault : Moment → Slot → List ℕ → ℕ × ℕ → ℕ → ApplyFault → Type 0
IsCompareFault before slot image (offset, width) failures_after (Changed at place) =
    (at ≡ slot) × (place ≡ offset) × ShowsOther before.targets slot image offset width
IsCompareFault before slot image (offset, width) failures_after (Port done) =
    (done ≡ 0) × IsRefusedAt before slot failures_after
IsCompareFault before slot image (offset, width) failures_after (Stuck done) = ⊥

-- why a function doesn't
abbrev pub IsFunctionFault : Moment → Slot → List ℕ → ℕ → ApplyFault → Type 0
IsFunctionFault before slot image failures_after (Changed at offset) =
    (at ≡ slot) × IsChangedAt before.targets slot image offset
IsFunctionFault before slot image failures_after (Port done) =
    (done ≡ 0) × IsRefusedAt before slot failures_after
IsFunctionFault before slot image failures_after (Stuck done) = ⊥

-- each function shows what its block has
abbrev pub StartsAs : List Target → List Block → Type 0
StartsAs targets blocks = (b : Block) → Contains blocks b → ShowsAll targets b.slot b.image

-- why one of them doesn't
abbrev pub IsStartFault : Moment → List Block → ℕ → ApplyFault → Type 0
IsStartFault before blocks failures_after fault =
    (b : Block) × Contains blocks b
    × IsFunctionFault before b.slot b.image failures_after fault
