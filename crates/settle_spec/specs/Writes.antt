-- What the writes of settling are told by: registers and their order, closed windows, and how settling ends.
use Rattle.std.specs.Prelude.{ℕ, ◌==◌, nat_lt, Bool, ◌&&◌, not, if◌then◌else◌, List, [], ◌∷◌, ◌++◌, Option, None, Some}
use Rattle.std.specs.List.{list_any, find}
use Rattle.pci_spec.specs.Number.{number_at}
use Rattle.pci_spec.specs.Slot.{Slot, same_slot}
use Rattle.pci_spec.specs.Registers.{COMMAND, IO_BASE, IO_BASE_UPPER, MEMORY_BASE, PREFETCHABLE_BASE, PREFETCHABLE_BASE_UPPER, PREFETCHABLE_LIMIT_UPPER, BRIDGE_EXPANSION_ROM}
use Rattle.pci_spec.specs.Header.{layout, bar_register, rom_register, address_registers}
use Rattle.pci_spec.specs.Bar.{bar_at, is_wide}
use Rattle.pci_spec.specs.Window.{WindowKind, IoWindow, MemoryWindow, PrefetchWindow, Bounds, closed_bounds}
use Rattle.pci_spec.specs.System.{System, Function, Space, Part, Bar, Rom, Window, register_of, is_bridge, is_space_on}
use Rattle.pci_spec.specs.Machine.{Write}
use Rattle.plan_spec.specs.Plan.{bridges_above}
use Rattle.plan_spec.specs.Planning.PlanWrites.{Change}
use Rattle.settle_spec.specs.Lists.{Request}
use Rattle.settle_spec.specs.Parts.{FunctionPart, system_parts}
use Rattle.settle_spec.specs.Stands.{is_fixed_part}
use Rattle.settle_spec.specs.Items.{PlacingItem}
use Rattle.settle_spec.specs.Registers.{has_own}

-- ---- what changes

-- a register shows different numbers in two states of a function
abbrev pub differs_at : Function → Function → (ℕ × ℕ) → Bool
differs_at f g r = not (number_at g.image r.0 r.1 == number_at f.image r.0 r.1)

-- the registers of a part, each with its width in bytes
abbrev pub part_registers : Function → Part → List (ℕ × ℕ)
part_registers f (Bar n) = (bar_register n, if is_wide (bar_at f.probe n) then 8 else 4) ∷ []
part_registers f Rom = (rom_register (layout f.image), 4) ∷ []
part_registers f (Window IoWindow) = (IO_BASE, 2) ∷ (IO_BASE_UPPER, 4) ∷ []
part_registers f (Window MemoryWindow) = (MEMORY_BASE, 4) ∷ []
part_registers f (Window PrefetchWindow) =
    (PREFETCHABLE_BASE, 4) ∷ (PREFETCHABLE_BASE_UPPER, 4) ∷ (PREFETCHABLE_LIMIT_UPPER, 4) ∷ []

-- ---- what is shut

-- it is on in a space in which it has a BAR or ROM, and a bridge above it isn't
abbrev pub is_cut_off_in : Request → System → Function → Space → Bool
is_cut_off_in q s f space =
    is_space_on f space && has_own q s space f
    && list_any (λ b. not (is_space_on b space)) (bridges_above s f.slot.bus)

-- ---- which windows are closed meanwhile

-- the lower halves of a closed window, and the upper limit no greater than the upper base
abbrev pub shut_bounds : WindowKind → ℕ → Bounds → Bounds
shut_bounds c n b = record {
  base = (closed_bounds c n).base;
  limit = (closed_bounds c n).limit;
  base_upper = b.base_upper;
  limit_upper = if nat_lt b.base_upper b.limit_upper then b.base_upper else b.limit_upper;
}

-- ---- the writes

-- Command, and of a bridge the registers of windows that closing can change
abbrev pub closing_registers : Function → List (ℕ × ℕ)
closing_registers f =
    (COMMAND, 2)
    ∷ (if is_bridge f
    then (IO_BASE, 2) ∷ (IO_BASE_UPPER, 4) ∷ (MEMORY_BASE, 4) ∷ (PREFETCHABLE_BASE, 4)
    ∷ (PREFETCHABLE_LIMIT_UPPER, 4) ∷ [] else [])

-- the upper halves of a prefetchable window: the limit comes first where the new base is below the limit shown
abbrev pub upper_halves : Change → List (ℕ × ℕ)
upper_halves c =
    if nat_lt (number_at c.new.image PREFETCHABLE_BASE_UPPER 4) (number_at c.old.image PREFETCHABLE_LIMIT_UPPER 4)
    then (PREFETCHABLE_LIMIT_UPPER, 4) ∷ (PREFETCHABLE_BASE_UPPER, 4) ∷ []
    else (PREFETCHABLE_BASE_UPPER, 4) ∷ (PREFETCHABLE_LIMIT_UPPER, 4) ∷ []

-- the address registers in the order in which they are set: upper halves of a window come before the lower ones
abbrev pub setting_registers : Change → List (ℕ × ℕ)
setting_registers c =
    if is_bridge c.old
    then (bar_register 0, 4) ∷ (bar_register 1, 4) ∷ (IO_BASE_UPPER, 4) ∷ (IO_BASE, 2) ∷ (MEMORY_BASE, 4)
    ∷ (upper_halves c ++ (PREFETCHABLE_BASE, 4) ∷ (BRIDGE_EXPANSION_ROM, 4) ∷ [])
    else address_registers (layout c.old.image)

-- ---- what is asked for and can't be

-- how settling ends, with the function and the register that it names
pub data Settling : Type 0 where
  BadLists : Settling
  Fixed : (slot : Slot) (register : ℕ) → Settling
  -- a part of a class has no place on its root, nor a new window
  NoRoom : (class : WindowKind) (slot : Slot) (register : ℕ) (size : ℕ) (alignment : ℕ) → Settling
  Settled : (writes : List Write) → Settling
  -- 75: the told range with this register isn't reached as the board stands, or settling would cut it off or switch it on
  NotKept : (slot : Slot) (register : ℕ) → Settling

-- the first part of a fixed function that fails a test
abbrev pub fixed_without : (FunctionPart → Bool) → Request → System → Option FunctionPart
fixed_without test q s = find (λ r. is_fixed_part q r && not (test r)) (system_parts q s)

abbrev pub fixed_write : Request → List Write → Option Write
fixed_write q writes = find (λ (w : Write). list_any (same_slot w.slot) q.fixed) writes

abbrev pub or_fixed : Option FunctionPart → Settling → Settling
or_fixed None other = other
or_fixed (Some r) other = Fixed r.function.slot (register_of r.function r.part)

abbrev pub or_lack : Option PlacingItem → Settling → Settling
or_lack None other = other
or_lack (Some i) other =
    NoRoom i.class i.region.function.slot (register_of i.region.function i.region.part) i.extent.size
    i.extent.alignment

abbrev pub or_write : Option Write → Settling → Settling
or_write None other = other
or_write (Some w) other = Fixed w.slot w.offset
