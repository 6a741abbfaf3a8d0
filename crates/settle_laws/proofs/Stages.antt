-- Three stages of writes lead from one state of a system to another: some of it is closed, registers are set, functions are opened.
use Rattle.std.proofs.Common.{◌≡◌, ℕ, ◌<◌, ◌≤◌, ◌⊎◌, List, [], ◌∷◌, ◌++◌, Bool, true, false}
use Rattle.std.specs.List.{Contains, flat_map, list_any}
use Rattle.pci_spec.specs.Number.{byte_at, number_at}
use Rattle.pci_spec.specs.Registers.{COMMAND}
use Rattle.pci_spec.specs.Header.{layout, bar_count, address_registers, is_in_register}
use Rattle.pci_spec.specs.Bar.{has_bar}
use Rattle.pci_spec.specs.Window.{WindowKind, PrefetchWindow, bounds_at, holds}
use Rattle.pci_spec.specs.System.{System, Function, Space, Memory, Part, Bar, Rom, Claims, is_bridge, is_prefetchable_part, is_space_on, is_window, space_of, window_space}
use Rattle.pci_spec.specs.Machine.{Write}
use Rattle.plan_spec.specs.Plan.{IsMoved, bridges_above}
use Rattle.plan_spec.specs.Planning.PlanWrites.{Change, register_write}
use Rattle.settle_spec.specs.GrowthLaws.{MoveOut}
use Rattle.settle_spec.specs.Writes.{part_registers, shut_bounds, closing_registers, setting_registers}

-- ---- the writes, where each function has a closed state and a final one

module _ (closed final : Function → Function) where
  abbrev pub closing_change : Function → Change
  closing_change f = record { old = f; new = closed f }

  abbrev pub setting_change : Function → Change
  setting_change f = record { old = closed f; new = final f }

  abbrev pub closing_list : Function → List Write
  closing_list f = flat_map (register_write (closing_change f)) (closing_registers f)

  abbrev pub setting_list : Function → List Write
  setting_list f = flat_map (register_write (setting_change f)) (setting_registers (setting_change f))

  abbrev pub opening_list : Function → List Write
  opening_list f = register_write (setting_change f) (COMMAND, 2)

  -- the last function is closed first
  abbrev pub all_closings : System → List Write
  all_closings [] = []
  all_closings (f ∷ more) = all_closings more ++ closing_list f

  abbrev pub all_settings : System → List Write
  all_settings s = flat_map setting_list s

  abbrev pub all_openings : System → List Write
  all_openings s = flat_map opening_list s

  abbrev pub all_stages : System → List Write
  all_stages s = all_closings s ++ (all_settings s ++ all_openings s)

-- registers of a list show a later state up to some place, and an earlier one from there on
pub record IsProgress (registers : List (ℕ × ℕ)) (from to now : Function) : Type 0 where
  pub made : List (ℕ × ℕ)
  pub waiting : List (ℕ × ℕ)
  pub split : made ++ waiting ≡ registers
  pub each_made : (r : ℕ × ℕ) → Contains made r → number_at now.image r.0 r.1 ≡ number_at to.image r.0 r.1
  pub each_waiting : (r : ℕ × ℕ) → Contains waiting r → number_at now.image r.0 r.1 ≡ number_at from.image r.0 r.1

-- ---- what is asked of the two states

-- the registers of a part show the same in two states
abbrev pub ShowsSame : Function → Function → Part → Type 0
ShowsSame f g p = (r : ℕ × ℕ) → Contains (part_registers f p) r → number_at g.image r.0 r.1 ≡ number_at f.image r.0 r.1

-- a window shows the same in three states
pub record IsSameWindow (f closed final : Function) (c : WindowKind) : Type 0 where
  pub closed_same : bounds_at c closed.image ≡ bounds_at c f.image
  pub final_same : bounds_at c final.image ≡ bounds_at c f.image

-- a window is never closed, and at the end it shows the same or has grown
pub record IsKeptWindow (f closed final : Function) (c : WindowKind) : Type 0 where
  pub closed_same : bounds_at c closed.image ≡ bounds_at c f.image
  pub final_out : MoveOut (bounds_at c f.image) (bounds_at c final.image)

-- a window is closed, with upper halves that close it too
pub record IsShutWindow (f closed : Function) (c : WindowKind) : Type 0 where
  pub nibble : ℕ
  pub small : nibble < 16
  pub shows : bounds_at c closed.image ≡ shut_bounds c nibble (bounds_at c f.image)

-- a bridge has a window that holds an address, may forward it, is kept and stays on
pub record IsHeldBy (b closed final : Function) (prefetchable : Bool) (space : Space) (a : ℕ) : Type 0 where
  pub class : WindowKind
  pub at : window_space class ≡ space
  pub may : class ≡ PrefetchWindow → prefetchable ≡ true
  pub kept : IsKeptWindow b closed final class
  pub held : holds class b.image b.probe a ≡ true
  pub on : is_space_on closed space ≡ true

-- address bits and enables alone change, and no byte but those of the registers that are written
pub record AreStates (s : System) (closed final : Function → Function) : Type 0 where
  pub closed_moved : (f : Function) → Contains s f → IsMoved f (closed f)
  pub final_moved : (f : Function) → Contains s f → IsMoved f (final f)
  pub closed_rest : (f : Function) (place : ℕ) → Contains s f → place < 256
      → list_any (is_in_register place) (closing_registers f) ≡ false
      → byte_at (closed f).image place ≡ byte_at f.image place
  pub final_rest : (f : Function) (place : ℕ) → Contains s f → place < 256 → (place < 4) ⊎ (6 ≤ place)
      → list_any (is_in_register place) (address_registers (layout f.image)) ≡ false
      → byte_at (final f).image place ≡ byte_at f.image place

pub record AreStages (s : System) (closed final : Function → Function) : Type 0 where
  pub states : AreStates s closed final
  -- what is on once closed was on before and is on at the end
  pub was_on : (f : Function) (space : Space) → Contains s f → is_space_on (closed f) space ≡ true → is_space_on f space ≡ true
  pub ends_on : (f : Function) (space : Space) → Contains s f → is_space_on (closed f) space ≡ true → is_space_on (final f) space ≡ true
  -- a BAR or ROM whose space is on once closed doesn't move
  pub bar_rests : (f : Function) (n : ℕ) → Contains s f → n < bar_count (layout f.image) → has_bar f.probe n ≡ true
      → is_space_on (closed f) (space_of f (Bar n)) ≡ true → ShowsSame (closed f) (final f) (Bar n)
  pub rom_rests : (f : Function) → Contains s f → is_space_on (closed f) Memory ≡ true → ShowsSame (closed f) (final f) Rom
  -- a window is kept, or is closed meanwhile
  pub windows : (f : Function) (c : WindowKind) → Contains s f → is_bridge f ≡ true
      → IsKeptWindow f (closed f) (final f) c ⊎ IsShutWindow f (closed f) c
  -- what decodes an address once closed is behind windows that hold it, are kept and stay on
  pub held : (f b : Function) (p : Part) (space : Space) (a : ℕ) → Contains s f → is_window p ≡ false
      → Claims (closed f) p space a → Contains (bridges_above s f.slot.bus) b
      → IsHeldBy b (closed b) (final b) (is_prefetchable_part f p) space a
