-- What a plan promises, and why none is made.
use Rattle.std.specs.Prelude.{◌≡◌, ◌≢◌, ◌↔◌, ℕ, ◌+◌, ◌<◌, ◌≤◌, ◌&&◌, not, if◌then◌else◌, IsTrue, IsFalse, List, [], ◌∷◌, map, length, take, slice_set}
use Rattle.std.specs.List.{sum}
use Rattle.pci_spec.specs.Number.{byte_at, has_bit}
use Rattle.pci_spec.specs.Slot.{Slot, slot_number}
use Rattle.pci_spec.specs.Header.{layout, rom_register}
use Rattle.pci_spec.specs.Window.{WindowKind, IoWindow, MemoryWindow, PrefetchWindow}
use Rattle.pci_spec.specs.Rom.{has_rom}
use Rattle.pci_spec.specs.System.{System, Function}
use Rattle.pci_spec.specs.Sound.{IsSound}
use Rattle.pci_spec.specs.Machine.{Write, system_after}
use Rattle.plan_spec.specs.Plan.{Pools, IsPlanned, fits, are_bad, LacksWindow, PlanFault, BadPools, NoWindow, NoRoom, NotAccepted}
use Rattle.plan_spec.specs.Place.{IsPlaced}
use Rattle.plan_spec.specs.Planning.PlanWrites.{Change, closing_writes, plan_writes, most_writes}

-- two states of a system, function by function
abbrev pub changes_between : System → System → List Change
changes_between [] news = []
changes_between (f ∷ olds) [] = []
changes_between (f ∷ olds) (g ∷ news) = record { old = f; new = g } ∷ changes_between olds news

-- from which write on a stop is safe: at once where the start is sound, else after the closing writes
pub record IsSafeFrom (roots : List ℕ) (s : System) (closings n : ℕ) : Type 0 where
  pub at_once : n ≡ 0 ↔ IsSound roots s
  pub closed : (IsSound roots s → ⊥) → n ≡ closings

-- every beginning of the writes from the n-th on leaves a sound system
abbrev pub StopsSafely : List ℕ → System → List Write → ℕ → Type 0
StopsSafely roots s ws n = (k : ℕ) → n ≤ k → IsSound roots (system_after s (take k ws))

-- each write changes the system
abbrev pub EachWriteChanges : System → List Write → Type 0
EachWriteChanges s ws =
    (k : ℕ) → k < length ws → system_after s (take (k + 1) ws) ≢ system_after s (take k ws)

-- a function with the enable bit of its ROM set, where it has one
abbrev pub with_rom_on : Function → Function
with_rom_on f =
    if has_rom f.image f.probe && not (has_bit (byte_at f.image (rom_register (layout f.image))) 0)
    then record f {
      image = slice_set f.image (rom_register (layout f.image))
          (byte_at f.image (rom_register (layout f.image)) + 1);
    }
    else f

-- the final system, the writes and the safe start of a plan
pub record IsPlanOf (roots : List ℕ) (start final : System) (pools : Pools) (ws : List Write)
    (safe_from : ℕ) : Type 0 where
  pub planned : IsPlanned start final pools
  pub placed : IsPlaced roots final pools
  pub sound : IsSound roots final
  -- also where ROMs are switched on
  pub roms : IsSound roots (map with_rom_on final)
  pub writes : ws ≡ plan_writes (changes_between start final)
  pub reached : system_after start ws ≡ final
  pub changes : EachWriteChanges start ws
  -- 9 for each device, 11 for each bridge
  pub few : length ws ≤ sum (map most_writes (changes_between start final))
  pub safe : IsSafeFrom roots start
      (length (closing_writes (changes_between start final))) safe_from
  pub stops : StopsSafely roots start ws safe_from

-- ---- why none is made

-- the first function by slot that has an I/O BAR behind a bridge without an I/O window
pub record IsFirstLacking (s : System) (slot : Slot) : Type 0 where
  pub lacks : LacksWindow s slot
  pub first : (other : Slot) → LacksWindow s other → slot_number slot ≤ slot_number other

-- a class that doesn't fit its pool, while those that are looked at before it do
abbrev pub IsFirstTooLarge : List ℕ → System → Pools → WindowKind → Type 0
IsFirstTooLarge roots s pools IoWindow = IsFalse (fits roots s pools IoWindow)
IsFirstTooLarge roots s pools MemoryWindow =
    IsFalse (fits roots s pools MemoryWindow) × IsTrue (fits roots s pools IoWindow)
IsFirstTooLarge roots s pools PrefetchWindow =
    IsFalse (fits roots s pools PrefetchWindow) × IsTrue (fits roots s pools IoWindow)
    × IsTrue (fits roots s pools MemoryWindow)

-- the fault is there, and none that is looked for before it
abbrev pub IsPlanFaultOf : List ℕ → System → Pools → PlanFault → Type 0
IsPlanFaultOf roots s pools BadPools = IsTrue (are_bad pools)
IsPlanFaultOf roots s pools (NoWindow slot) = IsFalse (are_bad pools) × IsFirstLacking s slot
IsPlanFaultOf roots s pools (NoRoom c) =
    IsFalse (are_bad pools) × ((slot : Slot) → LacksWindow s slot → ⊥)
    × IsFirstTooLarge roots s pools c
IsPlanFaultOf roots s pools (NotAccepted fault) = ⊥

-- nothing stands against a plan
pub record CanBePlanned (roots : List ℕ) (s : System) (pools : Pools) : Type 0 where
  pub good : IsFalse (are_bad pools)
  pub windows : (slot : Slot) → LacksWindow s slot → ⊥
  pub room : (c : WindowKind) → IsTrue (fits roots s pools c)
