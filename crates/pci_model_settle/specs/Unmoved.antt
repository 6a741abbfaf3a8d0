-- Which functions settling by a user's words leaves as they are.
use Rattle.std.specs.Prelude.{◌≡◌, ℕ, Bool, ◌&&◌, ◌||◌, not, if◌then◌else◌, List, [], ◌∷◌}
use Rattle.std.specs.List.{list_any}
use Rattle.pci_spec.specs.Slot.{Slot, same_slot}
use Rattle.pci_spec.specs.Registers.{SECONDARY_BUS_RESET}
use Rattle.pci_spec.specs.Window.{IoWindow, MemoryWindow, PrefetchWindow, breaks_window_rule}
use Rattle.pci_spec.specs.System.{Function, System, is_bridge}
use Rattle.pci_spec.specs.Fault.{controls_bridge}
use Rattle.plan_spec.specs.Plan.{bridges_above}
use Rattle.judge_spec.specs.ModelWords.{Words}
use Rattle.judge_spec.specs.Asleep.{AreAsleepBy}

-- whether a slot is one of some
abbrev pub is_among : List Slot → Slot → Bool
is_among slots slot = list_any (same_slot slot) slots

-- whether a bridge at one of some slots is above a bus
abbrev pub is_below : List Slot → System → ℕ → Bool
is_below slots t bus = list_any (λ b. is_among slots b.slot) (bridges_above t bus)

-- whether what a window of a bridge reads back doesn't go with what it shows, by its image and its probe (Bridge 1.2, 3.2.5)
abbrev pub has_stuck_window : List ℕ → List ℕ → Bool
has_stuck_window image probe =
    breaks_window_rule IoWindow image probe || breaks_window_rule MemoryWindow image probe
    || breaks_window_rule PrefetchWindow image probe

-- Whether a function, f as it is and h as the words take it, stays as it is though nothing sleeps. It is a bridge that holds its
-- secondary bus in reset (Bridge 1.2, 3.2.5.18), that leads to no bus as it is taken, or of which a window is taken as the one
-- that it shows.
abbrev pub is_bridge_unmoved : Words → Function → Function → Bool
is_bridge_unmoved w f h =
    (w.reset && controls_bridge f.image SECONDARY_BUS_RESET)
    || (is_bridge f && not (is_bridge h))
    || (w.windows && is_bridge h && has_stuck_window f.image f.probe)

-- Whether a function stays as it is, in a system t that the words take so: it sleeps, a bridge above it does, or it is a bridge
-- that stays by itself.
abbrev pub is_unmoved : Words → List Slot → System → Function → Function → Bool
is_unmoved w asleep t f h =
    is_among asleep f.slot || is_below asleep t f.slot.bus || is_bridge_unmoved w f h

-- the slots of those of two systems, side by side
abbrev pub unmoved_among : Words → List Slot → System → System → System → List Slot
unmoved_among w asleep t [] hs = []
unmoved_among w asleep t (f ∷ fs) [] = []
unmoved_among w asleep t (f ∷ fs) (h ∷ hs) =
    if is_unmoved w asleep t f h then f.slot ∷ unmoved_among w asleep t fs hs
    else unmoved_among w asleep t fs hs

-- the slots of the functions of a system s that stay as they are, where the words take them as those of t
pub record AreUnmoved (w : Words) (s t : System) (slots : List Slot) : Type 0 where
  pub asleep : List Slot
  pub are_asleep : AreAsleepBy w s asleep
  pub are : slots ≡ unmoved_among w asleep t s t
