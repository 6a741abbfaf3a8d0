-- What is not moved, not planned, or not at its place, and what a plan promises piece by piece.
use Rattle.std.proofs.Common.{◌≡◌, ℕ, List, [], ◌∷◌, refl, arith, lit<, map, length, take, Some, None, Option, ap, ◌+◌, ◌<◌, ◌≤◌, sym}
use Rattle.std.specs.List.{sum}
use Rattle.pci_spec.specs.Number.{each_from}
use Rattle.pci_spec.specs.Slot.{Slot}
use Rattle.pci_spec.specs.Window.{Bounds, MemoryWindow}
use Rattle.pci_spec.specs.Decoded.{Range}
use Rattle.pci_spec.specs.System.{System, Function, Bar}
use Rattle.pci_spec.specs.Sound.{IsSound}
use Rattle.pci_spec.specs.Machine.{Write, system_after}
use Rattle.plan_spec.specs.Plan.{IsMoved, Pools, IsPlanned, items_within, doubled_to}
use Rattle.plan_spec.specs.Place.{IsPlaced, start_within}
use Rattle.plan_spec.specs.PlanPromise.{IsPlanOf, changes_between, with_rom_on}
use Rattle.plan_spec.specs.Planning.PlanWrites.{plan_writes, closing_writes, most_writes}
use Rattle.pci_spec.proofs.Examples.Samples.{slot, device, bridge, host, put_bytes, puts, blank, zeros}
use Rattle.plan_spec.proofs.Examples.Plans.{pools}
use Rattle.plan_spec.proofs.Examples.Planned.{no}

-- ---- not moved

-- a device with a Command, a BAR and a vendor's low byte
abbrev changed : ℕ → ℕ → ℕ → Function
changed vendor command value = record { slot = slot 0 1 0; image = put_bytes ((0x00, vendor) ∷ []) (puts ((0x10, value) ∷ []) (blank 0 command)); probe = puts ((0x10, 0xfff00008) ∷ []) zeros }

bus_master_stays : IsMoved (changed 0x34 0 8) (changed 0x34 4 8) → ⊥
bus_master_stays m = let e : 1 ≡ 0 = m.same 4 2 (lit< tt) (lit< tt) refl refl in omega (arith, e)

encoding_stays : IsMoved (changed 0x34 0 8) (changed 0x34 0 0) → ⊥
encoding_stays m = let e : 0 ≡ 1 = m.same 0x10 3 (lit< tt) (lit< tt) refl refl in omega (arith, e)

-- its lowest address bit is bit 20
bits_below_a_size_stay : IsMoved (changed 0x34 0 8) (changed 0x34 0 0x80008) → ⊥
bits_below_a_size_stay m = let e : 1 ≡ 0 = m.same 0x12 3 (lit< tt) (lit< tt) refl refl in omega (arith, e)

vendor_stays : IsMoved (changed 0x34 0 8) (changed 0x35 0 8) → ⊥
vendor_stays m = let e : 1 ≡ 0 = m.same 0 0 (lit< tt) (lit< tt) refl refl in omega (arith, e)

other_slot : IsMoved (changed 0x34 0 8) (record (changed 0x34 0 8) { slot = slot 0 2 0 }) → ⊥
other_slot m = let e : 2 ≡ 1 = ap (λ (s : Slot). s.device) m.slot in omega (arith, e)

-- ---- not planned

-- a device with a BAR of 1 MB
abbrev placed_at : ℕ → Function
placed_at value = device (slot 0 1 0) 2 ((0x10, value) ∷ []) ((0x10, 0xfff00000) ∷ [])

-- right behind the pool
behind_the_pool : (old : System) → IsPlanned old (placed_at 0xe0300000 ∷ []) pools → ⊥
unfolding each_from
behind_the_pool old p =
    let inside = p.placed (placed_at 0xe0300000) (Bar 0) 0xe0300000 (0, lit< tt, refl) refl refl (refl, (20, refl, λ i above. refl)) in
    let high = inside.1 in
    omega (arith, high)

-- and before it
before_the_pool : (old : System) → IsPlanned old (placed_at 0xdff00000 ∷ []) pools → ⊥
unfolding each_from
before_the_pool old p =
    let inside = p.placed (placed_at 0xdff00000) (Bar 0) 0xdff00000 (0, lit< tt, refl) refl refl (refl, (20, refl, λ i above. refl)) in
    let low = inside.0 in
    omega (arith, low)

-- a bridge with a closed window, and a BAR behind it
abbrev closed_bridge : Function
closed_bridge = bridge (slot 0 1 0) 0 0x10100 ((0x20, 0xfff0) ∷ []) []

abbrev bar_behind : Function
bar_behind = device (slot 1 0 0) 2 ((0x10, 0xe0000000) ∷ []) ((0x10, 0xfff00000) ∷ [])

closed_with_a_bar_behind : (old : System) → IsPlanned old (closed_bridge ∷ bar_behind ∷ []) pools → ⊥
closed_with_a_bar_behind old p = no (p.windows closed_bridge MemoryWindow (0, lit< tt, refl) refl refl)

-- an open one, and nothing behind it
abbrev open_bridge : Function
open_bridge = bridge (slot 0 1 0) 2 0x10100 ((0x20, 0xe000e000) ∷ []) []

open_with_nothing_behind : (old : System) → IsPlanned old (open_bridge ∷ []) pools → ⊥
open_with_nothing_behind old p = no (sym (p.windows open_bridge MemoryWindow (0, lit< tt, refl) refl refl))

-- an I/O BAR that is off, and I/O space that is on for nothing
abbrev io_bar : ℕ → Function
io_bar enables = device (slot 0 1 0) enables ((0x10, 0x1001) ∷ []) ((0x10, 0xffffff01) ∷ [])

io_left_off : (old : System) → IsPlanned old (io_bar 0 ∷ []) pools → ⊥
io_left_off old p = no (p.io (io_bar 0) (0, lit< tt, refl))

memory_on_for_nothing : (old : System) → IsPlanned old (io_bar 3 ∷ []) pools → ⊥
memory_on_for_nothing old p = no (sym (p.memory (io_bar 3) (0, lit< tt, refl)))

io_on_for_nothing : (old : System) → IsPlanned old (device (slot 0 1 0) 3 ((0x10, 0xe0000000) ∷ []) ((0x10, 0xfff00000) ∷ []) ∷ []) pools → ⊥
io_on_for_nothing old p = no (sym (p.io (device (slot 0 1 0) 3 ((0x10, 0xe0000000) ∷ []) ((0x10, 0xfff00000) ∷ [])) (0, lit< tt, refl)))

-- ---- not at its place

-- in the pool, but not at its first address
second_place : IsPlaced host (placed_at 0xe0100000 ∷ []) pools → ⊥
unfolding start_within items_within doubled_to
second_place p =
    let e : 0xe0100000 ≡ 0xe0000000 = p.parts (placed_at 0xe0100000) (Bar 0) (0, lit< tt, refl) (0, lit< tt, refl) in
    omega (arith, e)

-- a window of two pages where one is asked for
abbrev wide_open : Function
wide_open = bridge (slot 0 1 0) 2 0x10100 ((0x20, 0xe010e000) ∷ []) []

abbrev last_of : Option Range → ℕ
last_of None = 0
last_of (Some r) = r.last

window_too_large : IsPlaced host (wide_open ∷ bar_behind ∷ []) pools → ⊥
unfolding start_within items_within doubled_to
window_too_large p =
    let e : 0xe01fffff ≡ 0xe00fffff = ap last_of (p.opened wide_open MemoryWindow (0, lit< tt, refl) refl refl refl) in
    omega (arith, e)

-- a window that is closed by other pages than the last and the first
abbrev closed_otherwise : Function
closed_otherwise = bridge (slot 0 1 0) 0 0x10100 ((0x20, 0x00000010) ∷ []) []

closed_by_other_pages : IsPlaced host (closed_otherwise ∷ []) pools → ⊥
closed_by_other_pages p =
    let e : 0x10 ≡ 0xfff0 = ap (λ (b : Bounds). b.base) (p.closed closed_otherwise MemoryWindow (0, lit< tt, refl) refl refl refl) in
    omega (arith, e)

-- ---- what a plan promises, piece by piece

module _ (roots : List ℕ) (start final : System) (pools : Pools) (writes : List Write) (safe_from : ℕ) (plan : IsPlanOf roots start final pools writes safe_from) where
  it_is_planned : IsPlanned start final pools
  it_is_planned = plan.planned

  everything_is_at_its_place : IsPlaced roots final pools
  everything_is_at_its_place = plan.placed

  it_is_sound : IsSound roots final
  it_is_sound = plan.sound

  it_is_sound_with_roms_on : IsSound roots (map with_rom_on final)
  it_is_sound_with_roms_on = plan.roms

  its_writes_are_those_between : writes ≡ plan_writes (changes_between start final)
  its_writes_are_those_between = plan.writes

  its_writes_lead_there : system_after start writes ≡ final
  its_writes_lead_there = plan.reached

  each_of_its_writes_changes : (k : ℕ) → k < length writes → system_after start (take (k + 1) writes) ≡ system_after start (take k writes) → ⊥
  each_of_its_writes_changes = plan.changes

  its_writes_are_few : length writes ≤ sum (map most_writes (changes_between start final))
  its_writes_are_few = plan.few

  it_can_stop_from_there_on : (k : ℕ) → safe_from ≤ k → IsSound roots (system_after start (take k writes))
  it_can_stop_from_there_on = plan.stops

  safe_from_the_start_where_that_is_sound : IsSound roots start → safe_from ≡ 0
  safe_from_the_start_where_that_is_sound sound = plan.safe.at_once.1 sound

  safe_behind_the_closings_else : (IsSound roots start → ⊥) → safe_from ≡ length (closing_writes (changes_between start final))
  safe_behind_the_closings_else unsound = plan.safe.closed unsound
