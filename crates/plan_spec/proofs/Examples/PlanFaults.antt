-- Why nothing is planned, and which of several reasons is named.
use Rattle.std.proofs.Common.{◌≡◌, ℕ, zero, suc, ◌≤◌, List, [], ◌∷◌, refl, arith, lit<, lit≤, sym, subst}
use Rattle.std.specs.Bool.{IsTrue}
use Rattle.std.specs.List.{Contains, list_any}
use Rattle.std.proofs.lemmas.Bool.{both_ways}
use Rattle.pci_spec.specs.Slot.{Slot, slot_number}
use Rattle.pci_spec.specs.Window.{IoWindow, MemoryWindow, PrefetchWindow}
use Rattle.pci_spec.specs.System.{System, Function, bars_and_rom}
use Rattle.pci_spec.specs.Fault.{Fault}
use Rattle.plan_spec.specs.Plan.{Pools, PlanFault, BadPools, NoWindow, NoRoom, NotAccepted, plan_fault_number, LacksWindow, is_io_part, items_within, doubled_to}
use Rattle.plan_spec.specs.PlanPromise.{IsFirstLacking, IsPlanFaultOf, CanBePlanned}
use Rattle.pci_spec.proofs.Examples.Samples.{slot, device, bridge, host}
use Rattle.plan_spec.proofs.Examples.Plans.{pools, three, pool}
use Rattle.plan_spec.proofs.Examples.Placed.{start}
use Rattle.plan_spec.proofs.Examples.Planned.{no}
use Rattle.plan_spec.proofs.Examples.Filled.{no_window_is_lacking}

numbers : plan_fault_number BadPools ∷ plan_fault_number (NoWindow (slot 0 1 0)) ∷ plan_fault_number (NoRoom MemoryWindow) ∷ [] ≡ 70 ∷ 71 ∷ 72 ∷ []
numbers = refl

-- what can be planned has no fault
no_fault_of_what_can_be_planned : (roots : List ℕ) (s : System) (p : Pools) → CanBePlanned roots s p → (fault : PlanFault) → IsPlanFaultOf roots s p fault → ⊥
no_fault_of_what_can_be_planned roots s p can BadPools bad = both_ways _ can.good bad
no_fault_of_what_can_be_planned roots s p can (NoWindow at) fault = can.windows at fault.1.lacks
no_fault_of_what_can_be_planned roots s p can (NoRoom IoWindow) fault = both_ways _ fault.2 (can.room IoWindow)
no_fault_of_what_can_be_planned roots s p can (NoRoom MemoryWindow) fault = both_ways _ fault.2.0 (can.room MemoryWindow)
no_fault_of_what_can_be_planned roots s p can (NoRoom PrefetchWindow) fault = both_ways _ fault.2.0 (can.room PrefetchWindow)
no_fault_of_what_can_be_planned roots s p can (NotAccepted fault) never = never

-- ---- pools, before all else

abbrev too_high : Pools
too_high = three (pool 0x1000 0x1ffff) (pool 0xe0000000 0xe02ffffe) (pool 0x100000000 0x1ffffffff)

bad_pools_are_named : IsPlanFaultOf host start too_high BadPools
bad_pools_are_named = refl

good_pools_are_not : IsPlanFaultOf host start pools BadPools → ⊥
good_pools_are_not h = no h

no_room_is_not_named_then : IsPlanFaultOf host start too_high (NoRoom MemoryWindow) → ⊥
no_room_is_not_named_then h = no (sym h.0)

-- ---- windows

abbrev io_device : ℕ → Function
io_device d = device (slot 1 d 0) 0 ((0x10, 1) ∷ []) ((0x10, 0xffffff01) ∷ [])

-- two functions behind a bridge without an I/O window
abbrev no_io : System
no_io = bridge (slot 0 1 0) 0 0x10100 [] [] ∷ io_device 0 ∷ io_device 1 ∷ []

each_of_no_io : (P : Function → Type 0) → P (bridge (slot 0 1 0) 0 0x10100 [] []) → P (io_device 0) → P (io_device 1) → (f : Function) → Contains no_io f → P f
each_of_no_io P a b c f (zero, less, is) = subst P is a
each_of_no_io P a b c f (suc zero, less, is) = subst P is b
each_of_no_io P a b c f (suc (suc zero), less, is) = subst P is c
each_of_no_io P a b c f (suc (suc (suc k)), less, is) = absurd (let no : ⊥ = omega (arith, less) in no)

io_bar_is_at_256_or_above : (f : Function) → Contains no_io f → IsTrue (list_any (is_io_part f) (bars_and_rom f)) → 256 ≤ slot_number f.slot
io_bar_is_at_256_or_above = each_of_no_io (λ f. IsTrue (list_any (is_io_part f) (bars_and_rom f)) → 256 ≤ slot_number f.slot) (λ h. absurd (no h)) (λ h. lit≤ tt) (λ h. lit≤ tt)

first_is_named : IsFirstLacking no_io (slot 1 0 0)
first_is_named = record {
  lacks = (io_device 0, (1, lit< tt, refl), refl, refl, refl);
  first = λ other lacks. subst (λ s. 256 ≤ slot_number s) lacks.2 (io_bar_is_at_256_or_above lacks.0 lacks.1 lacks.3);
}

second_lacks_too : LacksWindow no_io (slot 1 1 0)
second_lacks_too = (io_device 1, (2, lit< tt, refl), refl, refl, refl)

second_is_not_named : IsFirstLacking no_io (slot 1 1 0) → ⊥
second_is_not_named h = let low : 264 ≤ 256 = h.first (slot 1 0 0) first_is_named.lacks in omega (arith, low)

no_window_is_named : IsPlanFaultOf host no_io pools (NoWindow (slot 1 0 0))
no_window_is_named = (refl, first_is_named)

not_where_pools_are_bad : IsPlanFaultOf host no_io too_high (NoWindow (slot 1 0 0)) → ⊥
not_where_pools_are_bad h = no (sym h.0)

-- ---- room, after windows

-- no pool has room for anything but one address
abbrev none : Pools
none = three (pool 1 1) (pool 1 1) (pool 2 2)

no_room_is_not_named_before_windows : IsPlanFaultOf host no_io none (NoRoom IoWindow) → ⊥
no_room_is_not_named_before_windows h = h.1 (slot 1 0 0) first_is_named.lacks

abbrev one_byte_short : Pools
one_byte_short = three (pool 0x1000 0xffff) (pool 0xe0000000 0xe02ffffe) (pool 0x100000000 0x1ffffffff)

no_room_for_memory : IsPlanFaultOf host start one_byte_short (NoRoom MemoryWindow)
unfolding items_within doubled_to
no_room_for_memory = (refl, no_window_is_lacking, (refl, refl))

-- an I/O, a memory and a prefetchable BAR on the root
abbrev three_kinds : System
three_kinds = device (slot 0 1 0) 0 ((0x10, 1) ∷ (0x18, 8) ∷ []) ((0x10, 0xffffff01) ∷ (0x14, 0xfff00000) ∷ (0x18, 0xfff00008) ∷ []) ∷ []

no_bridge : (at : Slot) → LacksWindow three_kinds at → ⊥
no_bridge at lacks = no lacks.4

io_is_named_first : IsPlanFaultOf host three_kinds none (NoRoom IoWindow)
unfolding items_within doubled_to
io_is_named_first = (refl, no_bridge, refl)

memory_is_not_named_then : IsPlanFaultOf host three_kinds none (NoRoom MemoryWindow) → ⊥
unfolding items_within doubled_to
memory_is_not_named_then h = no h.2.1

prefetchable_is_not_named_then : IsPlanFaultOf host three_kinds (three (pool 0x1000 0xffff) (pool 1 1) (pool 2 2)) (NoRoom PrefetchWindow) → ⊥
unfolding items_within doubled_to
prefetchable_is_not_named_then h = no h.2.2

prefetchable_is_named_last : IsPlanFaultOf host three_kinds (three (pool 0x1000 0xffff) (pool 0xe0000000 0xe02fffff) (pool 2 2)) (NoRoom PrefetchWindow)
unfolding items_within doubled_to
prefetchable_is_named_last = (refl, no_bridge, (refl, refl, refl))

-- ---- the judgement

no_plan_is_withheld : (roots : List ℕ) (s : System) (p : Pools) (fault : Fault) → IsPlanFaultOf roots s p (NotAccepted fault) → ⊥
no_plan_is_withheld roots s p fault never = never
