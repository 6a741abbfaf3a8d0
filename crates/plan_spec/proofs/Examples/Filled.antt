-- The worked tree: the numbers that planning puts into each function, and that nothing stands against a plan.
use Rattle.std.proofs.Common.{◌≡◌, ℕ, zero, suc, ◌<◌, ◌||◌, refl, Bool, true, arith, inl, inr, subst, lit<, [], ◌∷◌}
use Rattle.std.specs.Bool.{IsTrue, IsFalse, ◌==◌}
use Rattle.std.specs.List.{Contains, list_all, list_any, AllZip}
use Rattle.std.proofs.lemmas.Bool.{or_cases, both_ways, eqb-true}
use Rattle.pci_spec.specs.Number.{each_from, byte_at, number_at, IsImage}
use Rattle.pci_spec.specs.Slot.{Slot}
use Rattle.pci_spec.specs.Header.{command, layout, address_registers}
use Rattle.pci_spec.specs.Window.{WindowKind, IoWindow, MemoryWindow, PrefetchWindow}
use Rattle.pci_spec.specs.System.{Function, bars_and_rom}
use Rattle.pci_spec.specs.Fault.{is_in_address_register}
use Rattle.plan_spec.specs.Plan.{LacksWindow, is_io_part, fits, items_within, doubled_to}
use Rattle.plan_spec.specs.Place.{start_within}
use Rattle.plan_spec.specs.PlanPromise.{CanBePlanned}
use Rattle.plan_spec.specs.Planning.Numbers.{IsFilled, IsPlannedFunction, new_number, new_command}
use Rattle.pci_spec.proofs.Bits.{each_from-at}
use Rattle.plan_spec.proofs.Planning.Behind.{all_gives}
use Rattle.pci_spec.proofs.Examples.Samples.{host, slot, device}
use Rattle.pci_spec.proofs.Examples.Texts.{bytes_by}
use Rattle.plan_spec.proofs.Examples.Plans.{pools}
use Rattle.plan_spec.proofs.Examples.Placed.{start, planned}
use Rattle.plan_spec.proofs.Examples.Planned.{old_bridge, new_bridge, old_device, new_device, old_behind, new_behind, no}

-- a register of the new function shows its number
abbrev shows : (ℕ × ℕ → ℕ) → Function → ℕ × ℕ → Bool
shows value g r = number_at g.image r.0 r.1 == value r

-- a byte that is none of an address register's, nor of Command, is as it was
abbrev is_kept : Function → Function → ℕ → Bool
is_kept f g offset = (is_in_address_register (layout f.image) offset || (offset == 4 || offset == 5)) || byte_at g.image offset == byte_at f.image offset

kept_by : (f g : Function) → each_from 0 256 (is_kept f g) ≡ true → (offset : ℕ) → offset < 256
    → IsFalse (is_in_address_register (layout f.image) offset) → IsFalse (offset == 4 || offset == 5) → byte_at g.image offset ≡ byte_at f.image offset
kept_by f g h offset less outside aside =
    elim (or_cases (is_in_address_register (layout f.image) offset || (offset == 4 || offset == 5)) (byte_at g.image offset == byte_at f.image offset) (each_from-at 0 256 (is_kept f g) h offset (omega arith) less)) [
      | inl or ↦ elim (or_cases (is_in_address_register (layout f.image) offset) (offset == 4 || offset == 5) or) [
        | inl inside ↦ absurd (both_ways _ outside inside)
        | inr beside ↦ absurd (both_ways _ aside beside)
      ]
      | inr same ↦ eqb-true _ _ same
    ]

pub filled_by : (value : ℕ × ℕ → ℕ) (new_command : ℕ) (f g : Function) → g.slot ≡ f.slot → g.probe ≡ f.probe → IsImage g.image
    → list_all (shows value g) (address_registers (layout f.image)) ≡ true → command g.image ≡ new_command → each_from 0 256 (is_kept f g) ≡ true
    → IsFilled value new_command f g
filled_by value new_command f g slot probe image registers command_is others = record {
  slot = slot;
  probe = probe;
  image = image;
  registers = λ r listed. eqb-true _ _ (all_gives (shows value g) (address_registers (layout f.image)) r registers listed);
  command_is = command_is;
  others = kept_by f g others;
}

-- ---- each function of the tree

pub bridge_is_filled : IsPlannedFunction host start pools old_bridge new_bridge
unfolding start_within items_within doubled_to each_from
bridge_is_filled = filled_by (new_number host start pools old_bridge) (new_command start pools old_bridge) old_bridge new_bridge refl refl (record { full = refl; bytes = bytes_by new_bridge.image refl }) refl refl refl

pub device_is_filled : IsPlannedFunction host start pools old_device new_device
unfolding start_within items_within doubled_to each_from
device_is_filled = filled_by (new_number host start pools old_device) (new_command start pools old_device) old_device new_device refl refl (record { full = refl; bytes = bytes_by new_device.image refl }) refl refl refl

pub behind_is_filled : IsPlannedFunction host start pools old_behind new_behind
unfolding start_within items_within doubled_to each_from
behind_is_filled = filled_by (new_number host start pools old_behind) (new_command start pools old_behind) old_behind new_behind refl refl (record { full = refl; bytes = bytes_by new_behind.image refl }) refl refl refl

pub whole_tree_is_filled : AllZip (IsPlannedFunction host start pools) start planned
whole_tree_is_filled = (bridge_is_filled, (device_is_filled, (behind_is_filled, tt)))

-- what has another number, another Command or another byte besides is not

without_its_number : IsPlannedFunction host start pools old_device (device (slot 0 2 0) 2 [] ((0x10, 0xfff00000) ∷ [])) → ⊥
unfolding start_within items_within doubled_to
without_its_number h = let e : 0 ≡ 0xe0200000 = h.registers (0x10, 4) (0, lit< tt, refl) in omega (arith, e)

not_switched_on : IsPlannedFunction host start pools old_device (device (slot 0 2 0) 0 ((0x10, 0xe0200000) ∷ []) ((0x10, 0xfff00000) ∷ [])) → ⊥
not_switched_on h = let e : 0 ≡ 2 = h.command_is in omega (arith, e)

with_another_byte : IsPlannedFunction host start pools old_device (device (slot 0 2 0) 2 ((0x10, 0xe0200000) ∷ (0x3c, 1) ∷ []) ((0x10, 0xfff00000) ∷ [])) → ⊥
with_another_byte h = let e : 1 ≡ 0 = h.others 0x3c (lit< tt) refl refl in omega (arith, e)

-- ---- nothing stands against a plan

pub each_of_start : (P : Function → Type 0) → P old_bridge → P old_device → P old_behind → (f : Function) → Contains start f → P f
each_of_start P a b c f (zero, less, is) = subst P is a
each_of_start P a b c f (suc zero, less, is) = subst P is b
each_of_start P a b c f (suc (suc zero), less, is) = subst P is c
each_of_start P a b c f (suc (suc (suc k)), less, is) = absurd (let no : ⊥ = omega (arith, less) in no)

pub no_window_is_lacking : (slot : Slot) → LacksWindow start slot → ⊥
no_window_is_lacking slot (f, listed, named, io, above) = each_of_start (λ f. IsTrue (list_any (is_io_part f) (bars_and_rom f)) → ⊥) no no no f listed io

each_class_fits : (c : WindowKind) → IsTrue (fits host start pools c)
unfolding items_within doubled_to
each_class_fits IoWindow = refl
each_class_fits MemoryWindow = refl
each_class_fits PrefetchWindow = refl

pub tree_can_be_planned : CanBePlanned host start pools
tree_can_be_planned = record { good = refl; windows = no_window_is_lacking; room = each_class_fits }
