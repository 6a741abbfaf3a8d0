-- The bridges with a hot-plug slot behind which room is wanted, and how much of it.
use Rattle.std.specs.Prelude.{ℕ, ◌==◌, min, Bool, not, ◌&&◌, if◌then◌else◌, List, [], map, Option, None, Some}
use Rattle.std.specs.List.{filter}
use Rattle.pci_number.specs.SpareBuses.{has_hot_plug_slot}
use Rattle.pci_spec.specs.Slot.{Slot}
use Rattle.pci_spec.specs.Text.{Block}
use Rattle.settle_spec.specs.Lists.{Spares}
use Rattle.pci_base.specs.declared.window_kind.ByKind.{ByKind}
use Rattle.pci_first_fit.specs.Slots.{most_wanted}

-- whether room is wanted at all
abbrev pub is_room_wanted : ByKind ℕ → Bool
is_room_wanted spares = not (spares.io == 0 && spares.memory == 0 && spares.prefetchable == 0)

-- the functions whose registers say that they have such a slot; settling asks those of them alone that are bridges
abbrev pub slots_shown : List Block → List Slot
slots_shown dump =
    map (λ (b : Block). b.slot) (filter (λ (b : Block). has_hot_plug_slot b.image) dump)

-- the bridges that are named, else those that the dump shows
abbrev pub slots_named : Option (List Slot) → List Block → List Slot
slots_named None dump = slots_shown dump
slots_named (Some slots) dump = slots

-- none where no room is wanted
abbrev pub slots_for : ByKind ℕ → Option (List Slot) → List Block → List Slot
slots_for spares named dump = if is_room_wanted spares then slots_named named dump else []

-- how much of it as settling has it: a greater number counts as the most that can be wanted
abbrev pub spares_said : ByKind ℕ → Spares
spares_said spares = record {
  io = min spares.io most_wanted;
  memory = min spares.memory most_wanted;
  prefetch = min spares.prefetchable most_wanted;
}
