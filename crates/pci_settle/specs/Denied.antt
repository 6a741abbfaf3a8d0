-- Settling with room behind slots: what it comes to, and the windows whose spares have no room, by their slots and registers.
use Rattle.std.specs.Prelude.{◌≡◌, ◌⊎◌, ℕ, IsTrue, List, map, length}
use Rattle.pci_spec.specs.Slot.{Slot}
use Rattle.pci_spec.specs.Text.{Block}
use Rattle.pci_spec.specs.Machine.{Write}
use Rattle.pci_spec.specs.System.{register_of}
use Rattle.settle_spec.specs.Lists.{Request}
use Rattle.settle_spec.specs.Parts.{FunctionPart}
use Rattle.settle_spec.specs.Writes.{Settled}
use Rattle.settle_spec.specs.Keeping.Writes.{closings, settle_keeping}
use Rattle.settle_spec.specs.Growing.{settle_growing}
use Rattle.settle_spec.specs.Sparing.{without_slots, is_settled, placing_request, granted_beside}
use Rattle.pci_tree.specs.Admission.{Admission}
use Rattle.pci_place.specs.Above.{system_in}
use Rattle.pci_settle.specs.declared.settle.Denied.{Denied}
use Rattle.pci_settle.specs.Dumps.{IsSettledDump}
use Rattle.pci_settle.specs.Endings.{HasLarge}

-- a part by its slot and the offset of its register
abbrev pub slot_and_offset_of : FunctionPart → Slot × ℕ
slot_and_offset_of r = (r.function.slot, register_of r.function r.part)

-- as the code has it
abbrev pub denied_value : Denied → Slot × ℕ
denied_value d = (d.slot, d.register)

-- what is asked of new windows: where one would have 2^64 addresses or more with its spare, none has a spare
abbrev pub IsPlacingRequest : Admission → Request → Request → Type 0
IsPlacingRequest a q p =
    (p ≡ placing_request q (system_in a)) ⊎ (HasLarge a q × (p ≡ without_slots q))

-- all is settled beside what is kept then: the dump, the writes, how many of them close, and the spares that are denied
pub record IsSpared (q : Request) (a : Admission) (dump : List Block) (writes : List Write)
    (count : ℕ) (denied : List (Slot × ℕ)) : Type 0 where
  pub placing : Request
  pub placing_is : IsPlacingRequest a q placing
  -- it is settled without slots, too
  pub without : IsTrue (is_settled (settle_growing (without_slots q) (system_in a)))
  pub dump_is : IsSettledDump placing (granted_beside q placing (system_in a)).kept a dump
  pub ends : settle_keeping placing (system_in a) (granted_beside q placing (system_in a)).kept
      ≡ Settled writes
  pub closing : count
      ≡ length (closings placing (system_in a) (granted_beside q placing (system_in a)).kept (system_in a))
  pub denied_are : denied ≡ map slot_and_offset_of (granted_beside q placing (system_in a)).denied
