-- Settling with room behind slots, as the code goes about it.
use Rattle.std.specs.Prelude.{◌≡◌, ◌⊎◌, ℕ, Bool, false, ◌&&◌, List, map}
use Rattle.pci_spec.specs.Slot.{Slot}
use Rattle.pci_spec.specs.Text.{Block}
use Rattle.pci_spec.specs.Machine.{Write}
use Rattle.pci_spec.specs.System.{System}
use Rattle.settle_spec.specs.Lists.{Request}
use Rattle.settle_spec.specs.Items.{spare_of}
use Rattle.settle_spec.specs.Kept.{Kept as Keeping}
use Rattle.settle_spec.specs.Growing.{settle_growing, finally_kept}
use Rattle.settle_spec.specs.Wishes.{granted}
use Rattle.settle_spec.specs.Sparing.{is_settled, keep_alike}
use Rattle.pci_tree.specs.Admission.{Admission}
use Rattle.pci_place.specs.Above.{system_in}
use Rattle.pci_first_fit.specs.declared.kept.Kept.{Kept}
use Rattle.pci_first_fit.specs.Slots.{Demand, demand_value}
use Rattle.pci_settle.specs.declared.sparing.Asked.{Asked}
use Rattle.pci_settle.specs.Requests.{request}
use Rattle.pci_settle.specs.Wishes.{behind_slots}
use Rattle.pci_settle.specs.Told.{IsTableOf}
use Rattle.pci_settle.specs.Alike.{PassesPartsOnly}
use Rattle.pci_settle.specs.Dumps.{IsSettledByWrites}
use Rattle.pci_settle.specs.Denied.{slot_and_offset_of}
use Rattle.pci_settle.specs.Endings.{HasLarge}

-- the same with these slots
abbrev pub with_slots : List Slot → Demand → Demand
with_slots slots d = record d { slots = slots }

-- what is asked for below these roots
abbrev pub asked_value : List ℕ → Asked → Request
asked_value roots o = request roots (demand_value o.lists) o.rules.fixed.now o.rules.anew

-- wishes are granted beside what is kept as new windows are placed for these slots: the dump, the writes, and what is denied
pub record IsWishedFor (q : Request) (slots : List Slot) (keep : Keeping) (a : Admission)
    (dump : List Block) (writes : List Write) (count : ℕ) (denied : List (Slot × ℕ)) : Type 0 where
  pub by : IsSettledByWrites (behind_slots q slots) (granted (behind_slots q slots) (system_in a) (spare_of q) keep).kept a dump writes count
  pub denied_are : denied
      ≡ map slot_and_offset_of (granted (behind_slots q slots) (system_in a) (spare_of q) keep).denied

-- new windows can have spares beside what stays without slots
abbrev pub can_have_spares : Request → System → Keeping → Bool
can_have_spares q s keep =
    is_settled (settle_growing q s) && keep_alike q s keep (finally_kept q s)

-- whether they have, where a table tells what stays without slots: not where some window would have 2^64 addresses or more
abbrev pub HaveSpares : Admission → Request → List Kept → Bool → Type 0
HaveSpares a q staying have =
    (keep : Keeping) → IsTableOf (system_in a) keep.stays staying → PassesPartsOnly q (system_in a) keep.stays
    → (have ≡ can_have_spares q (system_in a) keep) ⊎ (HasLarge a q × (have ≡ false))
