-- The line of a fault of the profile.
use Rattle.std.proofs.Common.{◌≡◌, ◌∷◌, true, false, refl, arith, codes}
use Rattle.json.specs.Json.{string}
use Rattle.pci_spec.specs.Slot.{Slot}
use Rattle.pci_spec.specs.Text.{slot_text}
use Rattle.pci_spec.specs.Line.{fault_name, fault_text}
use Rattle.pci_spec.specs.Fault.{Fault, ProfileFault, PaletteSnoop, VgaEnable, IsaEnable, Subtractive, InReset, PowerState, OfProfile, fault_number}
use Rattle.pci_json.specs.Lines.{behind_words, content_of, is_inner}
use Rattle.pci_json.specs.Members.{json_count}
use Rattle.pci_json.specs.Faults.{fault_members, slot_members}
use Rattle.pci_json.specs.Documents.{is_fault}
use Rattle.pci_json.proofs.Words.{lacks, slot_lacks}

-- its members begin with its number and its name, a slot stands behind them, and it is a fault's line
pub record IsSlotLine (fault : Fault) (slot : Slot) : Type 0 where
  pub members : fault_members (fault_text fault)
      ≡ (codes "number", json_count (fault_number fault)) ∷ (codes "name", string (fault_name fault)) ∷ (codes "text", string (fault_text fault)) ∷ slot_members (fault_text fault)
  pub rest : behind_words 2 (fault_text fault) ≡ slot_text slot
  pub one_line : lacks 10 (fault_text fault) ≡ true
  pub is : is_fault (fault_text fault) ≡ true
  pub content : content_of (fault_text fault) ≡ fault_text fault
  pub outer : is_inner (fault_text fault) ≡ false

pub profile_line : (fault : ProfileFault) (slot : Slot) → IsSlotLine (OfProfile fault slot) slot
unfolding behind_words
profile_line PaletteSnoop slot = record { members = refl; rest = refl; one_line = slot_lacks 10 slot (omega arith); is = refl; content = refl; outer = refl }
profile_line VgaEnable slot = record { members = refl; rest = refl; one_line = slot_lacks 10 slot (omega arith); is = refl; content = refl; outer = refl }
profile_line IsaEnable slot = record { members = refl; rest = refl; one_line = slot_lacks 10 slot (omega arith); is = refl; content = refl; outer = refl }
profile_line Subtractive slot = record { members = refl; rest = refl; one_line = slot_lacks 10 slot (omega arith); is = refl; content = refl; outer = refl }
profile_line InReset slot = record { members = refl; rest = refl; one_line = slot_lacks 10 slot (omega arith); is = refl; content = refl; outer = refl }
profile_line PowerState slot = record { members = refl; rest = refl; one_line = slot_lacks 10 slot (omega arith); is = refl; content = refl; outer = refl }
