-- What has no place, as the code names it.
use Rattle.std.specs.Prelude.{◌≡◌, ℕ, ◌+◌, ◌<◌, Bool, true, false, length, Some}
use Rattle.std.specs.Option.{is_some}
use Rattle.pci_spec.specs.Header.{bar_register, rom_place}
use Rattle.pci_spec.specs.Window.{WindowKind, window_register}
use Rattle.pci_spec.specs.System.{System}
use Rattle.pci_spec.specs.Slot.{Slot}
use Rattle.settle_spec.specs.Writes.{Settling, NoRoom, NotKept, or_lack}
use Rattle.pci_base.specs.declared.window_kind.WindowKind.{WindowKind as CodeKind}
use Rattle.pci_base.specs.WindowKinds.{kind_value}
use Rattle.pci_function.specs.declared.record.Record.{Record}
use Rattle.pci_place.specs.Items.{function_in}
use Rattle.pci_first_fit.specs.declared.item.Part.{Part as CodePart}
use Rattle.pci_first_fit.specs.declared.item.Part.TheVariants as parts
use Rattle.pci_settle_places.specs.declared.candidate.Candidate.{Candidate}
use Rattle.pci_settle_places.specs.declared.anew.Unplaced.{Unplaced}
use Rattle.pci_settle_places.specs.declared.anew.Unplaced.TheVariants as unplaced
use Rattle.pci_settle_places.specs.Candidates.{candidate_value}
use Rattle.pci_settle_places.specs.Places.{IsPlacesPart}
use Rattle.pci_kept.specs.declared.windows.TooLarge.{TooLarge}
use Rattle.pci_settle.specs.declared.lack.Lack.{Lack}
use Rattle.pci_settle.specs.declared.lack.SettleFault.{SettleFault}
use Rattle.pci_settle.specs.declared.lack.SettleFault.TheVariants as fault

abbrev pub settle_fault_number : SettleFault → ℕ
settle_fault_number fault.BadLists = 70
settle_fault_number (fault.Assumed slot reg) = 76
settle_fault_number (fault.NoRoom lack) = 72
settle_fault_number (fault.TooLarge class slot) = 72
settle_fault_number (fault.Fixed slot reg) = 74
settle_fault_number (fault.Told slot line) = 75

-- a new window is too large
abbrev pub is_too_large : SettleFault → Bool
is_too_large (fault.TooLarge class slot) = true
is_too_large other = false

abbrev pub part_register : Bool → WindowKind → CodePart → ℕ
part_register bridge c (parts.Bar n) = bar_register n
part_register bridge c parts.Rom = rom_place bridge
part_register bridge c parts.Window = window_register c

abbrev pub lack_by : Record → Candidate → Lack
lack_by r x = record {
  class = x.class;
  slot = r.slot;
  register = part_register (is_some r.bridge) (kind_value x.class) x.item.part;
  size = x.item.extent.size;
  alignment = x.item.extent.alignment;
}

-- it is of a function of the system
abbrev pub IsOfSystem : System → Unplaced → Type 0
IsOfSystem s (unplaced.Lacks x) = (x.item.function < length s) × IsPlacesPart x.item.part
IsOfSystem s (unplaced.TooLarge class k) = k < length s

-- the class of what can't be placed
abbrev pub unplaced_class : Unplaced → CodeKind
unplaced_class (unplaced.Lacks x) = x.class
unplaced_class (unplaced.TooLarge class k) = class

-- a bridge whose new window is too large
abbrev pub too_large : TooLarge → Unplaced
too_large w = unplaced.TooLarge w.class w.function

-- as settling ends where this has no place
abbrev pub no_room : Lack → Settling
no_room l = NoRoom (kind_value l.class) l.slot l.register l.size l.alignment

-- as settling ends where the range of a line isn't kept: its register is behind all of its slot
abbrev pub not_kept : Slot → ℕ → Settling
not_kept slot line = NotKept slot (255 + line)

-- the fault names just that
abbrev pub IsSettleFaultOf : System → Unplaced → SettleFault → Type 0
IsSettleFaultOf s u fault.BadLists = ⊥
IsSettleFaultOf s u (fault.Assumed slot reg) = ⊥
IsSettleFaultOf s u (fault.Fixed slot reg) = ⊥
IsSettleFaultOf s u (fault.Told slot line) = ⊥
IsSettleFaultOf s (unplaced.Lacks x) (fault.NoRoom lack) =
    (other : Settling) → or_lack (Some (candidate_value s x)) other ≡ no_room lack
IsSettleFaultOf s (unplaced.Lacks x) (fault.TooLarge class slot) = ⊥
IsSettleFaultOf s (unplaced.TooLarge class k) (fault.NoRoom lack) = ⊥
IsSettleFaultOf s (unplaced.TooLarge class k) (fault.TooLarge named slot) =
    (named ≡ class) × (slot ≡ (function_in s k).slot)
