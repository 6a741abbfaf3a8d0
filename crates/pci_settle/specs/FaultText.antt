-- How it is printed that nothing is settled.
use Rattle.std.specs.Prelude.{ℕ, false, List, ◌++◌, codes}
use Rattle.std.specs.Fmt.{digits, decimal}
use Rattle.pci_spec.specs.Slot.{Slot}
use Rattle.pci_spec.specs.Window.{WindowKind, window_register}
use Rattle.pci_spec.specs.Line.{field, slot_field, region_field, window_name}
use Rattle.pci_base.specs.WindowKinds.{kind_value}
use Rattle.pci_settle.specs.declared.lack.SettleFault.{SettleFault}
use Rattle.pci_settle.specs.declared.lack.SettleFault.TheVariants.{BadLists, Assumed, NoRoom, TooLarge, Fixed, Told}

-- a number in hex digits, without a zero in front
abbrev pub hex_text : ℕ → List ℕ
hex_text n = digits 16 false n

-- a size and an alignment
abbrev pub sizes_text : ℕ → ℕ → List ℕ
sizes_text size alignment = hex_text size ++ field (hex_text alignment)

-- a part: its class, its slot and its register
abbrev pub class_part_text : WindowKind → Slot → ℕ → List ℕ
class_part_text class slot register = window_name class ++ region_field slot register

-- a number, a name and its fields: of a part without a place its size and its alignment too
abbrev pub settle_fault_text : SettleFault → List ℕ
settle_fault_text BadLists = codes "70 BadPools"
settle_fault_text (Assumed slot reg) = codes "76 Assumed" ++ region_field slot reg
settle_fault_text (NoRoom lack) =
    codes "72 NoRoom" ++ field (class_part_text (kind_value lack.class) lack.slot lack.register)
    ++ field (sizes_text lack.size lack.alignment)
settle_fault_text (TooLarge class slot) =
    codes "72 NoRoom"
    ++ field (class_part_text (kind_value class) slot (window_register (kind_value class)))
settle_fault_text (Fixed slot reg) = codes "74 Fixed" ++ region_field slot reg
settle_fault_text (Told slot line) = codes "75 Told" ++ slot_field slot ++ codes " +" ++ decimal line
