-- What the code knows of a part that can stand, and what there is to know.
use Rattle.std.specs.Prelude.{◌≡◌, ℕ, ◌<◌, ◌≤◌, Bool, List, map, length}
use Rattle.std.specs.List.{All, list_any}
use Rattle.pci_spec.specs.Slot.{Slot, same_slot}
use Rattle.pci_spec.specs.Window.{WindowKind}
use Rattle.pci_spec.specs.Decoded.{Range}
use Rattle.pci_spec.specs.System.{System, Space, is_enabled, space_of}
use Rattle.plan_spec.specs.Planning.Layout.{range_of}
use Rattle.settle_spec.specs.Lists.{Request}
use Rattle.settle_spec.specs.Parts.{FunctionPart, system_parts, class_in}
use Rattle.settle_laws.specs.Order.{level}
use Rattle.pci_base.specs.Ranges.{decoded_range_of}
use Rattle.pci_base.specs.Space as code
use Rattle.pci_base.specs.WindowKinds.{kind_value}
use Rattle.pci_place.specs.Items.{function_in}
use Rattle.pci_kept.specs.declared.region.Region.{Region as CodeRegion}
use Rattle.pci_kept.specs.declared.rules.Rules.{Rules}
use Rattle.pci_first_fit.specs.Kept.{spec_part}
use Rattle.pci_first_fit.specs.Slots.{Demand}

-- what is asked for: functions that may not be written, and whether all is placed anew
abbrev pub asked : List ℕ → Demand → List Slot → Bool → Request
asked roots d fixed anew = record {
  roots = roots;
  lists = d.lists;
  fixed = fixed;
  anew = anew;
  slots = d.slots;
  spares = d.spares;
  told = d.told;
}

abbrev pub asked_by_rules : List ℕ → Demand → Rules → Request
asked_by_rules roots d rules = asked roots d rules.fixed.now rules.anew

pub record Known : Type 0 where
  pub region : FunctionPart
  pub bus : ℕ
  pub level : ℕ
  pub fixed : Bool
  pub on : Bool
  pub space : Space
  pub class : WindowKind
  pub range : Range

abbrev pub region_value : System → CodeRegion → FunctionPart
region_value s r = record { function = function_in s r.function; part = spec_part r.part }

abbrev pub known : System → CodeRegion → Known
known s r = record {
  region = region_value s r;
  bus = r.bus;
  level = r.level;
  fixed = r.fixed;
  on = r.on;
  space = code.space_of r.space;
  class = kind_value r.class;
  range = decoded_range_of r.range;
}

abbrev pub known_of : Request → System → FunctionPart → Known
known_of q s r = record {
  region = r;
  bus = r.function.slot.bus;
  level = level q r.function.slot.bus;
  fixed = list_any (same_slot r.function.slot) q.fixed;
  on = is_enabled r.function r.part;
  space = space_of r.function r.part;
  class = class_in q s r.function r.part;
  range = range_of r.function r.part;
}

-- a part has an address
abbrev pub HasAddress : CodeRegion → Type 0
HasAddress r = r.range.first ≤ r.range.last

-- the parts of a system, in the order of slots and registers
pub record AreParts (q : Request) (s : System) (rs : List CodeRegion) : Type 0 where
  pub same : map (known s) rs ≡ map (known_of q s) (system_parts q s)
  pub within : All (λ r. r.function < length s) rs
  pub forward : All HasAddress rs
