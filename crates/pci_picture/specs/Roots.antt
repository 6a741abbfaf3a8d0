-- From which root bus a bus is reached, and in which section a region out of place is drawn.
use Rattle.std.specs.Prelude.{◌≡◌, ◌<◌, ℕ, zero, suc, Bool, false, ◌==◌, IsTrue, Option, Some, None, unwrap_or, List, [], ◌∷◌, map, slice_index, slice_index_or, if◌then◌else◌}
use Rattle.std.specs.List.{All, filter}
use Rattle.pci_picture.specs.Headings.{number_of_section}
use Rattle.pci_picture.specs.Slots.{bus_of_line, bus_of_slot, is_io_line}
use Rattle.pci_picture.specs.Spots.{Section}
use Rattle.pci_picture.specs.declared.function.Buses.{Buses}
use Rattle.pci_picture.specs.declared.function.Function.{Function}
use Rattle.pci_picture.specs.declared.plan.Member.{Member}

-- a function that is listed
pub record Listed : Type 0 where
  -- the number of its slot, and the word of it
  pub slot : ℕ
  pub word : List ℕ
  -- the words of its identifiers and of its class
  pub vendor : List ℕ
  pub device : List ℕ
  pub class : List ℕ
  -- whether Command enables I/O or memory space
  pub is_on : Bool
  -- the buses of a bridge
  pub buses : Option Buses
  -- its title, or nothing
  pub title : List ℕ

abbrev pub secondary_of : Option Buses → Option ℕ
secondary_of None = None
secondary_of (Some buses) = Some buses.secondary

abbrev pub is_bus : ℕ → Option ℕ → Bool
is_bus bus None = false
is_bus bus (Some number) = number == bus

-- a function is a bridge with this secondary bus
abbrev pub is_bridge_to : ℕ → Listed → Bool
is_bridge_to bus function = is_bus bus (secondary_of function.buses)

abbrev pub first_bus : List Listed → Option ℕ
first_bus [] = None
first_bus (function ∷ functions) = Some (bus_of_slot function.slot)

-- the bus of the first bridge listed with this secondary bus
abbrev pub bus_of_bridge : List Listed → ℕ → Option ℕ
bus_of_bridge functions bus = first_bus (filter (is_bridge_to bus) functions)

-- that is the bus above a bus; bus 0 has none
abbrev pub bus_above : List Listed → ℕ → Option ℕ
bus_above functions bus = if bus == 0 then None else bus_of_bridge functions bus

-- up some steps from a bus, where a root bus, which has no bus above it, stays
unfoldable pub go_up : (ℕ → Option ℕ) → ℕ → ℕ → ℕ
go_up above zero bus = bus
go_up above (suc steps) bus = go_up above steps (unwrap_or (above bus) bus)

-- the root bus from which a bus is reached: there are 256 buses, so no way up is longer
unfoldable pub root_bus_of : List Listed → ℕ → ℕ
root_bus_of functions bus = go_up (bus_above functions) 256 bus

-- the number of the section of a region out of place: that of the root from which its bus is reached, and of its space
abbrev pub section_by_root : List Listed → List ℕ → ℕ
section_by_root functions line = number_of_section (root_bus_of functions (bus_of_line line)) (is_io_line line)

-- the regions out of place of a section are of its root and of its space
abbrev pub AreLostByRoot : List Listed → Section → Type 0
AreLostByRoot functions section = All (λ line. section.number ≡ section_by_root functions line) section.lost

-- a member out of place is in the section of its root and of its space
abbrev pub IsLostByRoot : List Listed → Member → Type 0
IsLostByRoot functions member = IsTrue member.is_lost → member.section ≡ section_by_root functions member.region.line.now

-- ---- the functions of a board

abbrev pub listed_function : Function → Listed
listed_function function = record {
  slot = function.number;
  word = function.slot.now;
  vendor = function.vendor.now;
  device = function.device.now;
  class = function.class.now;
  is_on = function.is_on;
  buses = function.buses;
  title = function.title.now;
}

abbrev pub listed_functions : List Function → List Listed
listed_functions functions = map listed_function functions

-- at each bus the one of the first bridge there
abbrev pub AreBridges : List Listed → List (Option ℕ) → Type 0
AreBridges functions table = (bus : ℕ) → bus < 256 → slice_index_or table bus None ≡ bus_of_bridge functions bus

-- at each bus the one above it
abbrev pub AreBusesAbove : List Listed → List (Option ℕ) → Type 0
AreBusesAbove functions table = (bus : ℕ) → bus < 256 → slice_index_or table bus None ≡ bus_above functions bus

-- at each bus its root
abbrev pub AreRoots : List Listed → List ℕ → Type 0
AreRoots functions table = (bus : ℕ) → bus < 256 → slice_index table bus ≡ root_bus_of functions bus
