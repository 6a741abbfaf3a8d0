-- Bus numbers that are kept free behind a bridge with a hot-plug slot (Bridge 1.2, 3.2.5.4; PCI
-- Express Base 3.0, 7.8.2 and 7.8.9; SHPC 1.0).
use Rattle.std.specs.Prelude.{◌≡◌, ℕ, zero, suc, ◌+◌, ◌==◌, nat_lt, nat_le, Bool, false, ◌&&◌, ◌||◌, if◌then◌else◌, List}
use Rattle.pci_spec.specs.Number.{byte_at, has_bit}
use Rattle.pci_spec.specs.Capability.{pointer_at, pointer, capability_id}
use Rattle.pci_number.specs.Numbered.{with_numbers}

-- the Capability IDs of a Standard Hot-Plug Controller and of PCI Express (PCI 3.0, appendix H)
abbrev pub HOT_PLUG_CONTROLLER : ℕ
HOT_PLUG_CONTROLLER = 0x0c

abbrev pub EXPRESS : ℕ
EXPRESS = 0x10

-- where the upper byte of PCI Express Capabilities, and Slot Capabilities, stand in a PCI Express
-- capability
abbrev pub EXPRESS_CAPABILITIES_HIGH : ℕ
EXPRESS_CAPABILITIES_HIGH = 3

abbrev pub SLOT_CAPABILITIES : ℕ
SLOT_CAPABILITIES = 0x14

-- The most places that a list can have without coming to one twice: each fourth byte behind the
-- header.
abbrev pub MOST_PLACES : ℕ
MOST_PLACES = 48

-- whether a capability is that of a hot-plug slot: a hot-plug controller, or a PCI Express port
-- with a slot (Slot Implemented, bit 8) that is Hot-Plug Capable (bit 6), as its Slot Capabilities
-- say where they begin within the 256 bytes
abbrev pub is_hot_plug : List ℕ → ℕ → Bool
is_hot_plug image place =
    capability_id image place == HOT_PLUG_CONTROLLER
    || (capability_id image place == EXPRESS && nat_lt (place + SLOT_CAPABILITIES) 256
    && has_bit (byte_at image (place + EXPRESS_CAPABILITIES_HIGH)) 0
    && has_bit (byte_at image (place + SLOT_CAPABILITIES)) 6)

-- Whether one of so many places of a capabilities list is, from a place on. A place inside the
-- header ends it.
abbrev pub leads_to_slot : List ℕ → ℕ → ℕ → Bool
leads_to_slot image zero place = false
leads_to_slot image (suc count) place =
    nat_le 0x40 place
    && (is_hot_plug image place || leads_to_slot image count (pointer_at image (place + 1)))

abbrev pub has_hot_plug_slot : List ℕ → Bool
has_hot_plug_slot image = leads_to_slot image MOST_PLACES (pointer image 0)

-- How much room there is behind a bridge doesn't hang on its bus numbers.
abbrev pub IsSteady : (List ℕ → ℕ) → Type 0
IsSteady room =
    (image : List ℕ) (primary secondary subordinate : ℕ)
    → room (with_numbers primary secondary subordinate image) ≡ room image

-- the room behind a bridge, where so many buses are kept free behind each with a hot-plug slot
abbrev pub spare_room : ℕ → List ℕ → ℕ
spare_room spare image = if has_hot_plug_slot image then spare else 0
