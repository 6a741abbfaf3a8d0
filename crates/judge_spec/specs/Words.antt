-- Which bridges have legacy parts or palette parts, which have ISA Enable, and which take what nobody claims, by their
-- registers and a user's words (PCI 3.0, 6.2.2 and appendix D; Bridge 1.2, 3.2.5.18).
use Rattle.std.specs.Prelude.{ℕ, ◌+◌, ◌*◌, ◌/◌, ◌%◌, ◌==◌, Bool, true, ◌&&◌, not, if◌then◌else◌, List, Option, None, Some, map, set}
use Rattle.std.specs.List.{filter, list_any}
use Rattle.pci_spec.specs.Number.{byte_at, has_bit}
use Rattle.pci_spec.specs.Registers.{BRIDGE_CONTROL, COMMAND, INTERFACE, ISA_ENABLE, VGA_ENABLE, PALETTE_SNOOP}
use Rattle.pci_spec.specs.Header.{bridge_control, command}
use Rattle.pci_spec.specs.Slot.{Slot, same_slot}
use Rattle.pci_spec.specs.System.{System, Function, is_bridge}
use Rattle.pci_spec.specs.Fault.{controls_bridge, is_subtractive_bridge}
use Rattle.judge_spec.specs.Given.{LegacyBridge}

pub data VgaWord : Type 0 where
  -- a bridge decodes 16 bits where its Bridge Control says so
  Vga : VgaWord
  -- each bridge decodes 16 bits
  Vga16 : VgaWord

-- VGA 16-bit Decode, of Bridge Control
abbrev pub VGA_16_BIT_DECODE : ℕ
VGA_16_BIT_DECODE = 4

abbrev pub is_wide_by : VgaWord → Bool → Bool
is_wide_by Vga says = says
is_wide_by Vga16 says = true

abbrev pub legacy_bridge : VgaWord → Function → LegacyBridge
legacy_bridge word f = record {
  slot = f.slot;
  is_wide = is_wide_by word (has_bit (bridge_control f.image) VGA_16_BIT_DECODE);
}

-- whether VGA Enable of a bridge is set
abbrev pub has_legacy : Function → Bool
has_legacy f = controls_bridge f.image VGA_ENABLE

-- the bridges with legacy parts, by slot
abbrev pub legacy_bridges : VgaWord → System → List LegacyBridge
legacy_bridges word s = map (legacy_bridge word) (filter has_legacy s)

-- whether ISA Enable of a bridge is set
abbrev pub has_isa_enable : Function → Bool
has_isa_enable f = controls_bridge f.image ISA_ENABLE

-- the bridges with ISA Enable, by slot
abbrev pub isa_bridges : System → List Slot
isa_bridges s = map (λ f. f.slot) (filter has_isa_enable s)

-- whether a bridge listens to writes of the palette: VGA Palette Snoop of its Command is set
abbrev pub has_palette : Function → Bool
has_palette f = is_bridge f && has_bit (command f.image) PALETTE_SNOOP

-- by which word a palette part decodes: as Bridge Control says, where there is none
abbrev pub palette_word : Option VgaWord → VgaWord
palette_word None = Vga
palette_word (Some word) = word

-- the bridges with palette parts, by slot
abbrev pub palette_bridges : Option VgaWord → System → List LegacyBridge
palette_bridges word s = map (legacy_bridge (palette_word word)) (filter has_palette s)

-- whether another function of a bridge's bus is one of the class of subtractive decoding
abbrev pub is_rival : Function → Function → Bool
is_rival b f =
    is_subtractive_bridge f.image && f.slot.bus == b.slot.bus && not (same_slot f.slot b.slot)

-- whether a bridge is the only one of this class on its bus
abbrev pub is_alone : System → Function → Bool
is_alone s b = is_subtractive_bridge b.image && not (list_any (is_rival b) s)

-- the bridges that are alone so, by slot: they take what no region of their bus claims
abbrev pub taking_bridges : System → List Slot
taking_bridges s = map (λ f. f.slot) (filter (is_alone s) s)

-- ---- the system beside which they are given

-- an image with VGA Enable cleared, where it is a bridge's
abbrev pub without_vga : List ℕ → List ℕ
without_vga image =
    if controls_bridge image VGA_ENABLE
    then set image BRIDGE_CONTROL
    (byte_at image BRIDGE_CONTROL / 16 * 16 + byte_at image BRIDGE_CONTROL % 8)
    else image

abbrev pub vga_aside : Function → Function
vga_aside f = record { slot = f.slot; image = without_vga f.image; probe = f.probe }

-- the functions without 52: what it stands for is given
abbrev pub taken_by_vga : System → System
taken_by_vga s = map vga_aside s

-- an image with ISA Enable cleared, where it is a bridge's
abbrev pub without_isa : List ℕ → List ℕ
without_isa image =
    if controls_bridge image ISA_ENABLE
    then set image BRIDGE_CONTROL
    (byte_at image BRIDGE_CONTROL / 8 * 8 + byte_at image BRIDGE_CONTROL % 4)
    else image

abbrev pub isa_aside : Function → Function
isa_aside f = record { slot = f.slot; image = without_isa f.image; probe = f.probe }

-- the functions without 53: what it stands for is given
abbrev pub taken_by_isa : System → System
taken_by_isa s = map isa_aside s

-- an image with VGA Palette Snoop cleared, whatever its header is
abbrev pub without_snoop : List ℕ → List ℕ
without_snoop image =
    set image COMMAND (byte_at image COMMAND / 64 * 64 + byte_at image COMMAND % 32)

abbrev pub snoop_aside : Function → Function
snoop_aside f = record { slot = f.slot; image = without_snoop f.image; probe = f.probe }

-- the functions without 51: a device answers no more for it, and what it stands for of bridges is given
abbrev pub taken_by_snoop : System → System
taken_by_snoop s = map snoop_aside s

-- a bridge that is alone of its class on its bus, as one that decodes its windows alone
abbrev pub unclaimed_aside : System → Function → Function
unclaimed_aside s f =
    if is_alone s f then record { slot = f.slot; image = set f.image INTERFACE 0; probe = f.probe }
    else f

-- the functions without the 54 of such bridges: what it stands for is given
abbrev pub taken_by_unclaimed : System → System
taken_by_unclaimed s = map (unclaimed_aside s) s
