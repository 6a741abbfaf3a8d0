-- What is given beside a system: which addresses the host sends to which root bus, which bridges answer for a VGA adapter
-- behind them or listen to its palette, which have ISA Enable, and which take what no region of their bus claims.
use Rattle.std.specs.Prelude.{ℕ, ◌%◌, ◌^◌, ◌==◌, nat_lt, nat_le, Bool, true, false, ◌&&◌, ◌||◌, if◌then◌else◌, List, [], Option, None, Some}
use Rattle.std.specs.List.{list_any}
use Rattle.pci_spec.specs.Slot.{Slot, same_slot}
use Rattle.pci_spec.specs.System.{Space, Io, Memory, Function, is_bridge, is_space_on}
use Rattle.pci_spec.specs.Decoded.{Range}

-- addresses from first to last, both of them too, that the host sends to one root bus, or to each
pub record HostRange : Type 0 where
  pub root : Option ℕ
  pub first : ℕ
  pub last : ℕ

-- a bridge with legacy parts or a palette part, and whether it decodes 16 bits of their I/O addresses, or 10 of them
pub record LegacyBridge : Type 0 where
  pub slot : Slot
  pub is_wide : Bool

-- A bridge that takes what no region of its bus claims, and the ranges of addresses that none claims. What they are is told
-- in `Unclaimed`.
pub record TakingBridge : Type 0 where
  pub slot : Slot
  pub io : List Range
  pub memory : List Range

-- where no ranges are said of a space, the host sends all of it to each root bus
pub record Given : Type 0 where
  pub io : Option (List HostRange)
  pub memory : Option (List HostRange)
  pub legacy : List LegacyBridge
  -- the bridges with ISA Enable
  pub isa : List Slot
  -- the bridges with palette parts
  pub palette : List LegacyBridge
  -- the bridges that take what no region of their bus claims
  pub unclaimed : List TakingBridge

abbrev pub nothing_given : Given
nothing_given =
    record { io = None; memory = None; legacy = []; isa = []; palette = []; unclaimed = [] }

-- ---- where accesses start

abbrev pub ranges_said : Given → Space → Option (List HostRange)
ranges_said given Io = given.io
ranges_said given Memory = given.memory

-- whether a root bus is the one that is said, or none is
abbrev pub is_for : Option ℕ → ℕ → Bool
is_for None root = true
is_for (Some bus) root = bus == root

-- whether the host sends an address to a root bus by the range
abbrev pub sends : ℕ → ℕ → HostRange → Bool
sends root a r = is_for r.root root && nat_le r.first a && nat_le a r.last

abbrev pub starts_in : Option (List HostRange) → ℕ → ℕ → Bool
starts_in None root a = true
starts_in (Some ranges) root a = list_any (sends root a) ranges

-- whether an access of the host to an address starts on a root bus
abbrev pub starts : Given → Space → ℕ → ℕ → Bool
starts given space root a = starts_in (ranges_said given space) root a

-- ---- legacy parts (Bridge 1.2, 3.2.5.18: VGA Enable and VGA 16-bit Decode)

-- whether a port is one of a VGA adapter
abbrev pub is_vga_port : ℕ → Bool
is_vga_port port = (nat_le 0x3b0 port && nat_le port 0x3bb) || (nat_le 0x3c0 port && nat_le port 0x3df)

-- what is decoded of an I/O address
abbrev pub decoded_port : Bool → ℕ → ℕ
decoded_port is_wide a = if is_wide then a else a % 0x400

-- whether a legacy part has an address: the frame buffer, and ports where all bits above bit 15 are 0
abbrev pub legacy_holds : Bool → Space → ℕ → Bool
legacy_holds is_wide Io a = nat_lt a (2 ^ 16) && is_vga_port (decoded_port is_wide a)
legacy_holds is_wide Memory a = nat_le 0xa0000 a && nat_le a 0xbffff

-- whether an entry is the bridge's, and its part has the address
abbrev pub is_legacy_at : Function → Space → ℕ → LegacyBridge → Bool
is_legacy_at b space a entry = same_slot entry.slot b.slot && legacy_holds entry.is_wide space a

-- whether a legacy part of a bridge claims an address: Command enables it as a window of its space
abbrev pub legacy_claims : Given → Space → ℕ → Function → Bool
legacy_claims given space a b =
    is_bridge b && is_space_on b space && list_any (is_legacy_at b space a) given.legacy

-- ---- palette parts (PCI 3.0, 6.2.2: VGA Palette Snoop; Bridge 1.2, 3.2.5.18: VGA 16-bit Decode)

-- whether a port is one of the palette of a VGA adapter
abbrev pub is_palette_port : ℕ → Bool
is_palette_port port = port == 0x3c6 || (nat_le 0x3c8 port && nat_le port 0x3c9)

-- whether a palette part has an address: ports where all bits above bit 15 are 0
abbrev pub palette_holds : Bool → Space → ℕ → Bool
palette_holds is_wide Io a = nat_lt a (2 ^ 16) && is_palette_port (decoded_port is_wide a)
palette_holds is_wide Memory a = false

-- whether an entry is the bridge's, and its part has the address
abbrev pub is_palette_at : Function → Space → ℕ → LegacyBridge → Bool
is_palette_at b space a entry = same_slot entry.slot b.slot && palette_holds entry.is_wide space a

-- whether a palette part of a bridge claims an address: Command enables it as a window of I/O space
abbrev pub palette_claims : Given → Space → ℕ → Function → Bool
palette_claims given space a b =
    is_bridge b && is_space_on b space && list_any (is_palette_at b space a) given.palette

-- ---- what bridges take as nobody claims it (PCI 3.0, 3.6.1: subtractive decoding)

abbrev pub ranges_of : TakingBridge → Space → List Range
ranges_of entry Io = entry.io
ranges_of entry Memory = entry.memory

-- whether an entry is the bridge's, and one of its ranges has the address
abbrev pub is_taken_at : Function → Space → ℕ → TakingBridge → Bool
is_taken_at b space a entry =
    same_slot entry.slot b.slot
    && list_any (λ r. nat_le r.first a && nat_le a r.last) (ranges_of entry space)

-- whether a bridge takes an address of a space, which Command enables: it claims nothing by that
abbrev pub takes : Given → Space → ℕ → Function → Bool
takes given space a b =
    is_bridge b && is_space_on b space && list_any (is_taken_at b space a) given.unclaimed

-- ---- what ISA Enable takes from windows (Bridge 1.2, 3.2.5.18)

-- whether an I/O address is below 64 KB, and behind the first 256 of its KB
abbrev pub is_isa_port : ℕ → Bool
is_isa_port a = nat_lt a (2 ^ 16) && nat_le 0x100 (a % 0x400)

abbrev pub has_isa : Given → Slot → Bool
has_isa given slot = list_any (λ other. same_slot other slot) given.isa

-- whether no window of the bridge at a slot claims an address of a space, as ISA Enable takes it
abbrev pub is_cut : Given → Space → ℕ → Slot → Bool
is_cut given Io a slot = has_isa given slot && is_isa_port a
is_cut given Memory a slot = false
