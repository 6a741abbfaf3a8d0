-- How a function is taken by a user's words: as one with another image, so that all that is said of systems is said of
-- what was taken.
use Rattle.std.specs.Prelude.{◌≡◌, ◌⊎◌, ℕ, ◌<◌, ◌/◌, ◌==◌, nat_lt, nat_le, Bool, false, ◌&&◌, ◌||◌, not, if◌then◌else◌, IsTrue, List, [], ◌∷◌, map, Option, None, Some, is_some}
use Rattle.std.specs.List.{AllZip, list_any, filter}
use Rattle.pci_spec.specs.Number.{byte_at, has_bit}
use Rattle.pci_spec.specs.Slot.{Slot}
use Rattle.pci_spec.specs.Registers.{INTERFACE, SECONDARY_BUS_RESET}
use Rattle.pci_spec.specs.Header.{class_code, layout}
use Rattle.pci_spec.specs.System.{Function, System, is_bridge}
use Rattle.pci_spec.specs.Bus.{is_behind}
use Rattle.pci_spec.specs.Decoded.{Bridge, DecodedBar, DecodedRom, DecodedWindow, DecodedWindows, Record, record_of}
use Rattle.pci_spec.specs.Fault.{Fault, IsIn, IsNotInD0, controls_bridge, is_subtractive_bridge}
use Rattle.pci_spec.specs.Order.{Phase, Profile, Place, phase_key, phase_of}
use Rattle.judge_spec.specs.Words.{has_legacy, has_palette, is_alone, isa_aside, snoop_aside, taken_by_unclaimed, vga_aside}
use Rattle.judge_spec.specs.ModelWords.{Words}
use Rattle.judge_spec.specs.Bytes.{as_bare_device, as_device, device_read_backs, out_of_reset, positive, switched_off, without_bars, without_registers}
use Rattle.judge_spec.specs.Windows.{windows_as_shown}

-- nothing is wrong with the function by itself that is looked for before a phase
abbrev pub HasNoOwnFaultBefore : Phase → Function → Type 0
HasNoOwnFaultBefore phase f =
    (fault : Fault) → phase_of fault < phase_key phase → IsIn [] (f ∷ []) fault → ⊥

-- whether a function is listed on a bus behind a bridge
abbrev pub is_anyone_behind : List Slot → Function → Bool
is_anyone_behind slots b = list_any (λ slot. is_behind b slot.bus) slots

-- a function with another image
abbrev pub function_with_image : Function → List ℕ → Function
function_with_image f image = record { slot = f.slot; image = image; probe = f.probe }

-- ---- windows

-- a bridge whose windows are those that they show, where that counts
abbrev pub windows_aside : Words → Function → Function
windows_aside w f = if w.windows && is_bridge f then windows_as_shown f else f

-- ---- vga, isa, snoop

-- a bridge without VGA Enable, where its legacy part is given beside the system (Bridge 1.2, 3.2.5.18)
abbrev pub vga_aside_by : Words → Function → Function
vga_aside_by w f = if is_some w.vga then vga_aside f else f

-- one without ISA Enable, where the bridges that have it are given beside the system (Bridge 1.2, 3.2.5.18)
abbrev pub isa_aside_by : Words → Function → Function
isa_aside_by w f = if w.isa then isa_aside f else f

-- a function without VGA Palette Snoop, where the bridges that have it are given beside the system (PCI 3.0, 6.2.2)
abbrev pub snoop_aside_by : Words → Function → Function
snoop_aside_by w f = if w.snoop then snoop_aside f else f

-- what is left aside before anything is asked of a function: the read backs of windows, VGA Enable, ISA Enable and VGA
-- Palette Snoop
abbrev pub first_aside : Words → Function → Function
first_aside w f = snoop_aside_by w (isa_aside_by w (vga_aside_by w (windows_aside w f)))

-- which parts with fixed addresses a function has
pub record FixedParts : Type 0 where
  pub legacy : Bool
  pub palette : Bool

abbrev pub no_fixed_parts : FixedParts
no_fixed_parts = record { legacy = false; palette = false }

-- those that are given
abbrev pub fixed_parts_by : Words → Function → FixedParts
fixed_parts_by w f =
    record { legacy = is_some w.vga && has_legacy f; palette = w.snoop && has_palette f }

-- ---- power

-- a function whose registers and list decode, and that isn't in D0 (Power Management 1.2, 5.4)
abbrev pub IsAsleep : Function → Type 0
IsAsleep f = HasNoOwnFaultBefore Profile f × IsNotInD0 f.image

-- one that is taken as asleep: `power` counts, and the function is asleep behind what is left aside first
abbrev pub IsAsleepBy : Words → Function → Type 0
IsAsleepBy w f = IsTrue w.power × IsAsleep (first_aside w f)

-- ---- reset, subtractive

-- a bridge without Secondary Bus Reset, where it may be left out (Bridge 1.2, 3.2.5.18)
abbrev pub reset_aside : Words → List Slot → Function → Function
reset_aside w slots f =
    if w.reset && controls_bridge f.image SECONDARY_BUS_RESET && not (is_anyone_behind slots f)
    then function_with_image f (out_of_reset f.image) else f

-- one that doesn't decode subtractively, where that may be left out
abbrev pub subtractive_aside : Words → List Slot → Function → Function
subtractive_aside w slots f =
    if w.subtractive && is_subtractive_bridge f.image && not (is_anyone_behind slots f)
    then function_with_image f (positive f.image) else f

abbrev pub bridge_aside : Words → List Slot → Function → Function
bridge_aside w slots f = subtractive_aside w slots (reset_aside w slots f)

-- ---- ide

-- whether it is an IDE controller: class 01, sub-class 01 (PCI IDE Controller 1.0, 2.1)
abbrev pub is_ide : List ℕ → Bool
is_ide image = layout image == 0 && class_code image / 256 == 0x0101

-- whether a register is a BAR of a channel in compatibility mode: those at 10h and 14h by bit 0 of the programming
-- interface, those at 18h and 1Ch by bit 2
abbrev pub is_compatible : ℕ → ℕ → Bool
is_compatible interface register =
    (nat_lt register 0x18 && not (has_bit interface 0))
    || (nat_le 0x18 register && nat_lt register 0x20 && not (has_bit interface 2))

abbrev pub compatible_bars : Function → List DecodedBar
compatible_bars f =
    filter (λ bar. is_compatible (byte_at f.image INTERFACE) bar.register) (record_of f).bars

-- a controller without those BARs
abbrev pub without_channels : Function → Function
without_channels f = record {
  slot = f.slot;
  image = without_bars (compatible_bars f) f.image;
  probe = without_bars (compatible_bars f) f.probe;
}

-- ---- unnumbered

abbrev pub is_open_window : Option DecodedWindow → Bool
is_open_window None = false
is_open_window (Some window) = is_some window.range

-- whether a window claims an address, by Command
abbrev pub has_open_window : ℕ → DecodedWindows → Bool
has_open_window command w =
    (has_bit command 0 && is_open_window w.io)
    || (has_bit command 1 && (is_some w.memory.range || is_open_window w.prefetch))

-- whether a part with fixed addresses claims some, by Command: a palette part has ports alone
abbrev pub has_open_part : FixedParts → ℕ → Bool
has_open_part fixed command =
    (fixed.legacy && (has_bit command 0 || has_bit command 1)) || (fixed.palette && has_bit command 0)

abbrev pub has_numbers : Bridge → Bool
has_numbers b = not (b.primary == 0 && b.secondary == 0 && b.subordinate == 0)

abbrev pub is_decoded_rom_on : Option DecodedRom → Bool
is_decoded_rom_on None = false
is_decoded_rom_on (Some rom) = rom.on

-- whether a record is of a bridge that nobody gave bus numbers: they are 0, neither one of its windows nor a part with
-- fixed addresses that it has claims an address, and its ROM is off
abbrev pub is_unnumbered_bridge : FixedParts → Record → Option Bridge → Bool
is_unnumbered_bridge fixed r None = false
is_unnumbered_bridge fixed r (Some b) =
    not (has_numbers b) && not (has_open_window r.command b.windows)
    && not (has_open_part fixed r.command) && not (is_decoded_rom_on r.rom)

abbrev pub is_unnumbered : FixedParts → Function → Bool
is_unnumbered fixed f = is_unnumbered_bridge fixed (record_of f) (record_of f).bridge

-- a bridge as a device with its BARs: it leads to no bus
abbrev pub without_buses : Function → Function
without_buses f =
    record { slot = f.slot; image = as_device f.image; probe = device_read_backs f.probe }

-- ---- cardbus

-- whether it is a CardBus bridge: header layout 2 (PC Card Standard 8.0, volume 7, 4.4)
abbrev pub is_cardbus : Function → Bool
is_cardbus f = layout f.image == 2

-- one as a device whose BARs and ROM show and read back 0
abbrev pub without_socket : Function → Function
without_socket f =
    record
    { slot = f.slot; image = as_bare_device f.image; probe = without_registers f.probe }

abbrev pub cardbus_aside : Words → Function → Function
cardbus_aside w f = if w.cardbus && is_cardbus f then without_socket f else f

-- ---- all of them

-- whether a word counts for parts that a function can have by its header: the channels of a controller, the buses of a
-- bridge
abbrev pub may_have_parts_by : Words → Function → Bool
may_have_parts_by w f = (w.ide && is_ide f.image) || (w.unnumbered && is_bridge f)

-- of a function with some parts with fixed addresses
abbrev pub parts_aside : Words → FixedParts → Function → Function
parts_aside w fixed f =
    if w.ide && is_ide f.image then without_channels f
    else if w.unnumbered && is_unnumbered fixed f then without_buses f else f

-- a function is another one where a condition holds, and else itself
abbrev pub IsWhere : Type 0 → Function → Function → Function → Type 0
IsWhere Condition f changed g = (Condition × (g ≡ changed)) ⊎ ((Condition → ⊥) × (g ≡ f))

-- The function h is how f is taken. What is wrong with it by itself is told before all else: `power` leaves a function be
-- whose registers or list don't decode, `ide` and `unnumbered` one that has any fault by itself. Read backs of windows,
-- VGA Enable, ISA Enable and VGA Palette Snoop are left aside first, so that they are no such faults where words for them
-- count. A CardBus bridge is left as it is by all other words but `snoop`, as its header is such a fault.
pub record IsTakenAs (w : Words) (slots : List Slot) (f h : Function) : Type 0 where
  pub g : Function
  pub k : Function
  pub power : IsWhere (IsAsleepBy w f) (first_aside w f)
      (function_with_image (first_aside w f) (switched_off (first_aside w f).image)) g
  pub parts : IsWhere
      (IsTrue (may_have_parts_by w (bridge_aside w slots g))
      × HasNoOwnFaultBefore Place (bridge_aside w slots g))
      (bridge_aside w slots g) (parts_aside w (fixed_parts_by w f) (bridge_aside w slots g)) k
  pub header : h ≡ cardbus_aside w k

-- ---- a system

-- with the bridges positive that are alone of the class of subtractive decoding on their bus, where what they take is given
-- beside it (PCI 3.0, appendix D)
abbrev pub unclaimed_aside_by : Words → System → System
unclaimed_aside_by w s = if w.unclaimed then taken_by_unclaimed s else s

-- then each of its functions is taken
abbrev pub AreFunctionsTakenAs : Words → List Slot → System → System → Type 0
AreFunctionsTakenAs w slots s t = AllZip (IsTakenAs w slots) (unclaimed_aside_by w s) t

-- Whether a bridge takes what nobody claims. One of which `subtractive` takes that it does so, as nothing is listed behind
-- it, doesn't.
abbrev pub takes_by : Words → System → Function → Bool
takes_by w s b =
    w.unclaimed && is_alone s b && not (w.subtractive && not (is_anyone_behind (map (λ f. f.slot) s) b))

-- the bridges that do, by slot
abbrev pub taking_by : Words → System → List Slot
taking_by w s = map (λ f. f.slot) (filter (takes_by w s) s)
