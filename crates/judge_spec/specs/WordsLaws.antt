-- Laws of what words take.
use Rattle.std.specs.Prelude.{◌≡◌, ◌↔◌, ℕ, Bool, true, false, ◌&&◌, not, IsTrue, IsFalse, List, [], map, None, is_some}
use Rattle.std.specs.List.{Contains}
use Rattle.pci_spec.specs.Slot.{Slot}
use Rattle.pci_spec.specs.Number.{IsImage, has_bit}
use Rattle.pci_spec.specs.Registers.{ISA_ENABLE, PALETTE_SNOOP, SECONDARY_BUS_RESET, VGA_ENABLE}
use Rattle.pci_spec.specs.Header.{command}
use Rattle.pci_spec.specs.System.{System, Function, Space, Part, Claims, is_bridge}
use Rattle.pci_spec.specs.Window.{WindowKind, bounds_at, breaks_window_rule, is_zero}
use Rattle.pci_spec.specs.Decoded.{IsDecodable, bridge_of, record_of}
use Rattle.pci_spec.specs.Fault.{IsNotInD0, controls_bridge, has_no_vendor, is_subtractive_bridge}
use Rattle.judge_spec.specs.Words.{is_alone}
use Rattle.judge_spec.specs.ModelWords.{Words, no_words}
use Rattle.judge_spec.specs.Bytes.{out_of_reset, positive, switched_off}
use Rattle.judge_spec.specs.Windows.{shown_nibble, window_as_shown}
use Rattle.judge_spec.specs.Taken.{AreFunctionsTakenAs, IsTakenAs, FixedParts, cardbus_aside, fixed_parts_by, no_fixed_parts, has_numbers, is_cardbus, is_ide, is_unnumbered, may_have_parts_by, parts_aside, snoop_aside_by, function_with_image, without_buses, without_socket}

-- Without words a system is taken as it is.
abbrev pub NoWordsChangeNothing : Type 0
NoWordsChangeNothing =
    (slots : List Slot) (s t : System) → AreFunctionsTakenAs no_words slots s t → t ≡ s

-- Words change no slot.
abbrev pub SlotsAreKept : Type 0
SlotsAreKept =
    (w : Words) (slots : List Slot) (s t : System) → AreFunctionsTakenAs w slots s t
    → map (λ f. f.slot) t ≡ map (λ f. f.slot) s

-- ---- what the changes are for

-- What is switched off claims nothing,
abbrev pub OffByWordsClaimsNothing : Type 0
OffByWordsClaimsNothing =
    (f : Function) → IsImage f.image → (part : Part) (space : Space) (a : ℕ)
    → Claims (function_with_image f (switched_off f.image)) part space a → ⊥

-- and shows no power state.
abbrev pub OffShowsNoState : Type 0
OffShowsNoState = (image : List ℕ) → IsImage image → IsNotInD0 (switched_off image) → ⊥

-- A bridge out of reset has no reset,
abbrev pub OutOfResetIs : Type 0
OutOfResetIs =
    (image : List ℕ) → IsImage image
    → IsFalse (controls_bridge (out_of_reset image) SECONDARY_BUS_RESET)

-- and one that decodes its windows alone isn't subtractive.
abbrev pub PositiveIs : Type 0
PositiveIs = (image : List ℕ) → IsImage image → IsFalse (is_subtractive_bridge (positive image))

-- What was an unnumbered bridge is none: it leads to no bus, and has no bus numbers.
abbrev pub DeviceLeadsNowhere : Type 0
DeviceLeadsNowhere = (f : Function) → IsImage f.image → IsFalse (is_bridge (without_buses f))

-- What is taken with a word for legacy parts has no VGA Enable, whatever other words count.
abbrev pub TakenHasNoVgaEnable : Type 0
TakenHasNoVgaEnable =
    (w : Words) (slots : List Slot) (f h : Function) → IsImage f.image → IsTrue (is_some w.vga)
    → IsTakenAs w slots f h → IsFalse (controls_bridge h.image VGA_ENABLE)

-- What is taken with `isa` has no ISA Enable.
abbrev pub TakenHasNoIsaEnable : Type 0
TakenHasNoIsaEnable =
    (w : Words) (slots : List Slot) (f h : Function) → IsImage f.image → IsTrue w.isa
    → IsTakenAs w slots f h → IsFalse (controls_bridge h.image ISA_ENABLE)

-- What is taken with `snoop` has no VGA Palette Snoop.
abbrev pub TakenHasNoPaletteSnoop : Type 0
TakenHasNoPaletteSnoop =
    (w : Words) (slots : List Slot) (f h : Function) → IsImage f.image → IsTrue w.snoop
    → IsTakenAs w slots f h → IsFalse (has_bit (command h.image) PALETTE_SNOOP)

-- A function that can have no part for which a word counts is left as it is.
abbrev pub NoPartsChangeNothing : Type 0
NoPartsChangeNothing =
    (w : Words) (fixed : FixedParts) (f : Function) → IsFalse (may_have_parts_by w f)
    → parts_aside w fixed f ≡ f

-- A CardBus bridge that is taken as a device decodes, where it answers at all: to no BAR, to no ROM, and to no bridge.
pub record IsBare (f : Function) : Type 0 where
  pub decodable : IsDecodable f
  pub bars : (record_of f).bars ≡ []
  pub rom : (record_of f).rom ≡ None
  pub bridge : (record_of f).bridge ≡ None

abbrev pub SocketIsBare : Type 0
SocketIsBare =
    (f : Function) → IsFalse (has_no_vendor f.image) → IsBare (without_socket f)

-- It has no list, and so shows no power state.
abbrev pub SocketShowsNoState : Type 0
SocketShowsNoState =
    (f : Function) → IsImage f.image → IsNotInD0 (without_socket f).image → ⊥

-- A window that shows one has no 26 once it is taken as that one,
abbrev pub ShownWindowsAreLawful : Type 0
ShownWindowsAreLawful =
    (kind : WindowKind) (f : Function) → IsImage f.image → IsImage f.probe
    → IsTrue (is_some (shown_nibble kind (bounds_at kind f.image)))
    → IsFalse (breaks_window_rule kind (window_as_shown kind f).image
    (window_as_shown kind f).probe)

-- and it has the pages that it showed, unless it shows 0 and reads back 0.
abbrev pub ShownWindowsKeepPages : Type 0
ShownWindowsKeepPages =
    (kind : WindowKind) (f : Function)
    → IsFalse (is_zero (bounds_at kind f.image) && is_zero (bounds_at kind f.probe))
    → (window_as_shown kind f).image ≡ f.image

-- ---- what a word leaves alone

-- A function that is no IDE controller is taken with `ide` as without it, whatever other words count.
abbrev pub IdeLeavesOthers : Type 0
IdeLeavesOthers =
    (w : Words) (slots : List Slot) (f h : Function) → IsImage f.image → IsFalse (is_ide f.image)
    → IsTakenAs w slots f h ↔ IsTakenAs (record w { ide = false }) slots f h

-- What is no bridge with ISA Enable is taken with `isa` as without it.
abbrev pub IsaLeavesOthers : Type 0
IsaLeavesOthers =
    (w : Words) (slots : List Slot) (f h : Function) → IsImage f.image
    → IsFalse (controls_bridge f.image ISA_ENABLE)
    → IsTakenAs w slots f h ↔ IsTakenAs (record w { isa = false }) slots f h

-- A system without bridges that are alone of the class of subtractive decoding on their bus is taken with `unclaimed` as
-- without it.
abbrev pub UnclaimedLeavesOthers : Type 0
UnclaimedLeavesOthers =
    (w : Words) (slots : List Slot) (s t : System)
    → ((f : Function) → Contains s f → IsFalse (is_alone s f))
    → AreFunctionsTakenAs w slots s t
    ↔ AreFunctionsTakenAs (record w { unclaimed = false }) slots s t

-- What is taken with `unnumbered` is taken so without it, unless it is an unnumbered bridge as the other words take it.
abbrev pub UnnumberedLeavesOthers : Type 0
UnnumberedLeavesOthers =
    (w : Words) (slots : List Slot) (f h : Function) → IsTakenAs w slots f h
    → ((k : Function) → IsTakenAs (record w { unnumbered = false }) slots f k
    → IsFalse (is_unnumbered (fixed_parts_by w f) k))
    → IsTakenAs (record w { unnumbered = false }) slots f h

-- So it is with what is no bridge, and with each bridge that has a bus number.
abbrev pub UnnumberedLeavesNumbers : Type 0
UnnumberedLeavesNumbers =
    (w : Words) (slots : List Slot) (f h : Function) → IsTakenAs w slots f h
    → IsFalse (is_bridge f && not (has_numbers (bridge_of f.image f.probe)))
    → IsTakenAs (record w { unnumbered = false }) slots f h

-- A function that is no CardBus bridge is taken with `cardbus` as without it, whatever other words count,
abbrev pub CardbusLeavesOthers : Type 0
CardbusLeavesOthers =
    (w : Words) (slots : List Slot) (f h : Function) → IsFalse (is_cardbus f)
    → IsTakenAs w slots f h ↔ IsTakenAs (record w { cardbus = false }) slots f h

-- and a CardBus bridge by `cardbus` and `snoop` alone.
abbrev pub OthersLeaveCardbus : Type 0
OthersLeaveCardbus =
    (w : Words) (slots : List Slot) (f h : Function) → IsTrue (is_cardbus f)
    → IsTakenAs w slots f h → h ≡ cardbus_aside w (snoop_aside_by w f)

-- whether a window of a function has a 26
abbrev pub has_bad_window : Function → WindowKind → Bool
has_bad_window f kind = is_bridge f && breaks_window_rule kind f.image f.probe

-- A function of which no window has a 26 is taken with `windows` as without it.
abbrev pub WindowsLeaveOthers : Type 0
WindowsLeaveOthers =
    (w : Words) (slots : List Slot) (f h : Function)
    → ((kind : WindowKind) → IsFalse (has_bad_window f kind))
    → IsTakenAs w slots f h ↔ IsTakenAs (record w { windows = false }) slots f h

-- So a system without such functions is taken with both of these words as without them.
abbrev pub BothLeaveOthers : Type 0
BothLeaveOthers =
    (w : Words) (slots : List Slot) (s t : System)
    → ((f : Function) → Contains s f
    → IsFalse (is_cardbus f) × ((kind : WindowKind) → IsFalse (has_bad_window f kind)))
    → AreFunctionsTakenAs w slots s t
    ↔ AreFunctionsTakenAs (record w { cardbus = false; windows = false }) slots s t

-- By `ide` alone what is no IDE controller is taken as it is,
abbrev pub IdeAloneLeavesOthers : Type 0
IdeAloneLeavesOthers =
    (slots : List Slot) (f h : Function) → IsImage f.image → IsFalse (is_ide f.image)
    → IsTakenAs (record no_words { ide = true }) slots f h → h ≡ f

-- and by `unnumbered` alone what is no unnumbered bridge.
abbrev pub UnnumberedAloneLeavesOthers : Type 0
UnnumberedAloneLeavesOthers =
    (slots : List Slot) (f h : Function) → IsFalse (is_unnumbered no_fixed_parts f)
    → IsTakenAs (record no_words { unnumbered = true }) slots f h → h ≡ f
