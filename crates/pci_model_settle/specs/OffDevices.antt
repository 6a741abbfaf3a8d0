-- Devices that settling by a user's words leaves as they are, and that decode nothing: neither now nor once they wake. Their
-- address registers are left out of what is settled, and what these show is told beside it.
use Rattle.std.specs.Prelude.{ℕ, ◌==◌, Bool, ◌&&◌, not, if◌then◌else◌, List, [], ◌∷◌, ◌++◌, map, length, Option, None, Some, false}
use Rattle.std.specs.List.{flat_map}
use Rattle.pci_spec.specs.Slot.{Slot}
use Rattle.pci_spec.specs.Header.{command, layout}
use Rattle.pci_spec.specs.Text.{Block}
use Rattle.pci_spec.specs.System.{Space, Io, Memory, Function, System}
use Rattle.pci_spec.specs.Decoded.{DecodedBar, DecodedRom, Range, Record, record_of}
use Rattle.pci_spec.specs.Listing.{kind_space}
use Rattle.pci_spec.specs.Mark.{marked}
use Rattle.pci_base.specs.Space.{is_on}
use Rattle.judge_spec.specs.Told.{ToldRange, Command}
use Rattle.judge_spec.specs.Bytes.{without_registers}
use Rattle.pci_model_settle.specs.declared.claim_lines.Origin.TheVariants.{Device}
use Rattle.pci_model_settle.specs.ClaimLines.{Line}
use Rattle.pci_model_settle.specs.Unmoved.{is_among}

-- ---- which they are

-- whether a header is a device's, and its Command enables neither space (PCI 3.0, 6.1 and 6.2.2)
abbrev pub is_off_device : List ℕ → Bool
is_off_device image =
    layout image == 0 && not (is_on (command image) Io) && not (is_on (command image) Memory)

-- Whether a function is such a device at one of some slots, as it is and as it is taken, by its blocks of a dump, of what that is
-- taken as, and of the probe. The probe's title names no read back as assumed: nothing is told by a guess.
abbrev pub is_left_out : List Slot → Block → Block → Block → Bool
is_left_out unmoved d b p =
    is_among unmoved d.slot && is_off_device d.image && is_off_device b.image
    && length (marked p.title) == 0

-- their slots in a dump, in what it is taken as, and in the probe of that, side by side
abbrev pub left_out : List Slot → List Block → List Block → List Block → List Slot
left_out unmoved [] blocks probes = []
left_out unmoved (d ∷ dump) [] probes = []
left_out unmoved (d ∷ dump) (b ∷ blocks) [] = []
left_out unmoved (d ∷ dump) (b ∷ blocks) (p ∷ probes) =
    if is_left_out unmoved d b p then d.slot ∷ left_out unmoved dump blocks probes
    else left_out unmoved dump blocks probes

-- ---- without their address registers

-- a block whose address registers show 0, where its slot is one of some
abbrev pub block_without : List Slot → Block → Block
block_without slots b =
    if is_among slots b.slot then record b { image = without_registers b.image } else b

abbrev pub blocks_without : List Slot → List Block → List Block
blocks_without slots blocks = map (block_without slots) blocks

-- a function whose address registers show and read back 0, where its slot is one of some
abbrev pub function_without : List Slot → Function → Function
function_without slots f =
    if is_among slots f.slot
    then record f { image = without_registers f.image; probe = without_registers f.probe } else f

abbrev pub functions_without : List Slot → System → System
functions_without slots s = map (function_without slots) s

-- ---- what they show

-- a part of a device: the range that a register shows
pub record ShownPart : Type 0 where
  pub slot : Slot
  pub register : ℕ
  pub space : Space
  pub prefetchable : Bool
  pub range : Range

-- The function answers it by its Command.
abbrev pub shown_range : ShownPart → ToldRange
shown_range part = record {
  slot = part.slot;
  space = part.space;
  prefetchable = part.prefetchable;
  first = part.range.first;
  last = part.range.last;
  mark = Command;
  name = [];
}

abbrev pub part_line : ShownPart → Line
part_line part = record { range = shown_range part; origin = Device part.register }

-- What is told of a part. One that shows address 0 was never placed: nothing is told of it (PCI 3.0, 6.2.5.1).
abbrev pub lines_of_part : ShownPart → List Line
lines_of_part part = if part.range.first == 0 then [] else part_line part ∷ []

-- no I/O is prefetchable (PCI 3.0, 6.2.5.1)
abbrev pub is_prefetchable_in : Space → Bool → Bool
is_prefetchable_in Io prefetchable = false
is_prefetchable_in Memory prefetchable = prefetchable

abbrev pub shown_bar_part : Slot → DecodedBar → ShownPart
shown_bar_part slot bar = record {
  slot = slot;
  register = bar.register;
  space = kind_space bar.kind;
  prefetchable = is_prefetchable_in (kind_space bar.kind) bar.prefetchable;
  range = bar.range;
}

-- a ROM that its own bit enables (PCI 3.0, 6.2.5.2)
abbrev pub shown_rom : Slot → Option DecodedRom → List ShownPart
shown_rom slot None = []
shown_rom slot (Some rom) =
    if rom.on
    then record { slot = slot; register = rom.register; space = Memory; prefetchable = false; range = rom.range } ∷ []
    else []

-- the parts of a device, in the order of their registers
abbrev pub shown_parts : Record → List ShownPart
shown_parts r = map (shown_bar_part r.slot) r.bars ++ shown_rom r.slot r.rom

-- what is told of a function at one of some slots
abbrev pub lines_of : List Slot → Record → List Line
lines_of slots r =
    if is_among slots r.slot then flat_map lines_of_part (shown_parts r) else []

-- and of all functions of a system, in its order
abbrev pub lines_of_all : List Slot → List Record → List Line
lines_of_all slots records = flat_map (lines_of slots) records

abbrev pub device_lines : List Slot → System → List Line
device_lines slots t = lines_of_all slots (map record_of t)
