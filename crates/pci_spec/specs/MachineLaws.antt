-- Laws of configuration registers under writes.
use Rattle.std.specs.Prelude.{◌≡◌, ℕ, ◌+◌, ◌*◌, ◌-◌, ◌%◌, ◌<◌, ◌≤◌, ◌==◌, nat_le, nat_lt, ◌&&◌, ◌||◌, not, ◌⊎◌, IsTrue, IsFalse, List}
use Rattle.std.specs.Int.{bit_at}
use Rattle.pci_spec.specs.Number.{byte_at, has_bit, IsImage}
use Rattle.pci_spec.specs.System.{Function, IsFunction}
use Rattle.pci_spec.specs.Fault.{is_stray, is_in_address_register}
use Rattle.pci_spec.specs.Header.{layout, bar_count, rom_register}
use Rattle.pci_spec.specs.Rom.{rom_at, breaks_rom_rule}
use Rattle.pci_spec.specs.Bar.{bar_at, encodings, starts_bar}
use Rattle.pci_spec.specs.Window.{WindowKind, bounds_at}
use Rattle.pci_spec.specs.Decoded.{IsDecodable}
use Rattle.pci_spec.specs.Machine.{Target, writable_bits, clearing_bits, written, target_of, sized}

-- A write changes no bit that is neither writable nor cleared by a one.
abbrev pub WriteKeepsOtherBits : Type 0
WriteKeepsOtherBits =
    (t : Target) (offset width value place i : ℕ) → place < 256 → i < 8
    → IsFalse (has_bit (byte_at t.writable place) i)
    → IsFalse (has_bit (byte_at t.clearing place) i)
    → bit_at (byte_at (written t offset width value) place) i ≡ bit_at (byte_at t.image place) i

-- It changes no byte but those it is made to,
abbrev pub WriteKeepsOtherBytes : Type 0
WriteKeepsOtherBytes =
    (t : Target) (offset width value place : ℕ) → place < 256
    → (place < offset) ⊎ (offset + width ≤ place)
    → byte_at (written t offset width value) place ≡ byte_at t.image place

-- and in these a writable bit takes that of the value, whose low byte goes to the offset.
abbrev pub WriteSetsWritableBits : Type 0
WriteSetsWritableBits =
    (t : Target) (offset width value place i : ℕ) → place < 256 → i < 8 → offset ≤ place
    → place < offset + width
    → IsTrue (has_bit (byte_at t.writable place) i)
    → bit_at (byte_at (written t offset width value) place) i
    ≡ bit_at value (8 * (place - offset) + i)

-- A bit that is cleared by a one is 0 after a one was written to it, and after a zero what it was.
abbrev pub OneClears : Type 0
OneClears =
    (t : Target) (offset width value place i : ℕ) → place < 256 → i < 8 → offset ≤ place
    → place < offset + width
    → IsFalse (has_bit (byte_at t.writable place) i) → IsTrue (has_bit (byte_at t.clearing place) i)
    → bit_at value (8 * (place - offset) + i) ≡ 1
    → bit_at (byte_at (written t offset width value) place) i ≡ 0

abbrev pub ZeroClearsNothing : Type 0
ZeroClearsNothing =
    (t : Target) (offset width value place i : ℕ) → place < 256 → i < 8 → offset ≤ place
    → place < offset + width
    → IsFalse (has_bit (byte_at t.writable place) i)
    → bit_at value (8 * (place - offset) + i) ≡ 0
    → bit_at (byte_at (written t offset width value) place) i ≡ bit_at (byte_at t.image place) i

-- after a write there are 256 bytes again
abbrev pub WriteLeavesImage : Type 0
WriteLeavesImage =
    (t : Target) (offset width value : ℕ) → IsImage t.image → IsImage (written t offset width value)

-- no bit of a function is both writable and cleared by a one
abbrev pub NoBitIsBoth : Type 0
NoBitIsBoth =
    (image probe : List ℕ) (place i : ℕ) → place < 256 → i < 8
    → IsTrue (has_bit (byte_at (writable_bits image probe) place) i)
    → IsFalse (has_bit (byte_at (clearing_bits image) place) i)

-- writable bits are in Command, the address registers, Interrupt Line, and the bus numbers of a bridge
abbrev pub WritableBitsAreOfRegisters : Type 0
WritableBitsAreOfRegisters =
    (image probe : List ℕ) (place i : ℕ) → place < 256 → i < 8
    → IsTrue (has_bit (byte_at (writable_bits image probe) place) i)
    → IsTrue ((nat_le 0x04 place && nat_lt place 0x06)
    || is_in_address_register (layout image) place || place == 0x3c
    || (layout image == 1 && nat_le 0x18 place && nat_lt place 0x1b))

-- and bits that a one clears in Status, and in a bridge's Secondary Status
abbrev pub ClearingBitsAreOfStatus : Type 0
ClearingBitsAreOfStatus =
    (image : List ℕ) (place i : ℕ) → place < 256 → i < 8
    → IsTrue (has_bit (byte_at (clearing_bits image) place) i)
    → IsTrue ((nat_le 0x06 place && nat_lt place 0x08)
    || (layout image == 1 && nat_le 0x1e place && nat_lt place 0x20))

-- Of Command the enables of I/O and memory space, Bus Master and Parity Error Response are writable,
-- and in its second byte SERR# Enable and Interrupt Disable.
abbrev pub CommandIsWritable : Type 0
CommandIsWritable =
    (image probe : List ℕ) (i : ℕ) → i < 8
    → (has_bit (byte_at (writable_bits image probe) 0x04) i
    ≡ (i == 0 || i == 1 || i == 2 || i == 6))
    × (has_bit (byte_at (writable_bits image probe) 0x05) i ≡ (i == 0 || i == 2))

-- Of a ROM's bits below its address bit 0 alone is writable, its enable bit, and only where there is a ROM.
abbrev pub RomEnableIsWritable : Type 0
RomEnableIsWritable =
    (image probe : List ℕ) (j i : ℕ) → IsFalse (breaks_rom_rule image probe) → j < 4 → i < 8
    → 8 * j + i < 11
    → has_bit (byte_at (writable_bits image probe) (rom_register (layout image) + j)) i
    ≡ (8 * j + i == 0 && not (rom_at image probe == 0))

-- no write changes how a BAR is encoded
abbrev pub BarKeepsEncoding : Type 0
BarKeepsEncoding =
    (f : Function) (n offset width value : ℕ) → IsImage f.image → n < bar_count (layout f.image)
    → IsTrue (starts_bar f.probe n)
    → bar_at (written (target_of f) offset width value) n % encodings (bar_at f.probe n)
    ≡ bar_at f.image n % encodings (bar_at f.probe n)

-- nor the low nibbles of a bridge's windows
abbrev pub WindowKeepsNibbles : Type 0
WindowKeepsNibbles =
    (f : Function) (kind : WindowKind) (offset width value : ℕ) → IsImage f.image
    → layout f.image ≡ 1
    → ((bounds_at kind (written (target_of f) offset width value)).base % 16
    ≡ (bounds_at kind f.image).base % 16)
    × ((bounds_at kind (written (target_of f) offset width value)).limit % 16
    ≡ (bounds_at kind f.image).limit % 16)

-- Sizing a function finds its read backs: where the registers decode, each read back after ones is the probe's, and it has no others.
abbrev pub SizingFindsProbe : Type 0
SizingFindsProbe =
    (f : Function) → IsFunction f → IsDecodable f
    → ((offset : ℕ) → IsFalse (is_stray f.image f.probe offset)) → sized (target_of f) ≡ f.probe
