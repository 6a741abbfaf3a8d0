-- What Linux tells of a function's address registers: a line of its sysfs file `resource` for each BAR register, and one for the ROM.
use Rattle.std.specs.Prelude.{ℕ, ◌+◌, ◌-◌, ◌%◌, ◌^◌, ◌==◌, nat_le, Bool, ◌&&◌, ◌||◌, not, List, slice_index_or}
use Rattle.std.specs.Bool.{beq}
use Rattle.pci_spec.specs.Number.{has_bit, some_from}
use Rattle.pci_spec.specs.Bar.{is_io, encodings}
use Rattle.pci_spec.specs.Machine.{without_low}

-- the first and the last address that the register was sized to, and flags
pub record ResourceLine : Type 0 where
  pub first : ℕ
  pub last : ℕ
  pub flags : ℕ

-- a line of zeros
abbrev pub no_line : ResourceLine
no_line = record { first = 0; last = 0; flags = 0 }

-- lines 0 to 5 are those of the BAR registers, line 6 is that of the ROM
abbrev pub line_at : List ResourceLine → ℕ → ResourceLine
line_at lines n = slice_index_or lines n no_line

abbrev pub rom_line : List ResourceLine → ResourceLine
rom_line lines = line_at lines 6

-- ---- flags

-- 100h: the addresses are of I/O space
abbrev pub is_of_io : ResourceLine → Bool
is_of_io line = has_bit line.flags 8

-- 200h: they are of memory space
abbrev pub is_of_memory : ResourceLine → Bool
is_of_memory line = has_bit line.flags 9

-- 10h, 20h: they are the fixed ports of an IDE channel, or of Enhanced Allocation, and no register holds them
abbrev pub is_fixed : ResourceLine → Bool
is_fixed line = has_bit line.flags 4 || has_bit line.flags 5

-- 02h: they are those of a shadow copy of the ROM
abbrev pub is_shadow : ResourceLine → Bool
is_shadow line = has_bit line.flags 1

-- whether the line has addresses that a BAR register holds
abbrev pub is_of_register : ResourceLine → Bool
is_of_register line = (is_of_io line || is_of_memory line) && not (is_fixed line)

-- ---- sizes

-- how many addresses there are from the first to the last
abbrev pub address_count : ResourceLine → ℕ
address_count line = line.last + 1 - line.first

-- whether their number is a power of two, of at most 2 ^ most
unfoldable pub has_size : ℕ → ResourceLine → Bool
has_size most line =
    nat_le line.first line.last && some_from 0 (most + 1) (λ k. address_count line == 2 ^ k)

-- whether the line tells the size of a BAR of so many bits that shows a value
unfoldable pub tells_bar : ResourceLine → ℕ → ℕ → Bool
tells_bar line width value =
    is_of_register line
    && beq (is_of_io line) (is_io value)
    && line.flags % encodings value == value % encodings value
    && has_size (width - 1) line
    && without_low (encodings value) value % address_count line == 0

-- the address of a ROM stands in bits 31:11 of its register
abbrev pub rom_step : ℕ
rom_step = 2 ^ 11

-- whether the line tells the size of a ROM whose register shows a value
unfoldable pub tells_rom : ResourceLine → ℕ → Bool
tells_rom line value =
    is_of_memory line && not (is_shadow line) && has_size 31 line
    && without_low rom_step value % address_count line == 0
