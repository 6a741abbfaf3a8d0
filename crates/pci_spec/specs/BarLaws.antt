-- Laws of Base Address registers and the expansion ROM.
use Rattle.std.specs.Prelude.{◌≡◌, ℕ, ◌+◌, ◌*◌, ◌/◌, ◌%◌, ◌-◌, ◌^◌, ◌<◌, ◌≤◌, ◌↔◌, ◌⊎◌, ◌&&◌, IsTrue, IsFalse, List}
use Rattle.pci_spec.specs.Number.{IsImage}
use Rattle.pci_spec.specs.Bar.{BarKind, IoBar, Memory32, Memory64, Reserved, bar_at, bar_kind, is_wide, is_prefetchable, starts_bar, is_lawful, Answers, BarDecodes}
use Rattle.pci_spec.specs.Rom.{rom_at, is_rom_size, RomDecodes}

-- The low bits of a register are its encoding: bit 0 is 1 for I/O, and of a memory register bits 2:1 are its type.
abbrev pub OddRegisterIsIo : Type 0
OddRegisterIsIo = (register : ℕ) → register % 2 ≡ 1 → bar_kind register ≡ IoBar

abbrev pub LowBitsAreOfMemory : Type 0
LowBitsAreOfMemory =
    (register : ℕ)
    → (register % 8 ≡ 0 → bar_kind register ≡ Memory32)
    × (register % 8 ≡ 4 → bar_kind register ≡ Memory64)

abbrev pub OtherTypesAreReserved : Type 0
OtherTypesAreReserved =
    (register : ℕ) → (register % 8 ≡ 2) ⊎ (register % 8 ≡ 6) → bar_kind register ≡ Reserved

-- bit 3 of a memory register says that it is prefetchable
abbrev pub MemoryAloneIsPrefetchable : Type 0
MemoryAloneIsPrefetchable =
    (register : ℕ) → IsTrue (is_prefetchable register) ↔ ((register % 2 ≡ 0) × (8 ≤ register % 16))

-- a read back is that of one size
abbrev pub BarHasOneSize : Type 0
BarHasOneSize =
    (kind : BarKind) (mask j k : ℕ) → IsTrue (is_lawful kind mask j)
    → IsTrue (is_lawful kind mask k) → j ≡ k

abbrev pub RomHasOneSize : Type 0
RomHasOneSize = (mask j k : ℕ) → IsTrue (is_rom_size mask j) → IsTrue (is_rom_size mask k) → j ≡ k

-- Sizing by ones: from its lowest address bit upward a read back has all ones, so it and the size make up the power of two
-- that ends the register, or ends bits 15:0 of an I/O register.
abbrev pub MemoryReadBackShowsSize : Type 0
MemoryReadBackShowsSize =
    (mask k : ℕ) → mask < 2 ^ 32 → IsTrue (is_lawful Memory32 mask k)
    ↔ ((4 ≤ k) × (k ≤ 31) × (mask / 2 ^ 4 * 2 ^ 4 + 2 ^ k ≡ 2 ^ 32))

abbrev pub WideReadBackShowsSize : Type 0
WideReadBackShowsSize =
    (mask k : ℕ) → mask < 2 ^ 64 → IsTrue (is_lawful Memory64 mask k)
    ↔ ((4 ≤ k) × (k ≤ 63) × (mask / 2 ^ 4 * 2 ^ 4 + 2 ^ k ≡ 2 ^ 64))

abbrev pub IoReadBackShowsSize : Type 0
IoReadBackShowsSize =
    (mask k : ℕ) → mask < 2 ^ 32
    → IsTrue (is_lawful IoBar mask k)
    ↔ ((2 ≤ k) × (k ≤ 8)
    × ((mask / 2 ^ 2 * 2 ^ 2 + 2 ^ k ≡ 2 ^ 32) ⊎ (mask / 2 ^ 2 * 2 ^ 2 + 2 ^ k ≡ 2 ^ 16)))

-- bits 10:0 of a ROM's read back are 0
abbrev pub RomReadBackShowsSize : Type 0
RomReadBackShowsSize =
    (mask k : ℕ) → mask < 2 ^ 32 → IsTrue (is_rom_size mask k)
    ↔ ((11 ≤ k) × (k ≤ 24) × (mask + 2 ^ k ≡ 2 ^ 32))

-- a memory type that the standard reserves has no read back
abbrev pub ReservedTypeHasNoSize : Type 0
ReservedTypeHasNoSize = (mask k : ℕ) → IsFalse (is_lawful Reserved mask k)

-- A BAR of 2 ^ k addresses answers just the 2 ^ k addresses from its value without the low k bits.
abbrev pub BarAnswersItsSize : Type 0
BarAnswersItsSize =
    (kind : BarKind) (value mask k a : ℕ) → IsTrue (is_lawful kind mask k)
    → Answers kind value mask a
    ↔ ((value / 2 ^ k * 2 ^ k ≤ a) × (a ≤ value / 2 ^ k * 2 ^ k + (2 ^ k - 1)))

-- and so does a ROM
abbrev pub RomAnswersItsSize : Type 0
RomAnswersItsSize =
    (image probe : List ℕ) (k a : ℕ) → IsTrue (is_rom_size (rom_at image probe) k)
    → RomDecodes image probe a
    ↔ ((rom_at image image / 2 ^ k * 2 ^ k ≤ a)
    × (a ≤ rom_at image image / 2 ^ k * 2 ^ k + (2 ^ k - 1)))

-- the width of a BAR in bits
abbrev pub bar_bits : BarKind → ℕ
bar_bits IoBar = 32
bar_bits Memory32 = 32
bar_bits Memory64 = 64
bar_bits Reserved = 32

-- a BAR answers no address that its registers can't show
abbrev pub BarStaysInSpace : Type 0
BarStaysInSpace =
    (image probe : List ℕ) (n a : ℕ) → IsImage image → BarDecodes image probe n a
    → a < 2 ^ bar_bits (bar_kind (bar_at probe n))

abbrev pub RomStaysInSpace : Type 0
RomStaysInSpace =
    (image probe : List ℕ) (a : ℕ) → IsImage image → RomDecodes image probe a → a < 2 ^ 32

-- the first register starts a BAR
abbrev pub FirstRegisterStartsBar : Type 0
FirstRegisterStartsBar = (probe : List ℕ) → IsTrue (starts_bar probe 0)

-- the upper half of a 64-bit BAR is no BAR of its own
abbrev pub UpperHalfStartsNoBar : Type 0
UpperHalfStartsNoBar =
    (probe : List ℕ) (n : ℕ) → IsTrue (starts_bar probe n) → IsTrue (is_wide (bar_at probe n))
    → IsFalse (starts_bar probe (n + 1))

-- and each other register is: behind one that starts no 64-bit BAR, and behind an upper half
abbrev pub OtherRegistersStartBars : Type 0
OtherRegistersStartBars =
    (probe : List ℕ) (n : ℕ) → IsFalse (starts_bar probe n && is_wide (bar_at probe n))
    → IsTrue (starts_bar probe (n + 1))
