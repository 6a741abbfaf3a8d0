-- Laws of bridge windows.
use Rattle.std.specs.Prelude.{◌≡◌, ℕ, ◌+◌, ◌*◌, ◌/◌, ◌-◌, ◌^◌, ◌<◌, ◌≤◌, ◌↔◌, IsTrue, IsFalse, List}
use Rattle.pci_spec.specs.Number.{byte_at, number_at, IsImage}
use Rattle.pci_spec.specs.Window.{WindowKind, IoWindow, MemoryWindow, PrefetchWindow, has_window, base_page, limit_page, page_size, is_closed, holds, is_wide_window, breaks_window_rule}

-- A window that is there holds just the addresses from the first of its base's page to the last of its limit's.
abbrev pub WindowHoldsItsPages : Type 0
WindowHoldsItsPages =
    (kind : WindowKind) (image probe : List ℕ) (a : ℕ) → IsTrue (has_window kind probe)
    → IsTrue (holds kind image probe a)
    ↔ ((base_page kind image * page_size kind ≤ a)
    × (a ≤ limit_page kind image * page_size kind + (page_size kind - 1)))

-- it holds all addresses of a page or none
abbrev pub WindowHoldsWholePages : Type 0
WindowHoldsWholePages =
    (kind : WindowKind) (image probe : List ℕ) (a b : ℕ) → a / page_size kind ≡ b / page_size kind
    → holds kind image probe a ≡ holds kind image probe b

-- the base's page and the limit's are held too where base isn't above limit
abbrev pub OpenWindowHoldsItsEnds : Type 0
OpenWindowHoldsItsEnds =
    (kind : WindowKind) (image probe : List ℕ) → IsTrue (has_window kind probe)
    → IsFalse (is_closed kind image)
    → IsTrue (holds kind image probe (base_page kind image * page_size kind))
    × IsTrue
    (holds kind image probe (limit_page kind image * page_size kind + (page_size kind - 1)))

abbrev pub ClosedWindowHoldsNothing : Type 0
ClosedWindowHoldsNothing =
    (kind : WindowKind) (image probe : List ℕ) (a : ℕ) → IsTrue (is_closed kind image)
    → IsFalse (holds kind image probe a)

abbrev pub AbsentWindowHoldsNothing : Type 0
AbsentWindowHoldsNothing =
    (kind : WindowKind) (image probe : List ℕ) (a : ℕ) → IsFalse (has_window kind probe)
    → IsFalse (holds kind image probe a)

-- By the registers: bits 15:12 of an I/O window's ends are the high nibbles of I/O Base and Limit, bits 31:16 are the upper halves,
-- and it has all 4 KB of its last page.
abbrev pub IoWindowEnds : Type 0
IoWindowEnds =
    (image probe : List ℕ) (a : ℕ) → IsTrue (has_window IoWindow probe)
    → IsTrue (holds IoWindow image probe a)
    ↔ ((number_at image 0x30 2 * 2 ^ 16 + byte_at image 0x1c / 16 * 2 ^ 12 ≤ a)
    × (a ≤ number_at image 0x32 2 * 2 ^ 16 + byte_at image 0x1d / 16 * 2 ^ 12 + 0xfff))

-- bits 31:20 of a memory window's ends are the twelve high bits of Memory Base and Limit, and it has all 1 MB of its last page
abbrev pub MemoryWindowEnds : Type 0
MemoryWindowEnds =
    (image probe : List ℕ) (a : ℕ) → IsTrue (has_window MemoryWindow probe)
    → IsTrue (holds MemoryWindow image probe a)
    ↔ ((number_at image 0x20 2 / 16 * 2 ^ 20 ≤ a)
    × (a ≤ number_at image 0x22 2 / 16 * 2 ^ 20 + 0xf_ffff))

-- and those of a prefetchable window, with bits 63:32 in the upper halves
abbrev pub PrefetchWindowEnds : Type 0
PrefetchWindowEnds =
    (image probe : List ℕ) (a : ℕ) → IsTrue (has_window PrefetchWindow probe)
    → IsTrue (holds PrefetchWindow image probe a)
    ↔ ((number_at image 0x28 4 * 2 ^ 32 + number_at image 0x24 2 / 16 * 2 ^ 20 ≤ a)
    × (a ≤ number_at image 0x2c 4 * 2 ^ 32 + number_at image 0x26 2 / 16 * 2 ^ 20 + 0xf_ffff))

-- the width of a window's addresses
abbrev pub window_bits : WindowKind → ℕ
window_bits IoWindow = 32
window_bits MemoryWindow = 32
window_bits PrefetchWindow = 64

-- and without its upper halves
abbrev pub narrow_bits : WindowKind → ℕ
narrow_bits IoWindow = 16
narrow_bits MemoryWindow = 32
narrow_bits PrefetchWindow = 32

-- a window holds no address that its registers can't show
abbrev pub WindowStaysInSpace : Type 0
WindowStaysInSpace =
    (kind : WindowKind) (image probe : List ℕ) (a : ℕ) → IsImage image
    → IsTrue (holds kind image probe a) → a < 2 ^ window_bits kind

-- a window that keeps its rule and has no upper halves holds low addresses alone
abbrev pub NarrowWindowStaysLow : Type 0
NarrowWindowStaysLow =
    (kind : WindowKind) (image probe : List ℕ) (a : ℕ) → IsImage image
    → IsFalse (breaks_window_rule kind image probe)
    → IsFalse (is_wide_window kind probe) → IsTrue (holds kind image probe a)
    → a < 2 ^ narrow_bits kind

-- a memory window that keeps its rule is there, and has no upper halves
abbrev pub MemoryWindowIsThere : Type 0
MemoryWindowIsThere =
    (image probe : List ℕ) → IsFalse (breaks_window_rule MemoryWindow image probe)
    → IsTrue (has_window MemoryWindow probe) × IsFalse (is_wide_window MemoryWindow probe)
