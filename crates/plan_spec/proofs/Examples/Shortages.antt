-- What a class lacks that doesn't fit its pool, and what its line reads.
use Rattle.std.proofs.Common.{◌≡◌, ℕ, ◌*◌, ◌^◌, List, [], ◌∷◌, ◌++◌, codes, refl}
use Rattle.std.specs.Fmt.{digits}
use Rattle.pci_spec.specs.Window.{IoWindow, MemoryWindow, PrefetchWindow}
use Rattle.pci_spec.specs.Why.{scaled_text}
use Rattle.plan_spec.specs.Plan.{Shortage, shortage, items_within, doubled_to}
use Rattle.plan_spec.specs.PlanLine.{shortage_line}
use Rattle.pci_spec.proofs.Examples.Samples.{host}
use Rattle.plan_spec.proofs.Examples.Plans.{pool, three, with_rom}

abbrev lacking : ℕ → ℕ → ℕ → Shortage
lacking needed start available = record { needed = needed; start = start; available = available }

abbrev line : List ℕ → List ℕ
line text = text ++ 10 ∷ []

-- ---- what is lacking

-- a BAR of 4 KB and a ROM of 64 KB, in a pool that begins in the middle of a multiple of 64 KB
start_is_raised : shortage host with_rom (three (pool 0x1000 0xffff) (pool 0xe0000800 0xe00107ff) (pool 0x100000000 0x1ffffffff)) MemoryWindow
    ≡ lacking 0x11000 0xe0010000 0x800
unfolding items_within doubled_to
start_is_raised = refl

start_is_past_the_end : shortage host with_rom (three (pool 0x1000 0xffff) (pool 0xe0000800 0xe0000fff) (pool 0x100000000 0x1ffffffff)) MemoryWindow
    ≡ lacking 0x11000 0xe0010000 0
unfolding items_within doubled_to
start_is_past_the_end = refl

-- ---- lines

line_of_memory : shortage_line MemoryWindow (lacking 0x11000 0xe0010000 0x800) ≡ line (codes "  needs 68K from 00000000e0010000, has 2K")
unfolding scaled_text digits
line_of_memory = refl

line_of_io : shortage_line IoWindow (lacking 0x300 0xf000 0x100) ≡ line (codes "  needs 768 from 0000f000, has 256")
unfolding scaled_text digits
line_of_io = refl

-- prefetchable memory from 2 ^ 64 on, where no pool has addresses
line_past_all_memory : shortage_line PrefetchWindow (lacking (3 * 2 ^ 63) (2 ^ 64) 0) ≡ line (codes "  needs 24E from 10000000000000000, has 0")
unfolding scaled_text digits
line_past_all_memory = refl

line_past_32_bits_of_io : shortage_line IoWindow (lacking (2 ^ 32) (2 ^ 32) 0) ≡ line (codes "  needs 4G from 100000000, has 0")
unfolding scaled_text digits
line_past_32_bits_of_io = refl
