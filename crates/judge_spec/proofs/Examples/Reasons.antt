-- What is told behind a fault with what is given: lines, what a bridge misses, what is taken.
use Rattle.std.proofs.Common.{◌≡◌, ℕ, List, [], ◌∷◌, ◌++◌, codes, refl, Bool, true, false, map, lit≤, lit<, inl, inr}
use Rattle.std.specs.Prelude.{◌↔◌}
use Rattle.std.proofs.lemmas.Bool.{both_ways}
use Rattle.pci_spec.specs.Window.{MemoryWindow}
use Rattle.pci_spec.specs.System.{Function, Io, Memory, Bar, Window}
use Rattle.pci_spec.specs.Mark.{assumed_at}
use Rattle.pci_spec.specs.Why as plain
use Rattle.pci_spec.proofs.Examples.Samples.{slot, device, bridge, range}
use Rattle.judge_spec.specs.Given.{LegacyBridge, nothing_given}
use Rattle.judge_spec.specs.ToldClaims.{Told, nothing_told}
use Rattle.judge_spec.specs.Why.{Own, Legacy, IsFit, IsFitBehind, legacy_words, region_line, ranges_for, host_line, bridge_line, Misses, IsBeside}
use Rattle.judge_spec.proofs.Examples.Ranges.{to_each, to_root, sent_memory}
use Rattle.judge_spec.proofs.Examples.Legacy.{legacy_at}

abbrev pub line : List ℕ → List ℕ
line text = text ++ 10 ∷ []

abbrev untold : Told
untold = nothing_told []

-- ---- legacy parts: the word is that of the bridge, and 10 bits count where an entry has them

abbrev entry : ℕ → Bool → LegacyBridge
entry device wide = record { slot = slot 0 device 0; is_wide = wide }

by_entries : map (λ entries. legacy_words (legacy_at entries) (slot 0 1 0)) ((entry 1 false ∷ []) ∷ (entry 1 true ∷ []) ∷ (entry 2 true ∷ []) ∷ (entry 1 true ∷ entry 1 false ∷ []) ∷ [] ∷ [])
    ≡ (codes "vga" ∷ []) ∷ (codes "vga16" ∷ []) ∷ [] ∷ (codes "vga" ∷ []) ∷ [] ∷ []
by_entries = refl

abbrev closed : Function
closed = bridge (slot 0 1 0) 2 0x010100 ((0x20, 0x0000fff0) ∷ []) ((0x20, 0xfff0fff0) ∷ [])

of_ten_bits : region_line (legacy_at (entry 1 false ∷ [])) (codes "first") (Legacy closed Io) ≡ line (codes "  first 00:01.0 3e vga io 000003b0-000003bb,000003c0-000003df of each 1K")
of_ten_bits = refl

of_16_bits : region_line (legacy_at (entry 1 true ∷ [])) (codes "first") (Legacy closed Io) ≡ line (codes "  first 00:01.0 3e vga16 io 000003b0-000003bb,000003c0-000003df")
of_16_bits = refl

frame_buffer : region_line (legacy_at (entry 1 true ∷ [])) (codes "second") (Legacy closed Memory) ≡ line (codes "  second 00:01.0 3e vga mem 00000000000a0000-00000000000bffff 128K")
frame_buffer = refl

-- ---- what the host sends: the ranges of the root alone, as the list has them

in_their_order : host_line Memory (ranges_for 0 (to_each 0xe0080000 0xefffffff ∷ to_root 0x40 0xf0000000 0xffffffff ∷ to_root 0 0xe0000000 0xe007fffe ∷ []))
    ≡ line (codes "  host mem 00000000e0080000-00000000efffffff 00000000e0000000-00000000e007fffe")
in_their_order = refl

none_for_the_root : host_line Io (ranges_for 0 (to_root 0x40 0xf0000000 0xffffffff ∷ [])) ≡ line (codes "  host io none")
none_for_the_root = refl

-- ---- bridges

with_its_word : bridge_line (legacy_at (entry 1 false ∷ [])) closed Memory false ≡ line (codes "  bridge 00:01.0 on mem closed vga")
with_its_word = refl

without_one : bridge_line (legacy_at (entry 2 false ∷ [])) closed Memory false ≡ line (codes "  bridge 00:01.0 on mem closed")
without_one = refl

abbrev needed : plain.Region
needed = record { slot = slot 1 0 0; register = 0x10; part = Bar 0; space = Memory; prefetchable = false; range = range 0x80000 0xbffff }

below_the_legacy_part : Misses (legacy_at (entry 1 false ∷ [])) (Own needed) closed 0x9ffff
below_the_legacy_part = (((lit≤ tt, lit≤ tt), refl), refl)

what_it_passes_is_not_missed : Misses (legacy_at (entry 1 false ∷ [])) (Own needed) closed 0xa0000 → ⊥
what_it_passes_is_not_missed misses = both_ways true misses.1 refl

-- ---- on another root bus what the host sends there counts, and nothing else

abbrev moved : plain.Region
moved = record { slot = slot 0x40 1 0; register = 0x10; part = Bar 0; space = Memory; prefetchable = false; range = range 0xe0000000 0xe00fffff }

abbrev other : Function
other = device (slot 0 1 0) 2 ((0x10, 0xe0000000) ∷ []) ((0x10, 0xfff00000) ∷ [])

sent_to_both : IsBeside (sent_memory (to_each 0xe0000000 0xefffffff ∷ [])) (0 ∷ 0x40 ∷ []) moved 0xe0000000 0
sent_to_both = inr ((1, lit< tt, refl), (0, lit< tt, refl), refl)

sent_to_one_alone : IsBeside (sent_memory (to_root 0x40 0xe0000000 0xefffffff ∷ [])) (0 ∷ 0x40 ∷ []) moved 0xe0000000 0 → ⊥
sent_to_one_alone (inl same) = cc
sent_to_one_alone (inr both) = both_ways false refl both.2

-- ---- where the read back of a register is assumed, no place is known

place_of_an_assumed_size : IsFitBehind (assumed_at (slot 0x40 1 0) 0x10 ∷ []) untold (sent_memory (to_each 0xe0000000 0xefffffff ∷ [])) (0x40 ∷ []) (other ∷ []) (Own moved) (line (codes "  fits unknown"))
place_of_an_assumed_size = refl

place_beside_an_assumed_size : (lines : List ℕ) → IsFitBehind (assumed_at (slot 0x40 1 0) 0x14 ∷ []) untold (sent_memory []) (0x40 ∷ []) (other ∷ []) (Own moved) lines
    ↔ IsFit untold (sent_memory []) (0x40 ∷ []) (other ∷ []) moved lines
place_beside_an_assumed_size lines = (λ fit. fit, λ fit. fit)

-- on a root bus of which nothing is said there is no such line
nothing_is_told_at_a_root : IsFitBehind (assumed_at (slot 0x40 1 0) 0x10 ∷ []) untold nothing_given (0x40 ∷ []) (other ∷ []) (Own moved) []
nothing_is_told_at_a_root = refl

-- nor of a window, on a root bus of which something is said and elsewhere
abbrev window_moved : plain.Region
window_moved = record moved { part = Window MemoryWindow; register = 0x20 }

no_window_moves_alone : IsFitBehind [] untold (sent_memory []) (0x40 ∷ []) (other ∷ []) (Own window_moved) []
no_window_moves_alone = refl

no_window_moves_alone_behind : IsFitBehind [] untold nothing_given (0 ∷ []) (other ∷ []) (Own window_moved) []
no_window_moves_alone_behind = refl

-- nor of a legacy part
no_legacy_part_moves : IsFitBehind (assumed_at (slot 0 1 0) 0x3e ∷ []) untold nothing_given (0 ∷ []) (closed ∷ []) (Legacy closed Memory) []
no_legacy_part_moves = refl
