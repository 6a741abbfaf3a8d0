-- What is told behind a fault of judging: amounts, lines, runs of addresses, places.
use Rattle.std.proofs.Common.{◌≡◌, ℕ, ◌-◌, ◌*◌, ◌^◌, List, [], ◌∷◌, ◌++◌, codes, refl, zero, suc, ◌<◌, Bool, true, false, arith, lit<, lit≤, None, Some, sym, ap, get_or}
use Rattle.std.specs.Prelude.{◌↔◌}
use Rattle.std.specs.List.{Any}
use Rattle.std.specs.Fmt.{digits}
use Rattle.pci_spec.specs.Number.{each_from, some_from}
use Rattle.pci_spec.specs.Slot.{Slot}
use Rattle.pci_spec.specs.Window.{IoWindow, MemoryWindow, PrefetchWindow}
use Rattle.pci_spec.specs.System.{Function, System, Space, Io, Memory, Part, Bar, Rom, Window, Claims}
use Rattle.pci_spec.specs.Fault.{Orphan}
use Rattle.pci_spec.specs.Decoded.{Range, InRange}
use Rattle.pci_spec.specs.Mark.{assumed_at}
use Rattle.pci_spec.specs.Why.{scaled_text, amount_text, Region, region_line, bridge_line, fits_line, IsRun, AreRuns, Misses, IsPlaceFor, IsFit, IsFitBehind, IsEvidence, off_lines}
use Rattle.pci_spec.proofs.Bits.{interval-agrees}
use Rattle.pci_spec.proofs.Examples.Samples.{slot, device, bridge, range, host}

abbrev line : List ℕ → List ℕ
line text = text ++ 10 ∷ []

-- ---- amounts

few_are_told_as_they_are : amount_text 256 ≡ codes "256"
unfolding scaled_text digits
few_are_told_as_they_are = refl

kilobytes : amount_text 4096 ≡ codes "4K"
unfolding scaled_text digits
kilobytes = refl

no_multiple_of_a_kilobyte : amount_text 1536 ≡ codes "1536"
unfolding scaled_text digits
no_multiple_of_a_kilobyte = refl

some_megabytes : amount_text (3 * 2 ^ 20) ≡ codes "3M"
unfolding scaled_text digits
some_megabytes = refl

half_a_gigabyte_more : amount_text (3 * 2 ^ 29) ≡ codes "1536M"
unfolding scaled_text digits
half_a_gigabyte_more = refl

all_of_memory_space : amount_text (2 ^ 64) ≡ codes "16E"
unfolding scaled_text digits
all_of_memory_space = refl

-- ---- lines

abbrev region : ℕ → Part → Space → Bool → ℕ → ℕ → Region
region register part space prefetchable first last =
    record { slot = slot 0 3 0; register = register; part = part; space = space; prefetchable = prefetchable; range = range first last }

bar_of_memory : region_line (codes "second") (region 0x10 (Bar 0) Memory false 0xe0800000 0xe08fffff)
    ≡ line (codes "  second 00:03.0 10 bar mem 00000000e0800000-00000000e08fffff 1M")
unfolding scaled_text digits
bar_of_memory = refl

prefetchable_bar : region_line (codes "needs") (region 0x14 (Bar 1) Memory true 0xe0000000 0xe03fffff)
    ≡ line (codes "  needs 00:03.0 14 bar mem pref 00000000e0000000-00000000e03fffff 4M")
unfolding scaled_text digits
prefetchable_bar = refl

bar_of_io : region_line (codes "first") (region 0x24 (Bar 5) Io false 0xe000 0xe0ff)
    ≡ line (codes "  first 00:03.0 24 bar io 0000e000-0000e0ff 256")
unfolding scaled_text digits
bar_of_io = refl

rom : region_line (codes "needs") (region 0x30 Rom Memory false 0xe0020000 0xe00207ff)
    ≡ line (codes "  needs 00:03.0 30 rom mem 00000000e0020000-00000000e00207ff 2K")
unfolding scaled_text digits
rom = refl

-- a window's kind is its own: it is no prefetchable BAR
prefetchable_window : region_line (codes "first") (region 0x24 (Window PrefetchWindow) Memory false 0 (2 ^ 64 - 1))
    ≡ line (codes "  first 00:03.0 24 window mem pref 0000000000000000-ffffffffffffffff 16E")
unfolding scaled_text digits
prefetchable_window = refl

memory_window : region_line (codes "first") (region 0x20 (Window MemoryWindow) Memory false 0xe0000000 0xe01fffff)
    ≡ line (codes "  first 00:03.0 20 window mem 00000000e0000000-00000000e01fffff 2M")
unfolding scaled_text digits
memory_window = refl

io_window : region_line (codes "first") (region 0x1c (Window IoWindow) Io false 0x1000 0x3fff)
    ≡ line (codes "  first 00:03.0 1c window io 00001000-00003fff 12K")
unfolding scaled_text digits
io_window = refl

a_place : fits_line Memory (Some (range 0xe0010000 0xe001ffff)) ≡ line (codes "  fits 00000000e0010000-00000000e001ffff 64K")
unfolding scaled_text digits
a_place = refl

no_place : fits_line Memory None ≡ line (codes "  fits none")
no_place = refl

-- ---- a bridge with two windows, and what it misses of a prefetchable BAR

abbrev above : ℕ → Function
above command = bridge (slot 0 1 0) command 0x010100 ((0x20, 0xe000e000) ∷ (0x24, 0xe020e020) ∷ []) ((0x24, 0xfff0fff0) ∷ [])

bridge_that_is_on : bridge_line (above 2) Memory true
    ≡ line (codes "  bridge 00:01.0 on mem 00000000e0000000-00000000e00fffff pref 00000000e0200000-00000000e02fffff")
bridge_that_is_on = refl

-- other memory goes through one window alone
plain_memory : bridge_line (above 1) Memory false ≡ line (codes "  bridge 00:01.0 off mem 00000000e0000000-00000000e00fffff")
plain_memory = refl

io_without_a_window : bridge_line (above 1) Io false ≡ line (codes "  bridge 00:01.0 on io none")
io_without_a_window = refl

closed_prefetchable_window : bridge_line (bridge (slot 0 1 0) 2 0x010100 ((0x20, 0xe000e000) ∷ (0x24, 0x0000fff0) ∷ []) ((0x24, 0xfff0fff0) ∷ [])) Memory true
    ≡ line (codes "  bridge 00:01.0 on mem 00000000e0000000-00000000e00fffff pref closed")
closed_prefetchable_window = refl

abbrev needed : Region
needed = record { slot = slot 1 0 0; register = 0x10; part = Bar 0; space = Memory; prefetchable = true; range = range 0xe0000000 0xe03fffff }

-- a run ends where a window begins
longer_run_is_none : IsRun (Misses needed (above 2)) (range 0xe0100000 0xe0200000) → ⊥
longer_run_is_none run = (let passed : true ≡ false = (run.each 0xe0200000 (lit≤ tt, lit≤ tt)).1 in cc)

-- and begins behind one
shorter_run_is_none : IsRun (Misses needed (above 2)) (range 0xe0100001 0xe01fffff) → ⊥
shorter_run_is_none run = run.before 0xe0100000 refl ((lit≤ tt, lit≤ tt), refl)

run_cut_off_is_none : IsRun (Misses needed (above 2)) (range 0xe0100000 0xe01ffffe) → ⊥
run_cut_off_is_none run = run.behind ((lit≤ tt, lit≤ tt), refl)

-- no address behind the region is missed
run_past_the_region_is_none : IsRun (Misses needed (above 2)) (range 0xe0300000 0xe0400000) → ⊥
run_past_the_region_is_none run = (let beyond = (run.each 0xe0400000 (lit≤ tt, lit≤ tt)).0.1 in omega (arith, beyond))

the_only : (r x : Range) (k : ℕ) → k < 1 → get_or (r ∷ []) k x ≡ x → r ≡ x
the_only r x zero within is = is
the_only r x (suc k) within is = absurd (let no : ⊥ = omega (arith, within) in no)

-- each run is told
one_of_two_runs_is_not_all : AreRuns (Misses needed (above 2)) (range 0xe0100000 0xe01fffff ∷ []) → ⊥
one_of_two_runs_is_not_all runs =
    let told : Any (λ r. InRange r 0xe0300000) (range 0xe0100000 0xe01fffff ∷ []) = runs.complete 0xe0300000 ((lit≤ tt, lit≤ tt), refl) in
    let is = the_only (range 0xe0100000 0xe01fffff) told.1 told.0 told.2 told.3 in
    let last : told.1.last ≡ 0xe01fffff = sym (ap (λ (r : Range). r.last) is) in
    let held = told.4.1 in
    omega (arith, held, last)

-- ---- places on bus 01, for a BAR of 64 KB beside one of 4 KB

abbrev small : Function
small = device (slot 1 0 0) 2 ((0x10, 0xe0000000) ∷ []) ((0x10, 0xfffff000) ∷ [])

abbrev moved : Function
moved = device (slot 1 1 0) 2 ((0x10, 0xe0000000) ∷ []) ((0x10, 0xffff0000) ∷ [])

abbrev three : System
three = above 2 ∷ small ∷ moved ∷ []

abbrev of_moved : Region
of_moved = record { slot = slot 1 1 0; register = 0x10; part = Bar 0; space = Memory; prefetchable = false; range = range 0xe0000000 0xe000ffff }

small_claims : Claims small (Bar 0) Memory 0xe0000fff
unfolding each_from
small_claims = record { there = refl; enabled = refl; maps = refl; address = lit< tt; decodes = (refl, (12, refl, interval-agrees 12 0xe0000fff 0xe0000000 (lit≤ tt) (lit≤ tt))) }

-- the last address that another region claims
place_of_another_is_none : IsPlaceFor host three of_moved false 0xe0000000 → ⊥
place_of_another_is_none place = place.free 0xe0000fff (lit≤ tt) (lit< tt) record {
  f = small;
  part = Bar 0;
  listed = (1, lit< tt, refl);
  on_bus = refl;
  other = λ same. let device = ap (λ (x : Slot). x.device) same.0 in omega (arith, device);
  claims = small_claims;
}

place_between_multiples_is_none : IsPlaceFor host three of_moved false 0xe0018000 → ⊥
place_between_multiples_is_none place = let aligned = place.aligned in omega (arith, aligned)

-- its register has 32 bits
place_above_4_gigabytes_is_none : IsPlaceFor host three of_moved false (2 ^ 32) → ⊥
place_above_4_gigabytes_is_none place = let fits = place.fits in omega (arith, fits)

abbrev of_io : Region
of_io = record { slot = slot 1 1 0; register = 0x10; part = Bar 0; space = Io; prefetchable = false; range = range 0xe000 0xe0ff }

place_above_64_kilobytes_of_io_is_none : IsPlaceFor host three of_io false (2 ^ 16) → ⊥
place_above_64_kilobytes_of_io_is_none place = let fits = place.fits in omega (arith, fits)

-- ---- regions whose size isn't known

place_of_an_assumed_size : IsFitBehind (assumed_at (slot 1 1 0) 0x10 ∷ []) host three of_moved (line (codes "  fits unknown"))
place_of_an_assumed_size = refl

-- another register of the function that is assumed leaves its place as it was
place_beside_an_assumed_size : (lines : List ℕ) → IsFitBehind (assumed_at (slot 1 1 0) 0x14 ∷ []) host three of_moved lines ↔ IsFit host three of_moved lines
place_beside_an_assumed_size lines = (λ fit. fit, λ fit. fit)

-- and so does the same register of another function
place_beside_an_assumed_function : (lines : List ℕ) → IsFitBehind (assumed_at (slot 1 0 0) 0x10 ∷ []) host three of_moved lines ↔ IsFit host three of_moved lines
place_beside_an_assumed_function lines = (λ fit. fit, λ fit. fit)

abbrev at_the_root : Region
at_the_root = record { slot = slot 0 3 0; register = 0x10; part = Bar 0; space = Memory; prefetchable = false; range = range 0xe0000000 0xe000ffff }

nothing_is_told_at_a_root : IsFitBehind (assumed_at (slot 0 3 0) 0x10 ∷ []) host three at_the_root []
nothing_is_told_at_a_root = refl

-- nor of a window behind a bridge, as what is behind it would not move with it
abbrev window_behind : Region
window_behind = record of_moved { part = Window MemoryWindow; register = 0x20 }

nothing_is_told_of_a_window : IsFitBehind [] host three window_behind []
nothing_is_told_of_a_window = refl

-- ---- faults that aren't of judging, and BARs that are off

nothing_behind_an_orphan : IsEvidence [] (Orphan (slot 0 0 0)) []
nothing_behind_an_orphan = refl

abbrev off_and_on : System
off_and_on = device (slot 0 1 0) 1 ((0x10, 0xe001) ∷ (0x14, 0x8) ∷ []) ((0x10, 0xffffff01) ∷ (0x14, 0xfff00008) ∷ [])
    ∷ device (slot 0 2 0) 2 ((0x10, 0xe001) ∷ (0x14, 0x8) ∷ []) ((0x10, 0xffffff01) ∷ (0x14, 0xfff00008) ∷ []) ∷ []

bars_that_are_off : off_lines off_and_on
    ≡ line (codes "off 00:01.0 14 bar mem pref 0000000000000000-00000000000fffff 1M")
    ++ line (codes "off 00:02.0 10 bar io 0000e000-0000e0ff 256")
unfolding scaled_text digits each_from some_from
bars_that_are_off = refl
