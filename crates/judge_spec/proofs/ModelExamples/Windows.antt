-- Windows that are taken as those that they show.
use Rattle.std.proofs.Common.{◌≡◌, ℕ, List, [], ◌∷◌, refl, true, false, None, Some, map}
use Rattle.pci_spec.specs.Window.{IoWindow, MemoryWindow, PrefetchWindow, Bounds, breaks_window_rule, is_closed}
use Rattle.pci_spec.specs.System.{Function}
use Rattle.pci_spec.specs.Decoded.{decoded_windows}
use Rattle.pci_spec.proofs.Examples.Samples.{bridge, device, on_bridge, range, read_backs, slot}
use Rattle.judge_spec.specs.ModelWords.{Words, no_words}
use Rattle.judge_spec.specs.Windows.{shown_nibble, windows_as_shown}
use Rattle.judge_spec.specs.Taken.{windows_aside}

abbrev windows_count : Words
windows_count = record no_words { windows = true }

abbrev bounds : ℕ → ℕ → ℕ → ℕ → Bounds
bounds base limit base_upper limit_upper = record { base = base; limit = limit; base_upper = base_upper; limit_upper = limit_upper }

-- 0 without upper halves, 1 with them; none where the limit shows another, or an upper half goes with 0, and 1 isn't of memory
io_nibbles : map (shown_nibble IoWindow) (bounds 0x10 0x20 0 0 ∷ bounds 0x11 0x21 0 0 ∷ bounds 0x11 0x21 1 2 ∷ bounds 0x10 0x21 0 0 ∷ bounds 0x10 0x20 1 0 ∷ bounds 0x10 0x20 0 1 ∷ bounds 0x12 0x22 0 0 ∷ [])
    ≡ Some 0 ∷ Some 1 ∷ Some 1 ∷ None ∷ None ∷ None ∷ None ∷ []
io_nibbles = refl

memory_nibbles : map (shown_nibble MemoryWindow) (bounds 0xe000 0xe010 0 0 ∷ bounds 0xe001 0xe011 0 0 ∷ bounds 0xe000 0xe011 0 0 ∷ []) ≡ Some 0 ∷ None ∷ None ∷ []
memory_nibbles = refl

prefetch_nibbles : map (shown_nibble PrefetchWindow) (bounds 0xf000 0xf010 0 0 ∷ bounds 1 0x11 8 8 ∷ bounds 0xf000 0xf010 0 8 ∷ bounds 0xf00f 0xf01f 0 0 ∷ []) ≡ Some 0 ∷ Some 1 ∷ None ∷ None ∷ []
prefetch_nibbles = refl

-- a bridge of which no window can be written: its windows read back what they show
abbrev shown : List (ℕ × ℕ)
shown = (0x1c, 0x00002010) ∷ (0x20, 0xe010e000) ∷ (0x24, 0x00110001) ∷ (0x28, 8) ∷ (0x2c, 8) ∷ []

abbrev fixed : Function
fixed = record { slot = slot 0 1 0; image = on_bridge shown; probe = read_backs shown }

before_words : map (λ kind. breaks_window_rule kind fixed.image fixed.probe) (IoWindow ∷ MemoryWindow ∷ PrefetchWindow ∷ []) ≡ true ∷ true ∷ true ∷ []
before_words = refl

with_the_word : map (λ kind. breaks_window_rule kind (windows_aside windows_count fixed).image (windows_aside windows_count fixed).probe) (IoWindow ∷ MemoryWindow ∷ PrefetchWindow ∷ []) ≡ false ∷ false ∷ false ∷ []
with_the_word = refl

they_decode : decoded_windows (windows_as_shown fixed).image (windows_as_shown fixed).probe ≡ record {
  io = Some record { wide = false; range = Some (range 0x1000 0x2fff) };
  memory = record { wide = false; range = Some (range 0xe0000000 0xe01fffff) };
  prefetch = Some record { wide = true; range = Some (range 0x800000000 0x8001fffff) };
}
they_decode = refl

without_the_word : windows_aside no_words fixed ≡ fixed
without_the_word = refl

-- where nothing of the memory window is there it is closed; one that shows 0 and reads back something is open at 0
abbrev no_memory : Function
no_memory = record { slot = slot 0 1 0; image = on_bridge []; probe = read_backs [] }

abbrev at_zero : Function
at_zero = record { slot = slot 0 1 0; image = on_bridge []; probe = read_backs ((0x20, 0xfff0) ∷ []) }

closed_where_nothing_is : map (λ f. is_closed MemoryWindow (windows_as_shown f).image) (no_memory ∷ at_zero ∷ []) ≡ true ∷ false ∷ []
closed_where_nothing_is = refl

both_have_no_fault : map (λ f. breaks_window_rule MemoryWindow (windows_as_shown f).image (windows_as_shown f).probe) (no_memory ∷ at_zero ∷ []) ≡ false ∷ false ∷ []
both_have_no_fault = refl

-- a window that has no 26 is left alone, and so is a device
lawful_bridge : windows_as_shown (bridge (slot 0 1 0) 7 0x010100 ((0x20, 0xe010e000) ∷ []) []) ≡ bridge (slot 0 1 0) 7 0x010100 ((0x20, 0xe010e000) ∷ []) []
lawful_bridge = refl

no_bridge : windows_aside windows_count (device (slot 0 1 0) 7 shown []) ≡ device (slot 0 1 0) 7 shown []
no_bridge = refl
