-- Under which window of a bridge an address belongs.
use Rattle.std.proofs.Common.{◌≡◌, ℕ, [], ◌∷◌, refl, map, true, false}
use Rattle.pci_spec.specs.Window.{IoWindow, MemoryWindow, PrefetchWindow}
use Rattle.pci_spec.specs.System.{Function, Io, Memory}
use Rattle.pci_spec.proofs.Examples.Samples.{slot, bridge}
use Rattle.judge_spec.specs.Given.{nothing_given}
use Rattle.judge_spec.specs.Lines.{is_first_window}

-- memory E0000000 to E02FFFFF, prefetchable E0200000 to E04FFFFF, no I/O
abbrev windows : ℕ → Function
windows command = bridge (slot 0 1 0) command 0x010100 ((0x20, 0xe020e000) ∷ (0x24, 0xe041e021) ∷ []) ((0x24, 0xfff1fff1) ∷ (0x28, 0xffffffff) ∷ (0x2c, 0xffffffff) ∷ [])

-- where both hold it the one with the lower register
of_memory : map (λ a. is_first_window nothing_given Memory MemoryWindow a (windows 7)) (0xdfffffff ∷ 0xe0000000 ∷ 0xe02fffff ∷ 0xe0300000 ∷ [])
    ≡ false ∷ true ∷ true ∷ false ∷ []
of_memory = refl

of_prefetch : map (λ a. is_first_window nothing_given Memory PrefetchWindow a (windows 7)) (0xe01fffff ∷ 0xe0200000 ∷ 0xe02fffff ∷ 0xe0300000 ∷ 0xe04fffff ∷ 0xe0500000 ∷ [])
    ≡ false ∷ false ∷ false ∷ true ∷ true ∷ false ∷ []
of_prefetch = refl

-- where Command doesn't enable the space a window has nothing
off : map (λ kind. is_first_window nothing_given Memory kind 0xe0000000 (windows 1)) (MemoryWindow ∷ PrefetchWindow ∷ []) ≡ false ∷ false ∷ []
off = refl

-- I/O goes by its own window
abbrev io_window : Function
io_window = bridge (slot 0 1 0) 1 0x010100 ((0x1c, 0xe0e0) ∷ []) ((0x1c, 0xf0f0) ∷ [])

of_io : map (λ a. is_first_window nothing_given Io IoWindow a io_window) (0xdfff ∷ 0xe000 ∷ 0xefff ∷ 0xf000 ∷ []) ≡ false ∷ true ∷ true ∷ false ∷ []
of_io = refl

-- with ISA Enable it has the first 256 ports of each KB
of_io_cut : map (λ a. is_first_window (record nothing_given { isa = slot 0 1 0 ∷ [] }) Io IoWindow a io_window) (0xe000 ∷ 0xe0ff ∷ 0xe100 ∷ 0xe3ff ∷ 0xe400 ∷ []) ≡ true ∷ true ∷ false ∷ false ∷ true ∷ []
of_io_cut = refl
