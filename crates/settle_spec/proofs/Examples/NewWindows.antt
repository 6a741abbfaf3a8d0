-- New windows of small trees, by the bus behind each.
use Rattle.std.proofs.Common.{◌≡◌, ℕ, [], ◌∷◌, refl, true, None, Some}
use Rattle.pci_spec.specs.Window.{IoWindow, MemoryWindow, PrefetchWindow}
use Rattle.pci_spec.specs.System.{System, Function}
use Rattle.pci_spec.proofs.Examples.Samples.{slot, device, bridge}
use Rattle.settle_spec.specs.Lists.{Request}
use Rattle.settle_spec.specs.Items.{window_within, window_to}
use Rattle.settle_spec.proofs.Examples.Settlings.{request, over}

abbrev anew : Request
anew = record request { anew = true }

-- three BARs of 1 MB behind a bridge
abbrev three : System
three = over 0 0xfff0 ∷ device (slot 1 0 0) 0 [] ((0x10, 0xfff00000) ∷ (0x14, 0xfff00000) ∷ (0x18, 0xfff00000) ∷ []) ∷ []

three_mb : window_to anew three MemoryWindow 1 ≡ Some record { size = 0x300000; alignment = 0x100000; highest = 0xffff_ffff }
unfolding window_within
three_mb = refl

-- nothing of another class is behind it,
no_io : window_to anew three IoWindow 1 ≡ None
unfolding window_within
no_io = refl

-- and no bridge leads to its own bus
no_bridge : window_to anew three MemoryWindow 0 ≡ None
unfolding window_within
no_bridge = refl

-- a bridge to bus 1 that has prefetchable windows of 64 bits, and another behind it to bus 2
abbrev wide_over : ℕ → ℕ → Function
wide_over bus buses = bridge (slot bus 0 0) 0 buses ((0x24, 0x0001fff1) ∷ []) ((0x24, 0xfff1fff1) ∷ (0x28, 0xffffffff) ∷ (0x2c, 0xffffffff) ∷ [])

-- prefetchable BARs that take half of all addresses each, and one of 4 KB
abbrev half : ℕ → Function
half bus = device (slot bus 1 0) 0 ((0x10, 0xc) ∷ []) ((0x10, 0xc) ∷ (0x14, 0x80000000) ∷ [])

abbrev small : ℕ → Function
small bus = device (slot bus 2 0) 0 ((0x10, 0xc) ∷ []) ((0x10, 0xfffff00c) ∷ (0x14, 0xffffffff) ∷ [])

-- a window around a window is as aligned as that
half_and_some : window_to anew (wide_over 0 0x20100 ∷ wide_over 1 0x20201 ∷ half 2 ∷ small 2 ∷ []) PrefetchWindow 1 ≡ Some record { size = 0x8000_0000_0010_0000; alignment = 0x8000_0000_0000_0000; highest = 0xffff_ffff_ffff_ffff }
unfolding window_within
half_and_some = refl

-- two halves are all of memory
two_halves : window_to anew (wide_over 0 0x20100 ∷ wide_over 1 0x20201 ∷ half 1 ∷ half 2 ∷ []) PrefetchWindow 1 ≡ Some record { size = 0x1_0000_0000_0000_0000; alignment = 0x8000_0000_0000_0000; highest = 0xffff_ffff_ffff_ffff }
unfolding window_within
two_halves = refl
