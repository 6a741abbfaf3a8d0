-- Bridges with ISA Enable: what their windows claim, forward and pass, and what is told of them.
use Rattle.std.proofs.Common.{◌≡◌, ◌*◌, ℕ, List, [], ◌∷◌, codes, refl, true, false, map, None, lit≤}
use Rattle.std.specs.Fmt.{digits}
use Rattle.std.proofs.lemmas.Bool.{both_ways}
use Rattle.pci_spec.specs.Slot.{Slot}
use Rattle.pci_spec.specs.Window.{IoWindow}
use Rattle.pci_spec.specs.System.{Function, Io, Memory, Bar, Window}
use Rattle.pci_spec.specs.Why.{scaled_text}
use Rattle.pci_spec.specs.Why as plain
use Rattle.pci_spec.proofs.Examples.Samples.{slot, device, bridge, range}
use Rattle.judge_spec.specs.Given.{Given, is_isa_port}
use Rattle.judge_spec.specs.Claims.{Own, Claims, forwards, passes}
use Rattle.judge_spec.specs.Words.{isa_bridges}
use Rattle.judge_spec.specs.Why.{region_line, bridge_line, Misses}
use Rattle.judge_spec.specs.Why as why
use Rattle.judge_spec.proofs.Examples.Reasons.{line}

-- the first 256 of each KB, and all from 64 KB on
which_ports : map is_isa_port (0 ∷ 0xff ∷ 0x100 ∷ 0x3ff ∷ 0x400 ∷ 0x4ff ∷ 0x500 ∷ 0x10ff ∷ 0x1100 ∷ 0xfcff ∷ 0xffff ∷ 0x10000 ∷ 0x10100 ∷ [])
    ≡ false ∷ false ∷ true ∷ true ∷ false ∷ false ∷ true ∷ false ∷ true ∷ false ∷ true ∷ false ∷ false ∷ []
which_ports = refl

-- a bridge by Bridge Control, with an I/O window of 4 KB and a memory window of 1 MB
abbrev with_control : ℕ → Function
with_control control =
    bridge (slot 0 1 0) 3 0x010100 ((0x1c, 0x1010) ∷ (0x20, 0xe000e000) ∷ (0x3c, control * 65536) ∷ []) ((0x1c, 0xf0f0) ∷ (0x20, 0xfff0fff0) ∷ [])

-- by bit 2 of Bridge Control; of a device 3Eh is Min_Gnt
by_control : map (λ control. isa_bridges (with_control control ∷ [])) (0 ∷ 4 ∷ 8 ∷ []) ≡ [] ∷ (slot 0 1 0 ∷ []) ∷ [] ∷ []
by_control = refl

no_device : isa_bridges (device (slot 0 1 0) 3 ((0x3c, 0x00040000) ∷ []) [] ∷ []) ≡ []
no_device = refl

abbrev pub isa_at : List Slot → Given
isa_at slots = record { io = None; memory = None; legacy = []; isa = slots; palette = []; unclaimed = [] }

abbrev enabled : Given
enabled = isa_at (slot 0 1 0 ∷ [])

forwarded : map (λ a. forwards enabled Io a (with_control 4)) (0xfff ∷ 0x1000 ∷ 0x10ff ∷ 0x1100 ∷ 0x13ff ∷ 0x1400 ∷ 0x1fff ∷ []) ≡ false ∷ true ∷ true ∷ false ∷ false ∷ true ∷ false ∷ []
forwarded = refl

of_another_bridge : forwards (isa_at (slot 0 2 0 ∷ [])) Io 0x1100 (with_control 4) ≡ true
of_another_bridge = refl

memory_is_left : passes enabled Memory false 0xe0000100 (with_control 4) ≡ true
memory_is_left = refl

window_is_cut : Claims enabled (with_control 4) (Own (Window IoWindow)) Io 0x1100 → ⊥
window_is_cut own = both_ways true own.kept refl

-- ---- what is told

abbrev window : plain.Region
window = record { slot = slot 0 1 0; register = 0x1c; part = Window IoWindow; space = Io; prefetchable = false; range = range 0x1000 0x1fff }

abbrev needed : plain.Region
needed = record { slot = slot 1 0 0; register = 0x10; part = Bar 0; space = Io; prefetchable = false; range = range 0x1100 0x11ff }

window_line : region_line enabled (codes "second") (why.Own window) ≡ line (codes "  second 00:01.0 1c window io 00001000-00001fff 4K isa")
unfolding scaled_text digits
window_line = refl

bar_line : region_line enabled (codes "first") (why.Own needed) ≡ line (codes "  first 01:00.0 10 bar io 00001100-000011ff 256")
unfolding scaled_text digits
bar_line = refl

its_line : bridge_line enabled (with_control 4) Io false ≡ line (codes "  bridge 00:01.0 on io 00001000-00001fff isa")
its_line = refl

its_memory_line : bridge_line enabled (with_control 4) Memory false ≡ line (codes "  bridge 00:01.0 on mem 00000000e0000000-00000000e00fffff")
its_memory_line = refl

missed : Misses enabled (why.Own needed) (with_control 4) 0x1100
missed = (((lit≤ tt, lit≤ tt), refl), refl)
