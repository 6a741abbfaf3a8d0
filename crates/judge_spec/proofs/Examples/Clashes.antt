-- Clashes of legacy parts, what they may share, and what they pass.
use Rattle.std.proofs.Common.{◌≡◌, ◌*◌, ℕ, [], ◌∷◌, refl, true, false, arith, lit<, lit≤, ap, map}
use Rattle.std.proofs.lemmas.Bool.{both_ways}
use Rattle.pci_spec.specs.Number.{each_from}
use Rattle.pci_spec.specs.Slot.{Slot}
use Rattle.pci_spec.specs.Window.{IoWindow}
use Rattle.pci_spec.specs.System.{Function, System, Space, Io, Memory, Bar, Window, Claims}
use Rattle.pci_spec.specs.Fault.{Clash, Unreached, address_in}
use Rattle.pci_spec.proofs.Bits.{interval-agrees}
use Rattle.pci_spec.proofs.Examples.Samples.{slot, device, bridge, host}
use Rattle.judge_spec.specs.Given.{Given, starts}
use Rattle.judge_spec.specs.Claims.{Own, Legacy, may_share, IsPassedTo}
use Rattle.judge_spec.specs.Claims as claims
use Rattle.judge_spec.specs.Fault.{Known, IsIn}
use Rattle.judge_spec.specs.Words.{Vga, Vga16, legacy_bridges}
use Rattle.judge_spec.proofs.Examples.Legacy.{legacy_at}

pub other_device : (a b : ℕ) → (a ≡ b → ⊥) → slot 0 a 0 ≡ slot 0 b 0 → ⊥
other_device a b differ same = differ (ap (λ (s : Slot). s.device) same)

-- a bridge with VGA Enable, by Command, bus numbers and Bridge Control
abbrev vga_bridge : ℕ → ℕ → ℕ → ℕ → Function
vga_bridge d command buses control = bridge (slot 0 d 0) command buses ((0x20, 0x0000fff0) ∷ (0x3c, control * 65536) ∷ []) []

-- ---- two bridges

abbrev two : System
two = vga_bridge 1 3 0x010100 8 ∷ vga_bridge 2 3 0x020200 24 ∷ []

abbrev given_two : Given
given_two = legacy_at (legacy_bridges Vga two)

two_clash : (space : Space) (a : ℕ) → starts given_two space 0 a ≡ true → claims.Claims given_two (vga_bridge 1 3 0x010100 8) Legacy space a → claims.Claims given_two (vga_bridge 2 3 0x020200 24) Legacy space a
    → IsIn given_two host two (Known (Clash 0 space a (slot 0 1 0) 0x3e (slot 0 2 0) 0x3e))
two_clash space a sent first second = record {
  gets = (0, (0, lit< tt, refl), sent, [], refl, refl);
  claims_first = (vga_bridge 1 3 0x010100 8, Legacy, (0, lit< tt, refl), refl, refl, refl, first);
  claims_second = (vga_bridge 2 3 0x020200 24, Legacy, (1, lit< tt, refl), refl, refl, refl, second);
  differ = λ same. other_device 1 2 (λ e. omega (arith, e)) same.0;
  apart = refl;
}

io_clash : IsIn given_two host two (Known (Clash 0 Io 0x3b0 (slot 0 1 0) 0x3e (slot 0 2 0) 0x3e))
io_clash = two_clash Io 0x3b0 refl record { address = lit< tt; claims = refl } record { address = lit< tt; claims = refl }

memory_clash : IsIn given_two host two (Known (Clash 0 Memory 0xa0000 (slot 0 1 0) 0x3e (slot 0 2 0) 0x3e))
memory_clash = two_clash Memory 0xa0000 refl record { address = lit< tt; claims = refl } record { address = lit< tt; claims = refl }

-- ---- a BAR in a higher KB: it clashes with 10 bits alone

abbrev ports : Function
ports = device (slot 0 2 0) 1 ((0x10, 0x13b1) ∷ []) ((0x10, 0xfffffff1) ∷ [])

ports_claim : Claims ports (Bar 0) Io 0x13b0
unfolding each_from
ports_claim = record { there = refl; enabled = refl; maps = refl; address = lit< tt; decodes = (refl, (4, refl, interval-agrees 4 0x13b0 0x13b1 (lit≤ tt) (lit≤ tt))) }

abbrev beside : ℕ → System
beside control = vga_bridge 1 1 0x010100 control ∷ ports ∷ []

ten_bits_clash : IsIn (legacy_at (legacy_bridges Vga (beside 8))) host (beside 8) (Known (Clash 0 Io 0x13b0 (slot 0 1 0) 0x3e (slot 0 2 0) 0x10))
ten_bits_clash = record {
  gets = (0, (0, lit< tt, refl), refl, [], refl, refl);
  claims_first = (vga_bridge 1 1 0x010100 8, Legacy, (0, lit< tt, refl), refl, refl, refl, record { address = lit< tt; claims = refl });
  claims_second = (ports, Own (Bar 0), (1, lit< tt, refl), refl, refl, refl, record { claims = ports_claim; kept = refl });
  differ = λ same. other_device 1 2 (λ e. omega (arith, e)) same.0;
  apart = refl;
}

-- with bit 4 of Bridge Control, or by the other word, the bridge doesn't claim it
sixteen_bits : claims.Claims (legacy_at (legacy_bridges Vga (beside 24))) (vga_bridge 1 1 0x010100 24) Legacy Io 0x13b0 → ⊥
sixteen_bits c = both_ways false refl c.claims

by_the_other_word : claims.Claims (legacy_at (legacy_bridges Vga16 (beside 8))) (vga_bridge 1 1 0x010100 8) Legacy Io 0x13b0 → ⊥
by_the_other_word c = both_ways false refl c.claims

-- ---- a window and the legacy part of one bridge may share an address, whichever is named first

own_windows : map (may_share (slot 0 1 0) 0x3e (slot 0 1 0)) (0x1c ∷ 0x20 ∷ 0x24 ∷ 0x38 ∷ 0x10 ∷ 0x3e ∷ []) ≡ true ∷ true ∷ true ∷ false ∷ false ∷ false ∷ []
own_windows = refl

first_named : map (λ register. may_share (slot 0 1 0) register (slot 0 1 0) 0x3e) (0x1c ∷ 0x20 ∷ 0x24 ∷ 0x38 ∷ 0x10 ∷ []) ≡ true ∷ true ∷ true ∷ false ∷ false ∷ []
first_named = refl

of_another_bridge : may_share (slot 0 1 0) 0x1c (slot 0 2 0) 0x3e ≡ false
of_another_bridge = refl

two_windows : may_share (slot 0 1 0) 0x20 (slot 0 1 0) 0x24 ≡ false
two_windows = refl

-- so a bridge whose I/O window lies over its ports has no clash with itself
abbrev with_window : Function
with_window = bridge (slot 0 1 0) 1 0x010100 ((0x1c, 0x1010) ∷ (0x20, 0x0000fff0) ∷ (0x3c, 0x00080000) ∷ []) ((0x1c, 0xf0f0) ∷ [])

both_claim : Claims with_window (Window IoWindow) Io 0x13b0
both_claim = record { there = refl; enabled = refl; maps = refl; address = lit< tt; decodes = refl }

no_clash_with_itself : IsIn (legacy_at (legacy_bridges Vga (with_window ∷ []))) host (with_window ∷ []) (Known (Clash 0 Io 0x13b0 (slot 0 1 0) 0x1c (slot 0 1 0) 0x3e)) → ⊥
no_clash_with_itself c = both_ways true c.apart refl

-- ---- a BAR behind a bridge, in what its legacy part passes

abbrev behind : ℕ → System
behind address = vga_bridge 1 2 0x010100 8 ∷ device (slot 1 0 0) 2 ((0x10, address) ∷ []) ((0x10, 0xffff0000) ∷ []) ∷ []

passed : IsPassedTo (legacy_at (legacy_bridges Vga (behind 0xa0000))) host (behind 0xa0000) (address_in Memory 0xa0000) false 1
passed = (0, (0, lit< tt, refl), refl, vga_bridge 1 2 0x010100 8 ∷ [], ((0, lit< tt, refl), refl, refl, refl), refl)

above : Claims (device (slot 1 0 0) 2 ((0x10, 0xc0000) ∷ []) ((0x10, 0xffff0000) ∷ [])) (Bar 0) Memory 0xc0000
unfolding each_from
above = record { there = refl; enabled = refl; maps = refl; address = lit< tt; decodes = (refl, (16, refl, interval-agrees 16 0xc0000 0xc0000 (lit≤ tt) (lit≤ tt))) }

unreached : IsIn (legacy_at (legacy_bridges Vga (behind 0xc0000))) host (behind 0xc0000) (Known (Unreached (slot 1 0 0) 0x10 Memory 0xc0000 (slot 0 1 0)))
unreached = record {
  f = device (slot 1 0 0) 2 ((0x10, 0xc0000) ∷ []) ((0x10, 0xffff0000) ∷ []);
  part = Bar 0;
  listed = (1, lit< tt, refl);
  named = (refl, refl);
  no_window = refl;
  claims = above;
  bridges = vga_bridge 1 2 0x010100 8 ∷ [];
  root = 0;
  is_root = (0, lit< tt, refl);
  leads = ((0, lit< tt, refl), refl, refl, refl);
  sent = refl;
  b = vga_bridge 1 2 0x010100 8;
  on_the_way = (0, lit< tt, refl);
  named_bridge = refl;
  stops = refl;
}
