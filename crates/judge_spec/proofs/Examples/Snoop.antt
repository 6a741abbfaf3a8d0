-- Palette parts of bridges: what they claim and forward, what they may share, and what is told of them.
use Rattle.std.proofs.Common.{◌≡◌, ◌*◌, ℕ, List, [], ◌∷◌, codes, refl, Bool, true, false, arith, map, None, Some, lit<, lit≤}
use Rattle.std.proofs.lemmas.Bool.{both_ways}
use Rattle.pci_spec.specs.Number.{each_from}
use Rattle.pci_spec.specs.Header.{command}
use Rattle.pci_spec.specs.System.{Function, System, Io, Memory, Bar, Claims}
use Rattle.pci_spec.specs.Fault.{Clash}
use Rattle.pci_spec.proofs.Bits.{interval-agrees}
use Rattle.pci_spec.proofs.Examples.Samples.{slot, device, bridge, host}
use Rattle.judge_spec.specs.Given.{Given, LegacyBridge, nothing_given, palette_holds}
use Rattle.judge_spec.specs.Claims.{Own, Palette, forwards, passes, may_share}
use Rattle.judge_spec.specs.Claims as claims
use Rattle.judge_spec.specs.Fault.{Known, IsIn}
use Rattle.judge_spec.specs.Words.{Vga, Vga16, palette_bridges, snoop_aside}
use Rattle.judge_spec.specs.Why.{region_line}
use Rattle.judge_spec.specs.Why as why
use Rattle.judge_spec.proofs.Examples.Clashes.{other_device}
use Rattle.judge_spec.proofs.Examples.Reasons.{line}

-- ---- what they hold: with 10 bits in each KB, with 16 in the first, and none from 64 KB on

ports : map (palette_holds true Io) (0x3c5 ∷ 0x3c6 ∷ 0x3c7 ∷ 0x3c8 ∷ 0x3c9 ∷ 0x3ca ∷ 0x7c6 ∷ []) ≡ false ∷ true ∷ false ∷ true ∷ true ∷ false ∷ false ∷ []
ports = refl

each_kilobyte : map (palette_holds false Io) (0x3c6 ∷ 0x7c7 ∷ 0x7c8 ∷ 0xffc9 ∷ 0xffca ∷ 0x103c6 ∷ []) ≡ true ∷ false ∷ true ∷ true ∷ false ∷ false ∷ []
each_kilobyte = refl

no_memory : map (palette_holds false Memory) (0x3c6 ∷ 0xa0000 ∷ []) ≡ false ∷ false ∷ []
no_memory = refl

-- ---- which bridges have them

-- a bridge by Command and Bridge Control
abbrev with_command : ℕ → ℕ → Function
with_command command control = bridge (slot 0 1 0) command 0x010100 ((0x20, 0x0000fff0) ∷ (0x3c, control * 65536) ∷ []) []

abbrev entry : Bool → List LegacyBridge
entry wide = record { slot = slot 0 1 0; is_wide = wide } ∷ []

-- by bit 5 of Command, and bit 4 of Bridge Control
by_command : map (λ command. palette_bridges None (with_command command 0 ∷ [])) (0x0001 ∷ 0x0021 ∷ []) ≡ [] ∷ entry false ∷ []
by_command = refl

by_control : map (λ word. palette_bridges word (with_command 0x0021 0x0010 ∷ [])) (None ∷ Some Vga ∷ Some Vga16 ∷ []) ≡ entry true ∷ entry true ∷ entry true ∷ []
by_control = refl

by_word : map (λ word. palette_bridges word (with_command 0x0021 0 ∷ [])) (None ∷ Some Vga ∷ Some Vga16 ∷ []) ≡ entry false ∷ entry false ∷ entry true ∷ []
by_word = refl

-- a device has none, and has no such bit once it is taken
abbrev listener : Function
listener = device (slot 0 2 0) 0x0021 [] []

no_device : palette_bridges None (listener ∷ []) ≡ []
no_device = refl

bits_aside : map (λ f. command (snoop_aside f).image) (listener ∷ with_command 0x0127 0 ∷ []) ≡ 0x0001 ∷ 0x0107 ∷ []
bits_aside = refl

-- ---- what they claim, forward and pass

abbrev pub snooping : List LegacyBridge → Given
snooping entries = record nothing_given { palette = entries }

abbrev enabled : Given
enabled = snooping (entry false)

-- where Command enables I/O space; nothing passes
forwarded : map (λ command. forwards enabled Io 0x3c8 (with_command command 0)) (0x0021 ∷ 0x0022 ∷ []) ≡ true ∷ false ∷ []
forwarded = refl

not_passed : passes enabled Io false 0x3c8 (with_command 0x0021 0) ≡ false
not_passed = refl

of_another_bridge : forwards (snooping (record { slot = slot 0 2 0; is_wide = false } ∷ [])) Io 0x3c8 (with_command 0x0021 0) ≡ false
of_another_bridge = refl

-- two of a window, the legacy part and the palette part of one bridge may share an address, whichever is named first
shared : map (may_share (slot 0 1 0) 0x04 (slot 0 1 0)) (0x1c ∷ 0x20 ∷ 0x24 ∷ 0x3e ∷ 0x04 ∷ 0x10 ∷ 0x38 ∷ []) ≡ true ∷ true ∷ true ∷ true ∷ false ∷ false ∷ false ∷ []
shared = refl

first_named : map (λ register. may_share (slot 0 1 0) register (slot 0 1 0) 0x04) (0x1c ∷ 0x20 ∷ 0x24 ∷ 0x3e ∷ 0x10 ∷ 0x38 ∷ []) ≡ true ∷ true ∷ true ∷ true ∷ false ∷ false ∷ []
first_named = refl

by_two_bridges : may_share (slot 0 1 0) 0x04 (slot 0 2 0) 0x3e ≡ false
by_two_bridges = refl

-- ---- a BAR over its ports

abbrev adapter : Function
adapter = device (slot 0 2 0) 1 ((0x10, 0x3c1) ∷ []) ((0x10, 0xffffffe1) ∷ [])

adapter_claims : Claims adapter (Bar 0) Io 0x3c6
unfolding each_from
adapter_claims = record { there = refl; enabled = refl; maps = refl; address = lit< tt; decodes = (refl, (5, refl, interval-agrees 5 0x3c6 0x3c1 (lit≤ tt) (lit≤ tt))) }

abbrev two : System
two = with_command 0x0021 0 ∷ adapter ∷ []

clash : IsIn (snooping (palette_bridges None two)) host two (Known (Clash 0 Io 0x3c6 (slot 0 1 0) 0x04 (slot 0 2 0) 0x10))
clash = record {
  gets = (0, (0, lit< tt, refl), refl, [], refl, refl);
  claims_first = (with_command 0x0021 0, Palette, (0, lit< tt, refl), refl, refl, refl, record { address = lit< tt; claims = refl });
  claims_second = (adapter, Own (Bar 0), (1, lit< tt, refl), refl, refl, refl, record { claims = adapter_claims; kept = refl });
  differ = λ same. other_device 1 2 (λ e. omega (arith, e)) same.0;
  apart = refl;
}

-- 3C7h is none of its ports
no_clash : claims.Claims (snooping (palette_bridges None two)) (with_command 0x0021 0) Palette Io 0x3c7 → ⊥
no_clash c = both_ways false refl c.claims

-- ---- what is told

ten_bits_line : region_line enabled (codes "first") (why.Palette (with_command 0x0021 0)) ≡ line (codes "  first 00:01.0 04 snoop io 000003c6,000003c8-000003c9 of each 1K")
ten_bits_line = refl

sixteen_bits_line : region_line (snooping (entry true)) (codes "second") (why.Palette (with_command 0x0021 0x0010)) ≡ line (codes "  second 00:01.0 04 snoop16 io 000003c6,000003c8-000003c9")
sixteen_bits_line = refl
