-- Faults of judging that name told ranges, and boards on which the exceptions count.
use Rattle.std.proofs.Common.{◌≡◌, ℕ, ◌≤◌, List, [], ◌∷◌, refl, true, false, inl, inr, arith, lit<, lit≤, ap, map}
use Rattle.std.specs.List.{slice_get}
use Rattle.pci_spec.specs.Number.{each_from}
use Rattle.pci_spec.specs.Slot.{Slot}
use Rattle.pci_spec.specs.System.{Function, System, Io, Memory, Bar, Claims, Leads}
use Rattle.pci_spec.specs.Fault.{Clash, Unreached, address_in, named_region}
use Rattle.pci_spec.proofs.Bits.{interval-agrees}
use Rattle.pci_spec.proofs.Examples.Samples.{slot, device, bridge, host}
use Rattle.judge_spec.specs.Given.{nothing_given}
use Rattle.judge_spec.specs.Claims.{Own, passes}
use Rattle.judge_spec.specs.Fault as untold_fault
use Rattle.judge_spec.specs.Told.{Mark, Command, Always, Held, ToldRange}
use Rattle.judge_spec.specs.ToldClaims.{Told, RangeClaims, RangeClaimsOnBus, may_share, is_range_on}
use Rattle.judge_spec.specs.ToldFault.{Known, IsIn, HasToBeReached}
use Rattle.judge_spec.proofs.Examples.ToldClaims.{told_io, told_memory, told_ranges}

-- the range of the only line claims an address on the bus of its slot
pub only_line : (told : Told) (s : System) (r : ToldRange) (a : ℕ) → told.ranges ≡ r ∷ [] → is_range_on told s r ≡ true → r.first ≤ a → a ≤ r.last → RangeClaimsOnBus told s r.slot.bus (address_in r.space a) (named_region r.slot 256)
only_line told s r a are on low high = record {
  r = r;
  named = record { index = 0; at = ap (λ l. slice_get l 0) are; slot = refl; register = refl };
  on_the_bus = refl;
  claims = record { on = on; holds = (refl, low, high) };
}

-- ---- a BAR at the ports of a channel in compatibility mode, and the controller

abbrev ports : Function
ports = device (slot 0 2 0) 1 ((0x10, 0x1f1) ∷ []) ((0x10, 0xfffffff9) ∷ [])

ports_claim : Claims ports (Bar 0) Io 0x1f0
unfolding each_from
ports_claim = record { there = refl; enabled = refl; maps = refl; address = lit< tt; decodes = (refl, (3, refl, interval-agrees 3 0x1f0 0x1f1 (lit≤ tt) (lit≤ tt))) }

abbrev controller : ℕ → System
controller command = ports ∷ device (slot 0 5 0) command [] [] ∷ []

abbrev channel : ℕ → ℕ → Mark → ToldRange
channel first last mark = told_io (slot 0 5 0) first last mark

clash_of_channel : (command : ℕ) (r : ToldRange) → r.slot ≡ slot 0 5 0 → RangeClaimsOnBus (told_ranges (r ∷ [])) (controller command) 0 (address_in Io 0x1f0) (named_region (slot 0 5 0) 256)
    → may_share (told_ranges (r ∷ [])) (slot 0 2 0) 0x10 (slot 0 5 0) 256 ≡ false
    → IsIn (told_ranges (r ∷ [])) nothing_given host (controller command) (Known (untold_fault.Known (Clash 0 Io 0x1f0 (slot 0 2 0) 0x10 (slot 0 5 0) 256)))
clash_of_channel command r at claims apart = record {
  gets = (0, (0, lit< tt, refl), refl, [], refl, refl);
  claims_first = inl (ports, Own (Bar 0), (0, lit< tt, refl), refl, refl, refl, record { claims = ports_claim; kept = refl });
  claims_second = inr claims;
  differ = λ same. (let e : 0x10 ≡ 256 = same.1 in omega (arith, e));
  apart = apart;
}

by_command : IsIn (told_ranges (channel 0x1f0 0x1f7 Command ∷ [])) nothing_given host (controller 1) (Known (untold_fault.Known (Clash 0 Io 0x1f0 (slot 0 2 0) 0x10 (slot 0 5 0) 256)))
by_command = clash_of_channel 1 (channel 0x1f0 0x1f7 Command) refl (only_line (told_ranges (channel 0x1f0 0x1f7 Command ∷ [])) (controller 1) (channel 0x1f0 0x1f7 Command) 0x1f0 refl refl (lit≤ tt) (lit≤ tt)) refl

off_by_command : is_range_on (told_ranges (channel 0x1f0 0x1f7 Command ∷ [])) (controller 0) (channel 0x1f0 0x1f7 Command) ≡ false
off_by_command = refl

whatever_command : IsIn (told_ranges (channel 0x1f0 0x1f7 Always ∷ [])) nothing_given host (controller 0) (Known (untold_fault.Known (Clash 0 Io 0x1f0 (slot 0 2 0) 0x10 (slot 0 5 0) 256)))
whatever_command = clash_of_channel 0 (channel 0x1f0 0x1f7 Always) refl (only_line (told_ranges (channel 0x1f0 0x1f7 Always ∷ [])) (controller 0) (channel 0x1f0 0x1f7 Always) 0x1f0 refl refl (lit≤ tt) (lit≤ tt)) refl

by_its_last_port : IsIn (told_ranges (channel 0x1e0 0x1f0 Command ∷ [])) nothing_given host (controller 1) (Known (untold_fault.Known (Clash 0 Io 0x1f0 (slot 0 2 0) 0x10 (slot 0 5 0) 256)))
by_its_last_port = clash_of_channel 1 (channel 0x1e0 0x1f0 Command) refl (only_line (told_ranges (channel 0x1e0 0x1f0 Command ∷ [])) (controller 1) (channel 0x1e0 0x1f0 Command) 0x1f0 refl refl (lit≤ tt) (lit≤ tt)) refl

-- ranges beside the ports, at both ends
beside_the_ports : RangeClaims (told_ranges (channel 0x1ef 0x1ef Command ∷ channel 0x1f8 0x1ff Command ∷ [])) (controller 1) (channel 0x1ef 0x1ef Command) Io 0x1f0 → ⊥
beside_the_ports claims = let high = claims.holds.2 in omega (arith, high)

behind_the_ports : RangeClaims (told_ranges (channel 0x1ef 0x1ef Command ∷ channel 0x1f8 0x1ff Command ∷ [])) (controller 1) (channel 0x1f8 0x1ff Command) Io 0x1f7 → ⊥
behind_the_ports claims = let low = claims.holds.1 in omega (arith, low)

-- ---- virtual functions behind a bridge: its memory window ends at E00FFFFFh

abbrev port : List (ℕ × ℕ) → Function
port windows = bridge (slot 0 1 0) 2 0x010100 ((0x20, 0xe000e000) ∷ windows) ((0x20, 0xfff0fff0) ∷ (0x24, 0xfff0fff0) ∷ [])

abbrev physical : Function
physical = device (slot 1 0 0) 2 ((0x10, 0xe0000000) ∷ []) ((0x10, 0xffffc000) ∷ [])

abbrev behind : List (ℕ × ℕ) → System
behind windows = port windows ∷ physical ∷ []

abbrev virtual : ℕ → ℕ → ToldRange
virtual first last = told_memory (slot 1 0 0) first last Always

-- a range of the only line, which the bridge stops
stopped : (windows : List (ℕ × ℕ)) (r : ToldRange) → r.slot ≡ slot 1 0 0 → HasToBeReached (told_ranges (r ∷ [])) (behind windows) (named_region (slot 1 0 0) 256) (address_in Memory 0xe0100000) r
    → Leads (behind windows) 0 (port windows ∷ []) 1 → passes nothing_given Memory r.prefetchable 0xe0100000 (port windows) ≡ false
    → IsIn (told_ranges (r ∷ [])) nothing_given host (behind windows) (Known (untold_fault.Known (Unreached (slot 1 0 0) 256 Memory 0xe0100000 (slot 0 1 0))))
stopped windows r at needs leads stops = inr record {
  r = r;
  needs = needs;
  bridges = port windows ∷ [];
  root = 0;
  is_root = (0, lit< tt, refl);
  leads = leads;
  sent = refl;
  b = port windows;
  on_the_way = (0, lit< tt, refl);
  named_bridge = refl;
  stops = stops;
}

needs_of : (windows : List (ℕ × ℕ)) (first last : ℕ) → first ≤ 0xe0100000 → 0xe0100000 ≤ last → HasToBeReached (told_ranges (virtual first last ∷ [])) (behind windows) (named_region (slot 1 0 0) 256) (address_in Memory 0xe0100000) (virtual first last)
needs_of windows first last low high = record { named = record { index = 0; at = refl; slot = refl; register = refl }; not_held = refl; claims = record { on = refl; holds = (refl, low, high) } }

over_the_end : IsIn (told_ranges (virtual 0xe00fc000 0xe0103fff ∷ [])) nothing_given host (behind []) (Known (untold_fault.Known (Unreached (slot 1 0 0) 256 Memory 0xe0100000 (slot 0 1 0))))
over_the_end = stopped [] (virtual 0xe00fc000 0xe0103fff) refl (needs_of [] 0xe00fc000 0xe0103fff (lit≤ tt) (lit≤ tt)) ((0, lit< tt, refl), refl, refl, refl) refl

within_the_window : map (λ a. passes nothing_given Memory false a (port [])) (0xe0004000 ∷ 0xe000ffff ∷ 0xe00fffff ∷ 0xe0100000 ∷ []) ≡ true ∷ true ∷ true ∷ false ∷ []
within_the_window = refl

-- a prefetchable window from E0100000h on passes `pref` alone
abbrev with_prefetch : List (ℕ × ℕ)
with_prefetch = (0x24, 0xe010e010) ∷ []

no_prefetch : IsIn (told_ranges (virtual 0xe0100000 0xe0103fff ∷ [])) nothing_given host (behind with_prefetch) (Known (untold_fault.Known (Unreached (slot 1 0 0) 256 Memory 0xe0100000 (slot 0 1 0))))
no_prefetch = stopped with_prefetch (virtual 0xe0100000 0xe0103fff) refl (needs_of with_prefetch 0xe0100000 0xe0103fff (lit≤ tt) (lit≤ tt)) ((0, lit< tt, refl), refl, refl, refl) refl

abbrev prefetchable : ToldRange
prefetchable = record (virtual 0xe0100000 0xe0103fff) { prefetchable = true }

pref_is_passed : passes nothing_given Memory prefetchable.prefetchable 0xe0100000 (port with_prefetch) ≡ true
pref_is_passed = refl

-- ---- a range over a BAR of its own function

physical_claims : (a : ℕ) → 0xe0000000 ≤ a → a ≤ 0xe0003fff → Claims physical (Bar 0) Memory a
unfolding each_from
physical_claims a low high = record { there = refl; enabled = refl; maps = refl; address = omega (arith, high); decodes = (refl, (14, refl, interval-agrees 14 a 0xe0000000 low high)) }

own_clash : IsIn (told_ranges (virtual 0xe0003fff 0xe000ffff ∷ [])) nothing_given host (behind []) (Known (untold_fault.Known (Clash 1 Memory 0xe0003fff (slot 1 0 0) 0x10 (slot 1 0 0) 256)))
own_clash = record {
  gets = (0, (0, lit< tt, refl), refl, port [] ∷ [], ((0, lit< tt, refl), refl, refl, refl), refl);
  claims_first = inl (physical, Own (Bar 0), (1, lit< tt, refl), refl, refl, refl, record { claims = physical_claims 0xe0003fff (lit≤ tt) (lit≤ tt); kept = refl });
  claims_second = inr (only_line (told_ranges (virtual 0xe0003fff 0xe000ffff ∷ [])) (behind []) (virtual 0xe0003fff 0xe000ffff) 0xe0003fff refl refl (lit≤ tt) (lit≤ tt));
  differ = λ same. (let e : 0x10 ≡ 256 = same.1 in omega (arith, e));
  apart = refl;
}

-- ---- ranges that nobody listed answers: a hidden function's, over a BAR

abbrev pub card : Function
card = device (slot 0 2 0) 2 ((0x10, 0xfd000000) ∷ []) ((0x10, 0xffff0000) ∷ [])

pub card_claims : Claims card (Bar 0) Memory 0xfd000000
unfolding each_from
card_claims = record { there = refl; enabled = refl; maps = refl; address = lit< tt; decodes = (refl, (16, refl, interval-agrees 16 0xfd000000 0xfd000000 (lit≤ tt) (lit≤ tt))) }

abbrev pub hidden : Slot → Mark → ToldRange
hidden at mark = told_memory at 0xfd000000 0xfdffffff mark

hidden_clash : IsIn (told_ranges (hidden (slot 0 31 1) Held ∷ [])) nothing_given host (card ∷ []) (Known (untold_fault.Known (Clash 0 Memory 0xfd000000 (slot 0 2 0) 0x10 (slot 0 31 1) 256)))
hidden_clash = record {
  gets = (0, (0, lit< tt, refl), refl, [], refl, refl);
  claims_first = inl (card, Own (Bar 0), (0, lit< tt, refl), refl, refl, refl, record { claims = card_claims; kept = refl });
  claims_second = inr (only_line (told_ranges (hidden (slot 0 31 1) Held ∷ [])) (card ∷ []) (hidden (slot 0 31 1) Held) 0xfd000000 refl refl (lit≤ tt) (lit≤ tt));
  differ = λ same. (let e : 0x10 ≡ 256 = same.1 in omega (arith, e));
  apart = refl;
}
