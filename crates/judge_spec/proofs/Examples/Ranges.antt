-- Regions outside what the host sends to their roots.
use Rattle.std.proofs.Common.{◌≡◌, ℕ, List, [], ◌∷◌, refl, true, false, arith, lit<, lit≤, map, None, Some}
use Rattle.std.proofs.lemmas.Bool.{both_ways}
use Rattle.pci_spec.specs.Number.{each_from}
use Rattle.pci_spec.specs.System.{Function, System, Io, Memory, Bar, Claims}
use Rattle.pci_spec.specs.Fault.{Split}
use Rattle.pci_spec.proofs.Bits.{interval-agrees}
use Rattle.pci_spec.proofs.Examples.Samples.{slot, device, host}
use Rattle.judge_spec.specs.Given.{Given, HostRange, nothing_given, starts}
use Rattle.judge_spec.specs.Claims.{Own}
use Rattle.judge_spec.specs.Fault.{Known, Outside, IsIn, fault_number}

abbrev pub to_each : ℕ → ℕ → HostRange
to_each first last = record { root = None; first = first; last = last }

abbrev pub to_root : ℕ → ℕ → ℕ → HostRange
to_root root first last = record { root = Some root; first = first; last = last }

abbrev pub sent_memory : List HostRange → Given
sent_memory ranges = record { io = None; memory = Some ranges; legacy = []; isa = []; palette = []; unclaimed = [] }

-- ---- where accesses start: both ends of a range are sent, by the space and by the root

ends : map (starts (sent_memory (to_each 0x80000000 0xfebfffff ∷ [])) Memory 0) (0x7fffffff ∷ 0x80000000 ∷ 0xfebfffff ∷ 0xfec00000 ∷ []) ≡ false ∷ true ∷ true ∷ false ∷ []
ends = refl

of_the_other_space : starts (sent_memory []) Io 0 0 ≡ true
of_the_other_space = refl

none_are_sent : starts (sent_memory []) Memory 0 0 ≡ false
none_are_sent = refl

each_to_its_root : map (λ root. starts (sent_memory (to_root 0 0xe0000000 0xefffffff ∷ to_root 0x40 0xf0000000 0xffffffff ∷ [])) Memory root 0xe0000000) (0 ∷ 0x40 ∷ []) ≡ true ∷ false ∷ []
each_to_its_root = refl

-- ---- the rows

-- the first BAR of a function on the root, where no access to it starts
not_sent : (given : Given) (f : Function) (a : ℕ) → 0 ≡ f.slot.bus → Claims f (Bar 0) Memory a → starts given Memory 0 a ≡ false → IsIn given host (f ∷ []) (Outside f.slot 0x10 Memory a)
not_sent given f a on_root claims none = record { f = f; part = Bar 0; listed = (0, lit< tt, refl); named = (refl, refl); no_window = refl; claims = claims; root = 0; is_root = (0, lit< tt, refl); bridges = []; leads = on_root; none = none }

-- a BAR of 64 bits far above what the host sends
abbrev far : Function
far = device (slot 0 1 0) 2 ((0x10, 0x8000000c) ∷ (0x14, 0x80) ∷ []) ((0x10, 0xffffc00c) ∷ (0x14, 0xffffffff) ∷ [])

far_claims : Claims far (Bar 0) Memory 0x8080000000
unfolding each_from
far_claims = record { there = refl; enabled = refl; maps = refl; address = lit< tt; decodes = (refl, (14, refl, interval-agrees 14 0x8080000000 0x808000000c (lit≤ tt) (lit≤ tt))) }

far_is_outside : IsIn (sent_memory (to_each 0x80000000 0xfebfffff ∷ [])) host (far ∷ []) (Outside (slot 0 1 0) 0x10 Memory 0x8080000000)
far_is_outside = not_sent (sent_memory (to_each 0x80000000 0xfebfffff ∷ [])) far 0x8080000000 refl far_claims refl

-- a BAR whose lower half isn't sent
abbrev half : ℕ → Function
half bus = device (slot bus 1 0) 2 ((0x10, 0xe0000000) ∷ []) ((0x10, 0xfff00000) ∷ [])

half_claims : (bus : ℕ) → Claims (half bus) (Bar 0) Memory 0xe0000000
unfolding each_from
half_claims bus = record { there = refl; enabled = refl; maps = refl; address = lit< tt; decodes = (refl, (20, refl, interval-agrees 20 0xe0000000 0xe0000000 (lit≤ tt) (lit≤ tt))) }

half_is_outside : IsIn (sent_memory (to_each 0xe0080000 0xefffffff ∷ [])) host (half 0 ∷ []) (Outside (slot 0 1 0) 0x10 Memory 0xe0000000)
half_is_outside = not_sent (sent_memory (to_each 0xe0080000 0xefffffff ∷ [])) (half 0) 0xe0000000 refl (half_claims 0) refl

-- two roots: split where all is sent to both, else outside
abbrev two : System
two = half 0 ∷ half 0x40 ∷ []

abbrev two_roots : List ℕ
two_roots = 0 ∷ 0x40 ∷ []

are_split : IsIn nothing_given two_roots two (Known (Split Memory 0xe0000000 (slot 0 1 0) 0x10 (slot 0x40 1 0) 0x10))
are_split = record {
  root_first = (0, lit< tt, refl);
  root_second = (1, lit< tt, refl);
  buses = λ e. omega (arith, e);
  sent_first = refl;
  sent_second = refl;
  claims_first = (half 0, Own (Bar 0), (0, lit< tt, refl), refl, refl, refl, record { claims = half_claims 0; kept = refl });
  claims_second = (half 0x40, Own (Bar 0), (1, lit< tt, refl), refl, refl, refl, record { claims = half_claims 0x40; kept = refl });
}

abbrev each_its_own : Given
each_its_own = sent_memory (to_root 0 0xe0000000 0xefffffff ∷ to_root 0x40 0xf0000000 0xffffffff ∷ [])

other_socket_is_outside : IsIn each_its_own two_roots two (Outside (slot 0x40 1 0) 0x10 Memory 0xe0000000)
other_socket_is_outside = record {
  f = half 0x40;
  part = Bar 0;
  listed = (1, lit< tt, refl);
  named = (refl, refl);
  no_window = refl;
  claims = half_claims 0x40;
  bridges = [];
  root = 0x40;
  is_root = (1, lit< tt, refl);
  leads = refl;
  none = refl;
}

are_not_split : IsIn each_its_own two_roots two (Known (Split Memory 0xe0000000 (slot 0 1 0) 0x10 (slot 0x40 1 0) 0x10)) → ⊥
are_not_split split = both_ways false refl split.sent_second

number_of_the_fault : fault_number (Outside (slot 0 1 0) 0x10 Memory 0) ≡ 63
number_of_the_fault = refl
