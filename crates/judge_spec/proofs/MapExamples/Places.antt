-- What is out of place, and what is free on a root bus.
use Rattle.std.proofs.Common.{◌≡◌, ℕ, [], ◌∷◌, refl, false, arith, lit<, lit≤, ap, sym, ◌∙◌, inl, inr, Some, None, ◌^◌}
use Rattle.std.specs.Prelude.{Option}
use Rattle.std.proofs.lemmas.Bool.{both_ways, false≢true}
use Rattle.pci_spec.specs.Number.{each_from}
use Rattle.pci_spec.specs.Fault.{named_region}
use Rattle.pci_spec.specs.System.{Function, Io, Memory, Bar, Claims}
use Rattle.pci_spec.proofs.Bits.{interval-agrees}
use Rattle.pci_spec.proofs.Examples.Samples.{slot, device, host}
use Rattle.pci_spec.proofs.Members.{in_nil, in_cons_cases}
use Rattle.judge_spec.specs.Given.{Given}
use Rattle.judge_spec.proofs.NothingTold.{no_range_at}
use Rattle.judge_spec.specs.Lines.{IsOutOfPlace, IsFreeOn, IsClaimedOn}
use Rattle.judge_spec.proofs.MapExamples.Samples.{own, untold}

-- a list of memory alone, with one range
abbrev pub memory_to : Option ℕ → ℕ → ℕ → Given
memory_to root first last = record { io = None; memory = Some (record { root = root; first = first; last = last } ∷ []); legacy = []; isa = []; palette = []; unclaimed = [] }

-- a list of I/O alone
abbrev ports_to : Option ℕ → ℕ → ℕ → Given
ports_to root first last = record { io = Some (record { root = root; first = first; last = last } ∷ []); memory = None; legacy = []; isa = []; palette = []; unclaimed = [] }

-- 4 KB at E0001000
abbrev memory_device : ℕ → Function
memory_device bus = device (slot bus 2 0) 2 ((0x10, 0xe0001000) ∷ []) ((0x10, 0xfffff000) ∷ [])

memory_claims : Claims (memory_device 0) (Bar 0) Memory 0xe0001fff
unfolding each_from
memory_claims = record { there = refl; enabled = refl; maps = refl; address = lit< tt; decodes = (refl, (12, refl, interval-agrees 12 0xe0001fff 0xe0001000 (lit≤ tt) (lit≤ tt))) }

-- 16 ports at 1000
abbrev port_device : Function
port_device = device (slot 0 2 0) 1 ((0x10, 0x1001) ∷ []) ((0x10, 0xfffffff1) ∷ [])

ports_claim : Claims port_device (Bar 0) Io 0x1008
unfolding each_from
ports_claim = record { there = refl; enabled = refl; maps = refl; address = lit< tt; decodes = (refl, (4, refl, interval-agrees 4 0x1008 0x1001 (lit≤ tt) (lit≤ tt))) }

-- ---- out of place

-- its last address alone isn't sent
last_address : IsOutOfPlace untold (memory_to None 0xe0000000 0xe0001ffe) host (memory_device 0 ∷ []) (own (slot 0 2 0) 0x10 (Bar 0) Memory false 0xe0001000 0xe0001fff)
last_address = record {
  address = 0xe0001fff;
  outside = inl record {
    f = memory_device 0;
    part = Bar 0;
    listed = (0, lit< tt, refl);
    named = (refl, refl);
    no_window = refl;
    claims = memory_claims;
    bridges = [];
    root = 0;
    is_root = (0, lit< tt, refl);
    leads = refl;
    none = refl;
  };
}

-- ports are out of place by the list of I/O
some_port : IsOutOfPlace untold (ports_to None 0x1000 0x1007) host (port_device ∷ []) (own (slot 0 2 0) 0x10 (Bar 0) Io false 0x1000 0x100f)
some_port = record {
  address = 0x1008;
  outside = inl record {
    f = port_device;
    part = Bar 0;
    listed = (0, lit< tt, refl);
    named = (refl, refl);
    no_window = refl;
    claims = ports_claim;
    bridges = [];
    root = 0;
    is_root = (0, lit< tt, refl);
    leads = refl;
    none = refl;
  };
}

-- and not by one of memory
ports_anywhere : IsOutOfPlace untold (memory_to None 0xe0000000 0xe0001ffe) host (port_device ∷ []) (own (slot 0 2 0) 0x10 (Bar 0) Io false 0x1000 0x100f) → ⊥
ports_anywhere out = elim out.outside [ inl o ↦ false≢true (sym o.none) | inr o ↦ no_range_at [] (named_region (slot 0 2 0) 0x10) o.r o.needs.named ]

-- ---- free on a root bus

none_claims : (given : Given) (a : ℕ) → IsClaimedOn untold given (memory_device 1 ∷ []) 0 Memory a → ⊥
none_claims given a (inl c) = elim (in_cons_cases (memory_device 1) [] c.f c.listed) [
  | inl one ↦ (let e : 1 ≡ 0 = ap (λ (f : Function). f.slot.bus) one ∙ c.on_bus in omega (arith, e))
  | inr none ↦ in_nil c.f none
]
none_claims given a (inr c) = no_range_at [] c.0 c.1.r c.1.named

-- what is sent there and claimed on another bus
sent_alone : IsFreeOn untold (memory_to (Some 0) 0xe0000000 0xe0001fff) (memory_device 1 ∷ []) 0 Memory 0xe0001fff
sent_alone = record { said = refl; address = lit< tt; sent = refl; unclaimed = none_claims (memory_to (Some 0) 0xe0000000 0xe0001fff) 0xe0001fff }

-- what is claimed there isn't, nor what isn't sent, or to another root bus
claimed : IsFreeOn untold (memory_to None 0xe0000000 0xe0001fff) (memory_device 0 ∷ []) 0 Memory 0xe0001fff → ⊥
claimed free = free.unclaimed (inl record { f = memory_device 0; part = Bar 0; listed = (0, lit< tt, refl); on_bus = refl; claims = record { claims = memory_claims; kept = refl } })

not_sent : IsFreeOn untold (memory_to None 0xe0000000 0xe0001ffe) (memory_device 1 ∷ []) 0 Memory 0xe0001fff → ⊥
not_sent free = both_ways false refl free.sent

sent_elsewhere : IsFreeOn untold (memory_to (Some 0x40) 0xe0000000 0xe0001fff) (memory_device 1 ∷ []) 0 Memory 0xe0001fff → ⊥
sent_elsewhere free = both_ways false refl free.sent

-- nothing is where no list is said, though all is sent
not_said : IsFreeOn untold (ports_to None 0x1000 0x1fff) (memory_device 1 ∷ []) 0 Memory 0xe0001fff → ⊥
not_said free = false≢true free.said

-- I/O has 2^32 addresses, whatever is said
not_a_port : IsFreeOn untold (ports_to None 0 (2 ^ 64)) (memory_device 1 ∷ []) 0 Io (2 ^ 32) → ⊥
not_a_port free = let small = free.address in omega (arith, small)
