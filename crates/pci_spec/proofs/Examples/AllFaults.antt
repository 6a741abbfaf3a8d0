-- Which line a list of all faults has for a region: the first bridge, the least address, the least other region.
use Rattle.std.proofs.Common.{◌≡◌, ℕ, ◌*◌, List, [], ◌∷◌, inl, inr, refl, false, arith, lit<, lit≤, ap}
use Rattle.std.specs.List.{Contains}
use Rattle.std.proofs.lemmas.Bool.{both_ways, cases_order}
use Rattle.pci_spec.specs.Number.{each_from}
use Rattle.pci_spec.specs.Slot.{Slot}
use Rattle.pci_spec.specs.Window.{MemoryWindow}
use Rattle.pci_spec.specs.System.{Function, System, Memory, Bar, Window, Claims, passes}
use Rattle.pci_spec.specs.Fault.{Fault, IsIn, Unreached, Clash, Split}
use Rattle.pci_spec.specs.AllFaults.{IsNamed, AreAllOfJudging}
use Rattle.pci_spec.proofs.Bits.{interval-agrees}
use Rattle.pci_spec.proofs.Examples.Samples.{slot, device, bridge, host}
use Rattle.pci_spec.proofs.Examples.Clashes.{two_bars_overlap}
use Rattle.pci_spec.proofs.Examples.First.{s, found, region}

-- ---- three windows with one range

abbrev with_page : ℕ → ℕ → Function
with_page bus d = bridge (slot bus d 0) 2 (0x010100 * d) ((0x20, 0xe000e000) ∷ []) []

abbrev three : System
three = with_page 0 1 ∷ with_page 0 2 ∷ with_page 0 3 ∷ []

abbrev page_clash : ℕ → ℕ → ℕ → Fault
page_clash address d e = Clash 0 Memory address (slot 0 d 0) 0x20 (slot 0 e 0) 0x20

first_with_third : IsIn host three (page_clash 0xe0000000 1 3)
first_with_third = record {
  gets = (0, (0, lit< tt, refl), [], refl, refl);
  claims_first = (with_page 0 1, Window MemoryWindow, (0, lit< tt, refl), refl, refl, refl, record { there = refl; enabled = refl; maps = refl; address = lit< tt; decodes = refl });
  claims_second = (with_page 0 3, Window MemoryWindow, (2, lit< tt, refl), refl, refl, refl, record { there = refl; enabled = refl; maps = refl; address = lit< tt; decodes = refl });
  differ = λ same. let e = ap (λ (x : Slot). x.device) same.0 in omega (arith, e);
}

-- of the two that the third clashes with the lesser is told
least_region_is_told : IsNamed host three (page_clash 0xe0000000 2 3) → ⊥
least_region_is_told line = elim (line.least 0xe0000000 (slot 0 1 0) 0x20 first_with_third (lit< tt)) [
  | inl less ↦ omega (arith, less)
  | inr same ↦ let least = same.1 in omega (arith, least)
]

least_address_is_told : IsNamed host three (page_clash 0xe0000001 1 3) → ⊥
least_address_is_told line = elim (line.least 0xe0000000 (slot 0 1 0) 0x20 first_with_third (lit< tt)) [
  | inl less ↦ omega (arith, less)
  | inr same ↦ let e = same.0 in omega (arith, e)
]

-- the later of two is told as the second
later_region_is_second : IsNamed host three (page_clash 0xe0000000 3 1) → ⊥
later_region_is_second line = let rise = line.rise in omega (arith, rise)

-- ---- the same on three roots

abbrev roots : List ℕ
roots = 0 ∷ 0x40 ∷ 0x80 ∷ []

abbrev on_roots : System
on_roots = with_page 0 1 ∷ with_page 0x40 1 ∷ with_page 0x80 1 ∷ []

abbrev page_split : ℕ → ℕ → ℕ → Fault
page_split address b c = Split Memory address (slot b 1 0) 0x20 (slot c 1 0) 0x20

first_with_last_root : IsIn roots on_roots (page_split 0xe0000000 0 0x80)
first_with_last_root = record {
  root_first = (0, lit< tt, refl);
  root_second = (2, lit< tt, refl);
  buses = λ e. omega (arith, e);
  claims_first = (with_page 0 1, Window MemoryWindow, (0, lit< tt, refl), refl, refl, refl, record { there = refl; enabled = refl; maps = refl; address = lit< tt; decodes = refl });
  claims_second = (with_page 0x80 1, Window MemoryWindow, (2, lit< tt, refl), refl, refl, refl, record { there = refl; enabled = refl; maps = refl; address = lit< tt; decodes = refl });
}

least_region_of_roots_is_told : IsNamed roots on_roots (page_split 0xe0000000 0x40 0x80) → ⊥
least_region_of_roots_is_told line = elim (line.least 0xe0000000 (slot 0 1 0) 0x20 first_with_last_root (lit< tt)) [
  | inl less ↦ omega (arith, less)
  | inr same ↦ let least = same.1 in omega (arith, least)
]

least_address_of_roots_is_told : IsNamed roots on_roots (page_split 0xe0000001 0 0x80) → ⊥
least_address_of_roots_is_told line = elim (line.least 0xe0000000 (slot 0 1 0) 0x20 first_with_last_root (lit< tt)) [
  | inl less ↦ omega (arith, less)
  | inr same ↦ let e = same.0 in omega (arith, e)
]

later_root_is_second : IsNamed roots on_roots (page_split 0xe0000000 0x80 0) → ⊥
later_root_is_second line = let rise = line.rise in omega (arith, rise)

-- ---- two bridges on the way that pass nothing

abbrev upper : Function
upper = bridge (slot 0 1 0) 0 0x020100 [] []

abbrev lower : Function
lower = bridge (slot 1 0 0) 0 0x020201 [] []

abbrev at_the_end : Function
at_the_end = device (slot 2 0 0) 2 ((0x10, 0xe0000000) ∷ []) ((0x10, 0xfffff000) ∷ [])

abbrev way : System
way = upper ∷ lower ∷ at_the_end ∷ []

abbrev stopped_at : ℕ → Slot → Fault
stopped_at address b = Unreached (slot 2 0 0) 0x10 Memory address b

end_claims : Claims at_the_end (Bar 0) Memory 0xe0000000
unfolding each_from
end_claims = record { there = refl; enabled = refl; maps = refl; address = lit< tt; decodes = (refl, (12, refl, interval-agrees 12 0xe0000000 0xe0000000 (lit≤ tt) (lit≤ tt))) }

stopped_by : (b : Function) → Contains (upper ∷ lower ∷ []) b → passes Memory false 0xe0000000 b ≡ false → IsIn host way (stopped_at 0xe0000000 b.slot)
stopped_by b on_the_way stops = record {
  f = at_the_end;
  part = Bar 0;
  listed = (2, lit< tt, refl);
  named = (refl, refl);
  no_window = refl;
  claims = end_claims;
  root = 0;
  starts = (0, lit< tt, refl);
  bridges = upper ∷ lower ∷ [];
  leads = ((0, lit< tt, refl), refl, refl, ((1, lit< tt, refl), refl, refl, refl));
  b = b;
  on_the_way = on_the_way;
  named_bridge = refl;
  stops = stops;
}

first_bridge_is_told : IsNamed host way (stopped_at 0xe0000000 (slot 1 0 0)) → ⊥
first_bridge_is_told line = elim (line.first Memory 0xe0000000 (slot 0 1 0) (stopped_by upper (0, lit< tt, refl) refl)) [
  | inl less ↦ omega (arith, less)
  | inr same ↦ let e = ap (λ (x : Slot). x.bus) same.0 in omega (arith, e)
]

first_bridges_least_address_is_told : IsNamed host way (stopped_at 0xe0000001 (slot 0 1 0)) → ⊥
first_bridges_least_address_is_told line = elim (line.first Memory 0xe0000000 (slot 0 1 0) (stopped_by upper (0, lit< tt, refl) refl)) [
  | inl less ↦ omega (arith, less)
  | inr same ↦ let least = same.1 in omega (arith, least)
]

-- ---- whole lists

-- of two BARs that overlap the one line
overlap_is_named : IsNamed host s found
overlap_is_named = record {
  there = two_bars_overlap;
  rise = lit< tt;
  least = λ a at register clash less. elim (region 0 Memory a (slot 0 2 0) 0x10 clash.claims_second) [
    | inl one ↦ (let e = ap (λ (x : Slot). x.device) one.slot_is in absurd (let no : ⊥ = omega (arith, e) in no))
    | inr two ↦ elim (region 0 Memory a at register clash.claims_first) [
      | inr other ↦
          absurd (let e = ap (λ (x : Slot). x.device) other.0.slot_is in
          let b = ap (λ (x : Slot). x.bus) other.0.slot_is in
          let f = ap (λ (x : Slot). x.function) other.0.slot_is in
          let r = other.0.register_is in let no : ⊥ = omega (arith, less, e, b, f, r) in no)
      | inl first ↦ elim (cases_order 0xe0080000 a) [
        | inl same ↦
            let e = ap (λ (x : Slot). x.device) first.slot_is in
            let b = ap (λ (x : Slot). x.bus) first.slot_is in
            let f = ap (λ (x : Slot). x.function) first.slot_is in
            let r = first.register_is in inr (same, omega (arith, e, b, f, r))
        | inr (inl up) ↦ inl up
        | inr (inr down) ↦ absurd (let low = two.1 in let no : ⊥ = omega (arith, down, low) in no)
      ]
    ]
  ];
}

nothing_is_left_out : AreAllOfJudging host s [] → ⊥
nothing_is_left_out all = let at = all.complete found overlap_is_named in let less = at.1 in omega (arith, less)

no_line_stands_twice : (r : List ℕ) (t : System) → AreAllOfJudging r t (found ∷ found ∷ []) → ⊥
no_line_stands_twice r t all = both_ways false refl (all.rising 0 1 found (lit< tt) (lit< tt))

abbrev other_bus : Fault
other_bus = Clash 1 Memory 0 (slot 1 1 0) 0x10 (slot 1 2 0) 0x10

lower_bus_stands_first : (r : List ℕ) (t : System) → AreAllOfJudging r t (other_bus ∷ found ∷ []) → ⊥
lower_bus_stands_first r t all = both_ways false refl (all.rising 0 1 found (lit< tt) (lit< tt))
