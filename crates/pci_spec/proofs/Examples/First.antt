-- Which fault is named: of two BARs that overlap, the clash at their least common address.
use Rattle.std.proofs.Common.{◌≡◌, ◌⊎◌, ℕ, zero, suc, ◌≤◌, List, [], ◌∷◌, ◌&&◌, ◌||◌, refl, true, false, inl, inr, arith, lit<, subst, sym, ap, ◌∙◌}
use Rattle.std.specs.Bool.{IsTrue, nat_lt, ◌==◌}
use Rattle.std.specs.List.{Contains}
use Rattle.std.proofs.lemmas.Bool.{and_parts, or_cases, ltb-true, both_ways, cases_order}
use Rattle.std.proofs.lemmas.Nat.{pow_below}
use Rattle.pci_spec.specs.Slot.{Slot}
use Rattle.pci_spec.specs.Bar.{Memory32, is_run}
use Rattle.pci_spec.specs.System.{Function, System, Space, Memory, Part, Bar, Rom, Window, Claims, Leads, is_bridge, register_of}
use Rattle.pci_spec.specs.Fault.{Fault, IsIn, IsClash, ClaimsOnBus, NoVendor, HeaderKind, BarType, BarMask, BarPair, RomMask, WindowMask, CapRange, CapLoop, CapCut, SlotsDiffer, StrayProbe, LoneFunction, OfProfile, BusRange, Orphan, Unreached, Clash, Split, address_in, named_region, named_regions}
use Rattle.pci_spec.specs.Order.{IsFirst, precedes, judging_key}
use Rattle.pci_spec.proofs.Bits.{agree-interval, run_number}
use Rattle.pci_spec.proofs.Absent.{in_pair, not_lawful, no_rom}
use Rattle.pci_spec.proofs.Examples.Samples.{slot, host}
use Rattle.pci_spec.proofs.Examples.Clashes.{large, in_its_upper_half, two_bars_overlap}
use Rattle.pci_spec.proofs.Examples.Sized.{answered}

abbrev pub s : System
s = large ∷ in_its_upper_half ∷ []

no : {A : Type 0} → false ≡ true → A
no h = absurd (let contradiction : ⊥ = both_ways false refl h in contradiction)

-- ---- what the two claim

size_of_512_kb : (k : ℕ) → 4 ≤ k → k ≤ 31 → is_run 4 0xfff80000 k 31 ≡ true → k ≡ 19
size_of_512_kb k low high is =
    let run = run_number 4 0xfff80000 k 31 (lit< tt) low high (lit< tt) is in
    elim (cases_order k 19) [
      | inl e ↦ e
      | inr (inl less) ↦ let p = pow_below k 19 less in absurd (let no : ⊥ = omega (arith, p, run) in no)
      | inr (inr more) ↦ let p = pow_below 19 k more in absurd (let no : ⊥ = omega (arith, p, run) in no)
    ]

large_claims : (part : Part) (space : Space) (a : ℕ) → Claims large part space a → (part ≡ Bar 0) × (space ≡ Memory)
large_claims (Bar zero) space a c = (refl, sym c.maps)
large_claims (Bar (suc zero)) space a c = absurd (not_lawful Memory32 c.decodes.1.0 c.decodes.1.1)
large_claims (Bar (suc (suc zero))) space a c = absurd (not_lawful Memory32 c.decodes.1.0 c.decodes.1.1)
large_claims (Bar (suc (suc (suc zero)))) space a c = absurd (not_lawful Memory32 c.decodes.1.0 c.decodes.1.1)
large_claims (Bar (suc (suc (suc (suc zero))))) space a c = absurd (not_lawful Memory32 c.decodes.1.0 c.decodes.1.1)
large_claims (Bar (suc (suc (suc (suc (suc zero)))))) space a c = absurd (not_lawful Memory32 c.decodes.1.0 c.decodes.1.1)
large_claims (Bar (suc (suc (suc (suc (suc (suc n))))))) space a c = absurd (let less = ltb-true (suc (suc (suc (suc (suc (suc n)))))) 6 c.there in let no : ⊥ = omega (arith, less) in no)
large_claims Rom space a c = absurd (no_rom c.decodes.0 c.decodes.1)
large_claims (Window kind) space a c = no c.there

half_claims : (part : Part) (space : Space) (a : ℕ) → Claims in_its_upper_half part space a → (part ≡ Bar 0) × (space ≡ Memory) × (0xe0080000 ≤ a)
half_claims (Bar zero) space a c = (refl, sym c.maps, (agree-interval 19 a 0xe0080000 (answered 19 0xe0080000 0xfff80000 a size_of_512_kb c.decodes.1)).0)
half_claims (Bar (suc zero)) space a c = absurd (not_lawful Memory32 c.decodes.1.0 c.decodes.1.1)
half_claims (Bar (suc (suc zero))) space a c = absurd (not_lawful Memory32 c.decodes.1.0 c.decodes.1.1)
half_claims (Bar (suc (suc (suc zero)))) space a c = absurd (not_lawful Memory32 c.decodes.1.0 c.decodes.1.1)
half_claims (Bar (suc (suc (suc (suc zero))))) space a c = absurd (not_lawful Memory32 c.decodes.1.0 c.decodes.1.1)
half_claims (Bar (suc (suc (suc (suc (suc zero)))))) space a c = absurd (not_lawful Memory32 c.decodes.1.0 c.decodes.1.1)
half_claims (Bar (suc (suc (suc (suc (suc (suc n))))))) space a c = absurd (let less = ltb-true (suc (suc (suc (suc (suc (suc n)))))) 6 c.there in let no : ⊥ = omega (arith, less) in no)
half_claims Rom space a c = absurd (no_rom c.decodes.0 c.decodes.1)
half_claims (Window kind) space a c = no c.there

-- a region that claims an address on a bus, by its device
pub record IsOf (d bus : ℕ) (space : Space) (at : Slot) (register : ℕ) : Type 0 where
  pub slot_is : at ≡ slot 0 d 0
  pub register_is : register ≡ 0x10
  pub bus_is : bus ≡ 0
  pub space_is : space ≡ Memory

pub region : (bus : ℕ) (space : Space) (a : ℕ) (at : Slot) (register : ℕ) → ClaimsOnBus s bus (address_in space a) (named_region at register)
    → IsOf 1 bus space at register ⊎ (IsOf 2 bus space at register × (0xe0080000 ≤ a))
region bus space a at register (f, part, listed, named, on_bus, by, claims) = elim (in_pair large in_its_upper_half f listed) [
  | inl is ↦
      let c = large_claims part space a (subst (λ z. Claims z part space a) (sym is) claims) in
      let e : slot 0 1 0 ≡ at = ap (λ (z : Function). z.slot) is ∙ named in
      inl (record {
        slot_is = sym e;
        register_is = sym by ∙ ap (λ p. register_of f p) c.0;
        bus_is = sym on_bus ∙ ap (λ (z : Slot). z.bus) (sym e);
        space_is = c.1;
      })
  | inr is ↦
      let c = half_claims part space a (subst (λ z. Claims z part space a) (sym is) claims) in
      let e : slot 0 2 0 ≡ at = ap (λ (z : Function). z.slot) is ∙ named in
      inr (
        record {
          slot_is = sym e;
          register_is = sym by ∙ ap (λ p. register_of f p) c.0;
          bus_is = sym on_bus ∙ ap (λ (z : Slot). z.bus) (sym e);
          space_is = c.1;
        },
        c.2,
      )
]

-- ---- nothing is before

abbrev pub found : Fault
found = Clash 0 Memory 0xe0080000 (slot 0 1 0) 0x10 (slot 0 2 0) 0x10

abbrev IsBefore : Fault → Type 0
IsBefore other = IsTrue (precedes (judging_key other) (judging_key found))

not_below : (a : ℕ) → 0xe0080000 ≤ a → (nat_lt a 0xe0080000 || (a == 0xe0080000 && false)) ≡ true → ⊥
not_below a low h = elim (or_cases (nat_lt a 0xe0080000) (a == 0xe0080000 && false) h) [
  | inl less ↦ let l = ltb-true a 0xe0080000 less in let no : ⊥ = omega (arith, l, low) in no
  | inr same ↦ both_ways false refl (and_parts (a == 0xe0080000) false same).1
]

-- a clash of these two devices' regions
named : (d e bus : ℕ) (space : Space) (a : ℕ) (x : Slot) (xr : ℕ) (y : Slot) (yr : ℕ) → IsOf d bus space x xr → IsOf e bus space y yr
    → IsBefore (Clash bus space a x xr y yr) → IsBefore (Clash 0 Memory a (slot 0 d 0) 0x10 (slot 0 e 0) 0x10)
named d e bus space a x xr y yr f g h =
    subst (λ z. IsBefore (Clash 0 Memory a (slot 0 d 0) 0x10 (slot 0 e 0) z)) g.register_is
    (subst (λ z. IsBefore (Clash 0 Memory a (slot 0 d 0) 0x10 z yr)) g.slot_is
    (subst (λ z. IsBefore (Clash 0 Memory a (slot 0 d 0) z y yr)) f.register_is
    (subst (λ z. IsBefore (Clash 0 Memory a z xr y yr)) f.slot_is
    (subst (λ z. IsBefore (Clash 0 z a x xr y yr)) f.space_is
    (subst (λ z. IsBefore (Clash z space a x xr y yr)) f.bus_is h)))))

no_clash_before : (bus : ℕ) (space : Space) (a : ℕ) (x : Slot) (xr : ℕ) (y : Slot) (yr : ℕ) → IsBefore (Clash bus space a x xr y yr) → IsClash host s bus (address_in space a) (named_regions x xr y yr) → ⊥
no_clash_before bus space a x xr y yr h clash = elim (region bus space a x xr clash.claims_first) [
  | inl f ↦ elim (region bus space a y yr clash.claims_second) [
    | inl g ↦ clash.differ (f.slot_is ∙ sym g.slot_is, f.register_is ∙ sym g.register_is)
    | inr g ↦ not_below a g.1 (named 1 2 bus space a x xr y yr f g.0 h)
  ]
  | inr f ↦ elim (region bus space a y yr clash.claims_second) [
    | inl g ↦ not_below a f.1 (named 2 1 bus space a x xr y yr f.0 g h)
    | inr g ↦ clash.differ (f.0.slot_is ∙ sym g.0.slot_is, f.0.register_is ∙ sym g.0.register_is)
  ]
]

-- there is no bridge
no_way : (bridges : List Function) (from to : ℕ) (b : Function) → Leads s from bridges to → Contains bridges b → ⊥
no_way [] from to b leads h = let no : ⊥ = omega (arith, h.1) in no
no_way (c ∷ bridges) from to b leads h = elim (in_pair large in_its_upper_half c leads.0) [
  | inl is ↦ no (subst (λ z. IsTrue (is_bridge z)) (sym is) leads.1)
  | inr is ↦ no (subst (λ z. IsTrue (is_bridge z)) (sym is) leads.1)
]

nothing_before : (other : Fault) → IsBefore other → IsIn host s other → ⊥
nothing_before (NoVendor at) h is = no h
nothing_before (HeaderKind at) h is = no h
nothing_before (BarType at r) h is = no h
nothing_before (BarMask at r) h is = no h
nothing_before (BarPair at r) h is = no h
nothing_before (RomMask at r) h is = no h
nothing_before (WindowMask at r) h is = no h
nothing_before (CapRange at r) h is = no h
nothing_before (CapLoop at r) h is = no h
nothing_before (CapCut at r) h is = no h
nothing_before (SlotsDiffer at) h is = is
nothing_before (StrayProbe at r) h is = no h
nothing_before (LoneFunction at) h is = no h
nothing_before (OfProfile fault at) h is = no h
nothing_before (BusRange at) h is = no h
nothing_before (Orphan at) h is = no h
nothing_before (Unreached at r space a bridge) h is = no_way is.bridges is.root at.bus is.b is.leads is.on_the_way
nothing_before (Clash bus space a x xr y yr) h is = no_clash_before bus space a x xr y yr h is
nothing_before (Split space a x xr y yr) h is = no h

clash_at_the_least_common_address_is_first : IsFirst host s found
clash_at_the_least_common_address_is_first = record { there = two_bars_overlap; first = nothing_before }
