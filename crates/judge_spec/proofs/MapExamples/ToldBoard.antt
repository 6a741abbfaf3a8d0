-- The regions of a board with ISA Enable and three told ranges, of which one is off.
use Rattle.std.proofs.Common.{◌≡◌, ◌⊎◌, ℕ, zero, suc, [], ◌∷◌, refl, true, false, None, Some, inl, inr, arith, lit<, lit≤, subst, sym, ap, ◌∙◌}
use Rattle.std.specs.Prelude.{◌↔◌, IsTrue, ◌&&◌, ◌||◌, nat_le}
use Rattle.std.specs.List.{Contains, slice_get}
use Rattle.std.proofs.lemmas.Bool.{and_parts, or_cases, ltb-true, leb-true, both_ways, cases_order}
use Rattle.std.proofs.lemmas.Nat.{pow_below}
use Rattle.pci_spec.specs.Number.{each_from, AgreeFrom}
use Rattle.pci_spec.specs.Slot.{Slot}
use Rattle.pci_spec.specs.Bar.{IoBar, Memory32, Answers, is_run, is_lawful}
use Rattle.pci_spec.specs.Window.{IoWindow, MemoryWindow, PrefetchWindow, holds}
use Rattle.pci_spec.specs.Bus.{secondary}
use Rattle.pci_spec.specs.Decoded.{InRange}
use Rattle.pci_spec.specs.System.{Function, Space, Io, Memory, Part, Bar, Rom, Window, Claims}
use Rattle.pci_spec.specs.Why.{Region, IsRegionIn}
use Rattle.pci_spec.proofs.Absent.{not_lawful, no_rom}
use Rattle.pci_spec.proofs.Bits.{agree-interval, interval-agrees, run_number}
use Rattle.pci_spec.proofs.Members.{in_nil, in_cons_cases, in_head, in_tail}
use Rattle.pci_spec.proofs.Ranges.{window_range-holds}
use Rattle.pci_spec.proofs.Examples.Samples.{slot, range, host}
use Rattle.judge_spec.specs.Given.{starts}
use Rattle.judge_spec.specs.Told.{ToldRange}
use Rattle.judge_spec.specs.ToldClaims.{is_range_on}
use Rattle.judge_spec.specs.ToldRegion.{ToldRegion, IsToldIn}
use Rattle.judge_spec.specs.Regions.{MapRegion, Own, OfLine, slot_of, space_of, IsIn}
use Rattle.judge_spec.specs.Lines.{BelongsUnder, IsOutOfPlace}
use Rattle.judge_spec.proofs.MapExamples.InsideWindows.{one_region}
use Rattle.judge_spec.proofs.MapExamples.ToldTexts.{of_line, p2sb, vf0, ea0, told, above, behind, disabled, s, with_isa, io_window, memory_window, ports}

pub no : {A : Type 0} → false ≡ true → A
no h = absurd (let contradiction : ⊥ = both_ways false refl h in contradiction)

pub not_memory : {A : Type 0} → Memory ≡ Io → A
not_memory e = cc

-- ---- what parts claim

io_held : (a : ℕ) → InRange (range 0x1000 0x1fff) a ↔ IsTrue (holds IoWindow above.image above.probe a)
io_held a = window_range-holds IoWindow above.image above.probe refl a

memory_held : (a : ℕ) → InRange (range 0xe0000000 0xe00fffff) a ↔ IsTrue (holds MemoryWindow above.image above.probe a)
memory_held a = window_range-holds MemoryWindow above.image above.probe refl a

pub io_window_is : IsRegionIn s io_window
io_window_is = record {
  f = above;
  listed = (0, lit< tt, refl);
  slot = refl;
  register = refl;
  prefetchable = refl;
  some = lit≤ tt;
  claims = λ a. (λ held. record { there = refl; enabled = refl; maps = refl; address = let high = held.1 in omega (arith, high); decodes = (io_held a).0 held }, λ claims. (io_held a).1 claims.decodes);
}

pub memory_window_is : IsRegionIn s memory_window
memory_window_is = record {
  f = above;
  listed = (0, lit< tt, refl);
  slot = refl;
  register = refl;
  prefetchable = refl;
  some = lit≤ tt;
  claims = λ a. (λ held. record { there = refl; enabled = refl; maps = refl; address = let high = held.1 in omega (arith, high); decodes = (memory_held a).0 held }, λ claims. (memory_held a).1 claims.decodes);
}

size_of_32 : (k : ℕ) → is_lawful IoBar 0xffffffe1 k ≡ true → k ≡ 5
size_of_32 k lawful =
    let outer = and_parts (nat_le 2 k && nat_le k 8) (is_run 2 0xffffffe1 k 31 || is_run 2 0xffffffe1 k 15) lawful in
    let inner = and_parts (nat_le 2 k) (nat_le k 8) outer.0 in
    let low = leb-true 2 k inner.0 in
    let high = leb-true k 8 inner.1 in
    elim (or_cases (is_run 2 0xffffffe1 k 31) (is_run 2 0xffffffe1 k 15) outer.1) [
      | inl is ↦ (let run = run_number 2 0xffffffe1 k 31 (lit< tt) low (omega (arith, high)) (lit< tt) is in
          elim (cases_order k 5) [
            | inl e ↦ e
            | inr (inl less) ↦ let p = pow_below k 5 less in absurd (let no : ⊥ = omega (arith, p, run) in no)
            | inr (inr more) ↦ let p = pow_below 5 k more in absurd (let no : ⊥ = omega (arith, p, run) in no)
          ])
      | inr is ↦ (let run = run_number 2 0xffffffe1 k 15 (lit< tt) low (omega (arith, high)) (lit< tt) is in absurd (let no : ⊥ = omega (arith, run) in no))
    ]

answered : (a : ℕ) → Answers IoBar 0x1001 0xffffffe1 a → AgreeFrom 5 a 0x1001
answered a (k, lawful, agree) = subst (λ j. AgreeFrom j a 0x1001) (size_of_32 k lawful) agree

pub ports_claims : (a : ℕ) → InRange (range 0x1000 0x101f) a → Claims behind (Bar 0) Io a
unfolding each_from
ports_claims a held = record { there = refl; enabled = refl; maps = refl; address = let high = held.1 in omega (arith, high); decodes = (refl, (5, refl, interval-agrees 5 a 0x1001 held.0 held.1)) }

pub ports_holds : (a : ℕ) → Claims behind (Bar 0) Io a → InRange (range 0x1000 0x101f) a
ports_holds a claims = agree-interval 5 a 0x1001 (answered a claims.decodes.1)

pub ports_is : IsRegionIn s ports
ports_is = record { f = behind; listed = (1, lit< tt, refl); slot = refl; register = refl; prefetchable = refl; some = lit≤ tt; claims = λ a. (ports_claims a, ports_holds a) }

pub p2sb_is : IsIn told s (of_line 1 p2sb)
p2sb_is = record { named = record { index = 0; at = refl; slot = refl; register = refl }; on = refl; some = lit≤ tt }

pub vf0_is : IsIn told s (of_line 2 vf0)
vf0_is = record { named = record { index = 1; at = refl; slot = refl; register = refl }; on = refl; some = lit≤ tt }

above_parts : (part : Part) (space : Space) (a : ℕ) → Claims above part space a → ((part ≡ Window IoWindow) × (space ≡ Io)) ⊎ ((part ≡ Window MemoryWindow) × (space ≡ Memory))
above_parts (Window IoWindow) space a c = inl (refl, sym c.maps)
above_parts (Window MemoryWindow) space a c = inr (refl, sym c.maps)
above_parts (Window PrefetchWindow) space a c = no c.decodes
above_parts (Bar zero) space a c = absurd (not_lawful Memory32 c.decodes.1.0 c.decodes.1.1)
above_parts (Bar (suc zero)) space a c = absurd (not_lawful Memory32 c.decodes.1.0 c.decodes.1.1)
above_parts (Bar (suc (suc n))) space a c = absurd (let less = ltb-true (suc (suc n)) 2 c.there in let no : ⊥ = omega (arith, less) in no)
above_parts Rom space a c = absurd (no_rom c.decodes.0 c.decodes.1)

pub behind_parts : (part : Part) (space : Space) (a : ℕ) → Claims behind part space a → (part ≡ Bar 0) × (space ≡ Io)
behind_parts (Bar zero) space a c = (refl, sym c.maps)
behind_parts (Bar (suc zero)) space a c = absurd (not_lawful Memory32 c.decodes.1.0 c.decodes.1.1)
behind_parts (Bar (suc (suc zero))) space a c = absurd (not_lawful Memory32 c.decodes.1.0 c.decodes.1.1)
behind_parts (Bar (suc (suc (suc zero)))) space a c = absurd (not_lawful Memory32 c.decodes.1.0 c.decodes.1.1)
behind_parts (Bar (suc (suc (suc (suc zero))))) space a c = absurd (not_lawful Memory32 c.decodes.1.0 c.decodes.1.1)
behind_parts (Bar (suc (suc (suc (suc (suc zero)))))) space a c = absurd (not_lawful Memory32 c.decodes.1.0 c.decodes.1.1)
behind_parts (Bar (suc (suc (suc (suc (suc (suc n))))))) space a c = absurd (let less = ltb-true (suc (suc (suc (suc (suc (suc n)))))) 6 c.there in let no : ⊥ = omega (arith, less) in no)
behind_parts Rom space a c = absurd (no_rom c.decodes.0 c.decodes.1)
behind_parts (Window kind) space a c = no c.there

pub no_part : (part : Part) (space : Space) (a : ℕ) → Claims disabled part space a → ⊥
no_part (Bar zero) space a c = not_lawful Memory32 c.decodes.1.0 c.decodes.1.1
no_part (Bar (suc zero)) space a c = not_lawful Memory32 c.decodes.1.0 c.decodes.1.1
no_part (Bar (suc (suc zero))) space a c = not_lawful Memory32 c.decodes.1.0 c.decodes.1.1
no_part (Bar (suc (suc (suc zero)))) space a c = not_lawful Memory32 c.decodes.1.0 c.decodes.1.1
no_part (Bar (suc (suc (suc (suc zero))))) space a c = not_lawful Memory32 c.decodes.1.0 c.decodes.1.1
no_part (Bar (suc (suc (suc (suc (suc zero)))))) space a c = not_lawful Memory32 c.decodes.1.0 c.decodes.1.1
no_part (Bar (suc (suc (suc (suc (suc (suc n))))))) space a c = let less = ltb-true (suc (suc (suc (suc (suc (suc n)))))) 6 c.there in omega (arith, less)
no_part Rom space a c = no_rom c.decodes.0 c.decodes.1
no_part (Window kind) space a c = no c.there

pub one_of_three : (f : Function) → Contains s f → (above ≡ f) ⊎ (behind ≡ f) ⊎ (disabled ≡ f)
one_of_three f listed = elim (in_cons_cases above (behind ∷ disabled ∷ []) f listed) [
  | inl is ↦ inl is
  | inr more ↦ elim (in_cons_cases behind (disabled ∷ []) f more) [
    | inl is ↦ inr (inl is)
    | inr last ↦ elim (in_cons_cases disabled [] f last) [ inl is ↦ inr (inr is) | inr none ↦ absurd (in_nil f none) ]
  ]
]

-- ---- which ranges are on

pub one_of_two : (index : ℕ) (r : ToldRange) → slice_get told.ranges index ≡ Some r → IsTrue (is_range_on told s r) → ((index ≡ 0) × (p2sb ≡ r)) ⊎ ((index ≡ 1) × (vf0 ≡ r))
one_of_two zero r at on = inl (refl, (let e : Some p2sb ≡ Some r = at in cc))
one_of_two (suc zero) r at on = inr (refl, (let e : Some vf0 ≡ Some r = at in cc))
one_of_two (suc (suc zero)) r at on =
    let e : Some ea0 ≡ Some r = at in
    let same : ea0 ≡ r = cc in
    absurd (both_ways (is_range_on told s r) (ap (λ (x : ToldRange). is_range_on told s x) (sym same)) on)
one_of_two (suc (suc (suc index))) r at on = let e : None ≡ Some r = at in absurd cc

-- ---- the regions

abbrev pub IsOne : MapRegion → Type 0
IsOne q = (Own io_window ≡ q) ⊎ (Own memory_window ≡ q) ⊎ (Own ports ≡ q) ⊎ (of_line 1 p2sb ≡ q) ⊎ (of_line 2 vf0 ≡ q)

own_is_one : (q : Region) → IsRegionIn s q → IsOne (Own q)
unfolding io_window_is memory_window_is ports_is
own_is_one q is =
    let first = (is.claims q.range.first).0 (omega arith, is.some) in
    elim (one_of_three is.f is.listed) [
      | inl of ↦ elim (above_parts q.part q.space q.range.first (subst (λ (f : Function). Claims f q.part q.space q.range.first) (sym of) first)) [
        | inl io ↦ inl (ap Own (one_region s io_window q io_window_is is of (sym io.0) (sym io.1)))
        | inr memory ↦ inr (inl (ap Own (one_region s memory_window q memory_window_is is of (sym memory.0) (sym memory.1))))
      ]
      | inr (inl of) ↦ (let port = behind_parts q.part q.space q.range.first (subst (λ (f : Function). Claims f q.part q.space q.range.first) (sym of) first) in
          inr (inr (inl (ap Own (one_region s ports q ports_is is of (sym port.0) (sym port.1))))))
      | inr (inr of) ↦ absurd (no_part q.part q.space q.range.first (subst (λ (f : Function). Claims f q.part q.space q.range.first) (sym of) first))
    ]

told_is_one : (x : ToldRegion) → IsToldIn told s x → IsOne (OfLine x)
told_is_one x is = elim (one_of_two is.named.index x.told is.named.at is.on) [
  | inl (index, same) ↦ inr (inr (inr (inl (
      let at = is.named.register in
      let register : 256 ≡ x.register = omega (arith, at, index) in
      let region : (record { register = 256; told = p2sb }) ≡ x = λ i. record { register = register i; told = same i } in
      ap OfLine region))))
  | inr (index, same) ↦ inr (inr (inr (inr (
      let at = is.named.register in
      let register : 257 ≡ x.register = omega (arith, at, index) in
      let region : (record { register = 257; told = vf0 }) ≡ x = λ i. record { register = register i; told = same i } in
      ap OfLine region))))
]

pub each_is_one : (q : MapRegion) → IsIn told s q → IsOne q
each_is_one (Own q) is = own_is_one q is
each_is_one (OfLine x) is = told_is_one x is

-- ---- nothing is out of place

sent : (space : Space) (root a : ℕ) → starts with_isa space root a ≡ true
sent Io root a = refl
sent Memory root a = refl

pub in_place : (q : MapRegion) → IsOutOfPlace told with_isa host s q → ⊥
in_place q out = elim out.outside [
  | inl o ↦ both_ways _ o.none (sent (space_of q) o.root out.address)
  | inr o ↦ both_ways _ o.none (sent (space_of q) o.root out.address)
]

-- ---- which stand where

pub one_has : (P : MapRegion → Type 0) (p : MapRegion) → P p → (q : MapRegion) → Contains (p ∷ []) q → P q
one_has P p is q has = elim (in_cons_cases p [] q has) [ inl here ↦ subst P here is | inr none ↦ absurd (in_nil q none) ]

pub two_have : (P : MapRegion → Type 0) (p r : MapRegion) → P p → P r → (q : MapRegion) → Contains (p ∷ r ∷ []) q → P q
two_have P p r is also q has = elim (in_cons_cases p (r ∷ []) q has) [ inl here ↦ subst P here is | inr later ↦ one_has P r also q later ]

pub ports_belong : BelongsUnder with_isa s io_window (Own ports)
ports_belong = record { b = above; listed = (0, lit< tt, refl); bridge = refl; slot = refl; leads = refl; kind = IoWindow; window = refl; first = refl }

pub vf0_belongs : BelongsUnder with_isa s memory_window (of_line 2 vf0)
vf0_belongs = record { b = above; listed = (0, lit< tt, refl); bridge = refl; slot = refl; leads = refl; kind = MemoryWindow; window = refl; first = refl }

-- what belongs under a window of the bridge stands on bus 01
pub bus_below : (b : Function) → Contains s b → b.slot ≡ slot 0 1 0 → secondary b ≡ 1
bus_below b listed at = elim (one_of_three b listed) [
  | inl is ↦ ap (λ (x : Function). secondary x) (sym is)
  | inr (inl is) ↦ absurd (let e = ap (λ (x : Slot). x.bus) (ap (λ (x : Function). x.slot) is ∙ at) in let no : ⊥ = omega (arith, e) in no)
  | inr (inr is) ↦ absurd (let e = ap (λ (x : Slot). x.bus) (ap (λ (x : Function). x.slot) is ∙ at) in let no : ⊥ = omega (arith, e) in no)
]

bus_of_inside : (w : Region) (q : MapRegion) → w.slot ≡ slot 0 1 0 → BelongsUnder with_isa s w q → (slot_of q).bus ≡ 1
bus_of_inside w q at under = sym under.leads ∙ bus_below under.b under.listed (under.slot ∙ at)

of_io : (p q : MapRegion) → p ≡ q → space_of p ≡ Memory → space_of q ≡ Io → ⊥
of_io p q e memory io = not_memory (sym memory ∙ ap space_of e ∙ io)

of_memory : (p q : MapRegion) → p ≡ q → space_of p ≡ Io → space_of q ≡ Memory → ⊥
of_memory p q e io memory = not_memory (sym memory ∙ ap space_of (sym e) ∙ io)

on_other_bus : (p q : MapRegion) (n m : ℕ) → p ≡ q → (slot_of p).bus ≡ n → (slot_of q).bus ≡ m → n ≡ m
on_other_bus p q n m e here there = sym here ∙ ap (λ x. (slot_of x).bus) e ∙ there

pub on_root_io : (q : MapRegion) → IsIn told s q → space_of q ≡ Io → (slot_of q).bus ≡ 0 → Contains (Own io_window ∷ []) q
on_root_io q is space bus = elim (each_is_one q is) [
  | inl e ↦ subst (λ x. Contains (Own io_window ∷ []) x) e (in_head (Own io_window) [])
  | inr (inl e) ↦ absurd (of_io (Own memory_window) q e refl space)
  | inr (inr (inl e)) ↦ absurd (let other = on_other_bus (Own ports) q 1 0 e refl bus in let no : ⊥ = omega (arith, other) in no)
  | inr (inr (inr (inl e))) ↦ absurd (of_io (of_line 1 p2sb) q e refl space)
  | inr (inr (inr (inr e))) ↦ absurd (of_io (of_line 2 vf0) q e refl space)
]

pub on_root_memory : (q : MapRegion) → IsIn told s q → space_of q ≡ Memory → (slot_of q).bus ≡ 0 → Contains (Own memory_window ∷ of_line 1 p2sb ∷ []) q
on_root_memory q is space bus = elim (each_is_one q is) [
  | inl e ↦ absurd (of_memory (Own io_window) q e refl space)
  | inr (inl e) ↦ subst (λ x. Contains (Own memory_window ∷ of_line 1 p2sb ∷ []) x) e (in_head (Own memory_window) (of_line 1 p2sb ∷ []))
  | inr (inr (inl e)) ↦ absurd (of_memory (Own ports) q e refl space)
  | inr (inr (inr (inl e))) ↦ subst (λ x. Contains (Own memory_window ∷ of_line 1 p2sb ∷ []) x) e (in_tail (Own memory_window) (of_line 1 p2sb ∷ []) (of_line 1 p2sb) (in_head (of_line 1 p2sb) []))
  | inr (inr (inr (inr e))) ↦ absurd (let other = on_other_bus (of_line 2 vf0) q 1 0 e refl bus in let no : ⊥ = omega (arith, other) in no)
]

pub in_io_window : (q : MapRegion) → IsIn told s q → space_of q ≡ Io → BelongsUnder with_isa s io_window q → Contains (Own ports ∷ []) q
in_io_window q is space under = elim (each_is_one q is) [
  | inl e ↦ absurd (let other = on_other_bus (Own io_window) q 0 1 e refl (bus_of_inside io_window q refl under) in let no : ⊥ = omega (arith, other) in no)
  | inr (inl e) ↦ absurd (of_io (Own memory_window) q e refl space)
  | inr (inr (inl e)) ↦ subst (λ x. Contains (Own ports ∷ []) x) e (in_head (Own ports) [])
  | inr (inr (inr (inl e))) ↦ absurd (of_io (of_line 1 p2sb) q e refl space)
  | inr (inr (inr (inr e))) ↦ absurd (of_io (of_line 2 vf0) q e refl space)
]

pub in_memory_window : (q : MapRegion) → IsIn told s q → space_of q ≡ Memory → BelongsUnder with_isa s memory_window q → Contains (of_line 2 vf0 ∷ []) q
in_memory_window q is space under = elim (each_is_one q is) [
  | inl e ↦ absurd (of_memory (Own io_window) q e refl space)
  | inr (inl e) ↦ absurd (let other = on_other_bus (Own memory_window) q 0 1 e refl (bus_of_inside memory_window q refl under) in let no : ⊥ = omega (arith, other) in no)
  | inr (inr (inl e)) ↦ absurd (of_memory (Own ports) q e refl space)
  | inr (inr (inr (inl e))) ↦ absurd (let other = on_other_bus (of_line 1 p2sb) q 0 1 e refl (bus_of_inside memory_window q refl under) in let no : ⊥ = omega (arith, other) in no)
  | inr (inr (inr (inr e))) ↦ subst (λ x. Contains (of_line 2 vf0 ∷ []) x) e (in_head (of_line 2 vf0) [])
]
