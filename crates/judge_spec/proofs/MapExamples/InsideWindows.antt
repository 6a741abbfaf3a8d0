-- What stands in a window of a bridge: two BARs, with what is free before, between and behind them.
use Rattle.std.proofs.Common.{◌≡◌, ◌⊎◌, ℕ, zero, suc, ◌≤◌, ◌<◌, List, [], ◌∷◌, ◌&&◌, Bool, refl, true, false, inl, inr, arith, lit<, lit≤, subst, sym, ap, ◌∙◌}
use Rattle.std.specs.Prelude.{nat_lt, slice_index_or}
use Rattle.std.specs.List.{Any, AllPairs, Contains, list_all}
use Rattle.std.proofs.lemmas.Bool.{and_parts, ltb-true, both_ways, cases_order, cases_lt}
use Rattle.std.proofs.lemmas.Nat.{pow_below}
use Rattle.pci_spec.specs.Number.{each_from}
use Rattle.pci_spec.specs.Slot.{Slot}
use Rattle.pci_spec.specs.Bar.{Memory32, is_run}
use Rattle.pci_spec.specs.Window.{MemoryWindow}
use Rattle.pci_spec.specs.Bus.{secondary}
use Rattle.pci_spec.specs.Decoded.{Range, InRange}
use Rattle.pci_spec.specs.System.{Function, System, Space, Memory, Part, Bar, Rom, Window, Claims, register_of, is_prefetchable_part}
use Rattle.pci_spec.specs.Why.{Region, IsRegionIn, IsRun}
use Rattle.pci_spec.proofs.Absent.{in_pair, not_lawful, no_rom}
use Rattle.pci_spec.proofs.Bits.{agree-interval, interval-agrees, run_number}
use Rattle.pci_spec.proofs.Members.{in_nil, in_cons_cases, in_head, in_tail, pairs_nil, pairs_cons}
use Rattle.pci_spec.proofs.Examples.Samples.{slot, device, bridge, range, host}
use Rattle.pci_spec.proofs.Examples.Sized.{answered}
use Rattle.judge_spec.specs.Given.{nothing_given}
use Rattle.judge_spec.specs.ToldRegion.{told_name}
use Rattle.judge_spec.proofs.NothingTold.{no_range_at}
use Rattle.judge_spec.specs.Regions.{MapRegion, Own, OfLine, space_of, IsIn}
use Rattle.judge_spec.proofs.OneList.{same_range}
use Rattle.judge_spec.specs.Lines.{BelongsUnder, Inside, IsClaimedOn, IsFreeIn, Lines, End, Free, Sits, MarkIsBefore, marks, AreLinesAt}
use Rattle.judge_spec.proofs.MapNothing.{all_in_place}
use Rattle.judge_spec.proofs.MapExamples.Samples.{region, untold}

-- memory E0000000 to E00FFFFF
abbrev above : Function
above = bridge (slot 0 1 0) 2 0x010100 ((0x20, 0xe000e000) ∷ []) []

-- 4 KB at E0040000, and 4 KB at E0080000
abbrev behind : Function
behind = device (slot 1 0 0) 2 ((0x10, 0xe0040000) ∷ (0x14, 0xe0080000) ∷ []) ((0x10, 0xfffff000) ∷ (0x14, 0xfffff000) ∷ [])

abbrev s : System
s = above ∷ behind ∷ []

abbrev window : Region
window = region (slot 0 1 0) 0x20 (Window MemoryWindow) Memory false 0xe0000000 0xe00fffff

abbrev lower : Region
lower = region (slot 1 0 0) 0x10 (Bar 0) Memory false 0xe0040000 0xe0040fff

abbrev upper : Region
upper = region (slot 1 0 0) 0x14 (Bar 1) Memory false 0xe0080000 0xe0080fff

-- ---- what the BARs claim

no : {A : Type 0} → false ≡ true → A
no h = absurd (let contradiction : ⊥ = both_ways false refl h in contradiction)

size_of_4_kb : (k : ℕ) → 4 ≤ k → k ≤ 31 → is_run 4 0xfffff000 k 31 ≡ true → k ≡ 12
size_of_4_kb k low high is =
    let run = run_number 4 0xfffff000 k 31 (lit< tt) low high (lit< tt) is in
    elim (cases_order k 12) [
      | inl e ↦ e
      | inr (inl less) ↦ let p = pow_below k 12 less in absurd (let no : ⊥ = omega (arith, p, run) in no)
      | inr (inr more) ↦ let p = pow_below 12 k more in absurd (let no : ⊥ = omega (arith, p, run) in no)
    ]

lower_claims : (a : ℕ) → InRange lower.range a → Claims behind (Bar 0) Memory a
unfolding each_from
lower_claims a held = record {
  there = refl;
  enabled = refl;
  maps = refl;
  address = let high = held.1 in omega (arith, high);
  decodes = (refl, (12, refl, interval-agrees 12 a 0xe0040000 held.0 held.1));
}

upper_claims : (a : ℕ) → InRange upper.range a → Claims behind (Bar 1) Memory a
unfolding each_from
upper_claims a held = record {
  there = refl;
  enabled = refl;
  maps = refl;
  address = let high = held.1 in omega (arith, high);
  decodes = (refl, (12, refl, interval-agrees 12 a 0xe0080000 held.0 held.1));
}

lower_holds : (a : ℕ) → Claims behind (Bar 0) Memory a → InRange lower.range a
lower_holds a c = agree-interval 12 a 0xe0040000 (answered 12 0xe0040000 0xfffff000 a size_of_4_kb c.decodes.1)

upper_holds : (a : ℕ) → Claims behind (Bar 1) Memory a → InRange upper.range a
upper_holds a c = agree-interval 12 a 0xe0080000 (answered 12 0xe0080000 0xfffff000 a size_of_4_kb c.decodes.1)

two_alone : (part : Part) (a : ℕ) → Claims behind part Memory a → (part ≡ Bar 0) ⊎ (part ≡ Bar 1)
two_alone (Bar zero) a c = inl refl
two_alone (Bar (suc zero)) a c = inr refl
two_alone (Bar (suc (suc zero))) a c = absurd (not_lawful Memory32 c.decodes.1.0 c.decodes.1.1)
two_alone (Bar (suc (suc (suc zero)))) a c = absurd (not_lawful Memory32 c.decodes.1.0 c.decodes.1.1)
two_alone (Bar (suc (suc (suc (suc zero))))) a c = absurd (not_lawful Memory32 c.decodes.1.0 c.decodes.1.1)
two_alone (Bar (suc (suc (suc (suc (suc zero)))))) a c = absurd (not_lawful Memory32 c.decodes.1.0 c.decodes.1.1)
two_alone (Bar (suc (suc (suc (suc (suc (suc n))))))) a c = absurd (let less = ltb-true (suc (suc (suc (suc (suc (suc n)))))) 6 c.there in let no : ⊥ = omega (arith, less) in no)
two_alone Rom a c = absurd (no_rom c.decodes.0 c.decodes.1)
two_alone (Window kind) a c = no c.there

lower_is : IsRegionIn s lower
lower_is = record {
  f = behind;
  listed = (1, lit< tt, refl);
  slot = refl;
  register = refl;
  prefetchable = refl;
  some = lit≤ tt;
  claims = λ a. (lower_claims a, lower_holds a);
}

upper_is : IsRegionIn s upper
upper_is = record {
  f = behind;
  listed = (1, lit< tt, refl);
  slot = refl;
  register = refl;
  prefetchable = refl;
  some = lit≤ tt;
  claims = λ a. (upper_claims a, upper_holds a);
}

-- each belongs under the window
lower_belongs : BelongsUnder nothing_given s window (Own lower)
lower_belongs = record {
  b = above;
  listed = (0, lit< tt, refl);
  bridge = refl;
  slot = refl;
  leads = refl;
  kind = MemoryWindow;
  window = refl;
  first = refl;
}

upper_belongs : BelongsUnder nothing_given s window (Own upper)
upper_belongs = record {
  b = above;
  listed = (0, lit< tt, refl);
  bridge = refl;
  slot = refl;
  leads = refl;
  kind = MemoryWindow;
  window = refl;
  first = refl;
}

-- ---- nothing else stands on bus 01

region_from : (p q : Region) → p.slot ≡ q.slot → p.register ≡ q.register → p.part ≡ q.part → p.space ≡ q.space → p.prefetchable ≡ q.prefetchable → p.range ≡ q.range → p ≡ q
region_from p q slot register part space prefetchable range = λ i. record {
  slot = slot i;
  register = register i;
  part = part i;
  space = space i;
  prefetchable = prefetchable i;
  range = range i;
}

pub moved : (f g : Function) (p q : Part) (sp sq : Space) (a : ℕ) → f ≡ g → p ≡ q → sp ≡ sq → Claims f p sp a → Claims g q sq a
moved f g p q sp sq a of part space claims =
    subst (λ (x : Space). Claims g q x a) space (subst (λ (x : Part). Claims g x sp a) part (subst (λ (x : Function). Claims x p sp a) of claims))

-- regions of one part in one space are one
pub one_region : (t : System) (p q : Region) (is : IsRegionIn t p) (other : IsRegionIn t q) → is.f ≡ other.f → p.part ≡ q.part → p.space ≡ q.space → p ≡ q
one_region t p q is other of part space =
    let slot : p.slot ≡ q.slot = sym is.slot ∙ ap (λ (x : Function). x.slot) of ∙ other.slot in
    let register : p.register ≡ q.register = sym is.register ∙ ap (λ (x : Function). register_of x p.part) of ∙ ap (λ x. register_of other.f x) part ∙ other.register in
    let prefetchable : p.prefetchable ≡ q.prefetchable =
    sym is.prefetchable ∙ ap (λ (x : Function). is_prefetchable_part x p.part) of ∙ ap (λ x. is_prefetchable_part other.f x) part ∙ other.prefetchable in
    let range : p.range ≡ q.range = same_range p.range q.range is.some other.some
    (λ a held. (other.claims a).1 (moved is.f other.f p.part q.part p.space q.space a of part space ((is.claims a).0 held)))
    (λ a held. (is.claims a).1 (moved other.f is.f q.part p.part q.space p.space a (sym of) (sym part) (sym space) ((other.claims a).0 held))) in
    region_from p q slot register part space prefetchable range

bus_below : (b : Function) → Contains s b → b.slot ≡ slot 0 1 0 → secondary b ≡ 1
bus_below b listed at = elim (in_pair above behind b listed) [
  | inl is ↦ ap (λ (x : Function). secondary x) (sym is)
  | inr is ↦ absurd (let e = ap (λ (x : Slot). x.bus) (ap (λ (x : Function). x.slot) is ∙ at) in let no : ⊥ = omega (arith, e) in no)
]

on_bus_one : (f : Function) → Contains s f → f.slot.bus ≡ 1 → behind ≡ f
on_bus_one f listed at = elim (in_pair above behind f listed) [
  | inl is ↦ absurd (let e = ap (λ (x : Function). x.slot.bus) is ∙ at in let no : ⊥ = omega (arith, e) in no)
  | inr is ↦ is
]

abbrev bars : List MapRegion
bars = Own lower ∷ Own upper ∷ []

bars_alone : (q : MapRegion) → IsIn untold s q → space_of q ≡ Memory → BelongsUnder nothing_given s window q → Contains bars q
unfolding lower_is upper_is
bars_alone (OfLine x) is space under = absurd (no_range_at [] (told_name x) x.told is.named)
bars_alone (Own q) is space under =
    let bus : q.slot.bus ≡ 1 = sym under.leads ∙ bus_below under.b under.listed under.slot in
    let of : behind ≡ is.f = on_bus_one is.f is.listed (ap (λ (x : Slot). x.bus) is.slot ∙ bus) in
    let claims = moved is.f behind q.part q.part q.space Memory q.range.first (sym of) refl space ((is.claims q.range.first).0 (omega arith, is.some)) in
    elim (two_alone q.part q.range.first claims) [
      | inl part ↦ subst (λ (x : Region). Contains bars (Own x)) (one_region s lower q lower_is is of (sym part) (sym space)) (in_head (Own lower) (Own upper ∷ []))
      | inr part ↦ subst (λ (x : Region). Contains bars (Own x)) (one_region s upper q upper_is is of (sym part) (sym space)) (in_tail (Own lower) (Own upper ∷ []) (Own upper) (in_head (Own upper) []))
    ]

-- ---- what is free

abbrev IsFree : ℕ → Type 0
IsFree a = IsFreeIn untold nothing_given s window a

claimed_is_held : (a : ℕ) → IsClaimedOn untold nothing_given s 1 Memory a → InRange lower.range a ⊎ InRange upper.range a
claimed_is_held a (inr c) = absurd (no_range_at [] c.0 c.1.r c.1.named)
claimed_is_held a (inl c) =
    let claims = subst (λ (x : Function). Claims x c.part Memory a) (sym (on_bus_one c.f c.listed c.on_bus)) c.claims.claims in
    elim (two_alone c.part a claims) [
      | inl part ↦ inl (lower_holds a (subst (λ p. Claims behind p Memory a) part claims))
      | inr part ↦ inr (upper_holds a (subst (λ p. Claims behind p Memory a) part claims))
    ]

is_free : (a : ℕ) → InRange window.range a → (InRange lower.range a → ⊥) → (InRange upper.range a → ⊥) → IsFree a
is_free a held not_lower not_upper = record {
  held = held;
  kept = refl;
  unclaimed = λ b listed at claimed. elim (claimed_is_held a (subst (λ bus. IsClaimedOn untold nothing_given s bus Memory a) (bus_below b listed at) claimed)) [
    | inl inside ↦ not_lower inside
    | inr inside ↦ not_upper inside
  ];
}

lower_is_taken : (a : ℕ) → InRange lower.range a → IsFree a → ⊥
lower_is_taken a held free = free.unclaimed above (0, lit< tt, refl) refl (inl record { f = behind; part = Bar 0; listed = (1, lit< tt, refl); on_bus = refl; claims = record { claims = lower_claims a held; kept = refl } })

upper_is_taken : (a : ℕ) → InRange upper.range a → IsFree a → ⊥
upper_is_taken a held free = free.unclaimed above (0, lit< tt, refl) refl (inl record { f = behind; part = Bar 1; listed = (1, lit< tt, refl); on_bus = refl; claims = record { claims = upper_claims a held; kept = refl } })

abbrev before : Range
before = range 0xe0000000 0xe003ffff

abbrev between : Range
between = range 0xe0041000 0xe007ffff

abbrev after : Range
after = range 0xe0081000 0xe00fffff

free_before : IsRun IsFree before
free_before = record {
  some = lit≤ tt;
  each = λ a held. let low = held.0 in let high = held.1 in
      is_free a (low, omega (arith, high)) (λ inside. let first = inside.0 in omega (arith, first, high)) (λ inside. let first = inside.0 in omega (arith, first, high));
  before = λ a at free. let low = free.held.0 in omega (arith, at, low);
  behind = lower_is_taken 0xe0040000 (lit≤ tt, lit≤ tt);
}

free_between : IsRun IsFree between
free_between = record {
  some = lit≤ tt;
  each = λ a held. let low = held.0 in let high = held.1 in
      is_free a (omega (arith, low), omega (arith, high)) (λ inside. let last = inside.1 in omega (arith, last, low)) (λ inside. let first = inside.0 in omega (arith, first, high));
  before = λ a at free. lower_is_taken a (omega (arith, at), omega (arith, at)) free;
  behind = upper_is_taken 0xe0080000 (lit≤ tt, lit≤ tt);
}

free_after : IsRun IsFree after
free_after = record {
  some = lit≤ tt;
  each = λ a held. let low = held.0 in let high = held.1 in
      is_free a (omega (arith, low), high) (λ inside. let last = inside.1 in omega (arith, last, low)) (λ inside. let last = inside.1 in omega (arith, last, low));
  before = λ a at free. upper_is_taken a (omega (arith, at), omega (arith, at)) free;
  behind = λ free. let high = free.held.1 in omega (arith, high);
}

abbrev runs : List Range
runs = before ∷ between ∷ after ∷ []

all_that_is_free : (a : ℕ) → IsFree a → Any (λ r. InRange r a) runs
all_that_is_free a free = elim (cases_lt a 0xe0040000) [
  | inl low ↦ (0, before, lit< tt, refl, (free.held.0, let held = low in omega (arith, held)))
  | inr more ↦ elim (cases_lt 0xe0040fff a) [
    | inr inside ↦ absurd (lower_is_taken a (more, inside) free)
    | inl past ↦ elim (cases_lt a 0xe0080000) [
      | inl low ↦ (1, between, lit< tt, refl, (let held = past in omega (arith, held), let held = low in omega (arith, held)))
      | inr further ↦ elim (cases_lt 0xe0080fff a) [
        | inr inside ↦ absurd (upper_is_taken a (further, inside) free)
        | inl high ↦ (2, after, lit< tt, refl, (let held = high in omega (arith, held), free.held.1))
      ]
    ]
  ]
]

-- ---- lists of a few

each_run : (k : ℕ) (d : Range) → k < 3 → IsRun IsFree (slice_index_or runs k d)
each_run zero d less = free_before
each_run (suc zero) d less = free_between
each_run (suc (suc zero)) d less = free_after
each_run (suc (suc (suc k))) d less = absurd (let no : ⊥ = omega (arith, less) in no)

both_have : (P : MapRegion → Type 0) → P (Own lower) → P (Own upper) → (q : MapRegion) → Contains bars q → P q
both_have P low high q has = elim (in_cons_cases (Own lower) (Own upper ∷ []) q has) [
  | inl is ↦ subst P is low
  | inr more ↦ elim (in_cons_cases (Own upper) [] q more) [
    | inl is ↦ subst P is high
    | inr none ↦ absurd (in_nil q none)
  ]
]

passes_each : {X : Type 0} (p : X → Bool) (xs : List X) → list_all p xs ≡ true → (x : X) → Contains xs x → p x ≡ true
passes_each p [] all x has = absurd (in_nil x has)
passes_each p (y ∷ xs) all x has = elim (in_cons_cases y xs x has) [
  | inl is ↦ subst (λ z. p z ≡ true) is (and_parts (p y) (list_all p xs) all).0
  | inr later ↦ passes_each p xs (and_parts (p y) (list_all p xs) all).1 x later
]

abbrev pub rises : {X : Type 0} → (X → X → Bool) → List X → Bool
rises test [] = true
rises test (x ∷ xs) = list_all (test x) xs && rises test xs

pub by_test : {X : Type 0} (R : X → X → Type 0) (test : X → X → Bool) → ((x y : X) → test x y ≡ true → R x y) → (xs : List X) → rises test xs ≡ true → AllPairs R xs
by_test R test holds [] all = pairs_nil R
by_test R test holds (x ∷ xs) all =
    let parts = and_parts (list_all (test x) xs) (rises test xs) all in
    pairs_cons R x xs (λ y has. holds x y (passes_each (test x) xs parts.0 y has)) (by_test R test holds xs parts.1)

-- ---- the lines

abbrev lines : Lines
lines = Free before (Sits (Own lower) End (Free between (Sits (Own upper) End (Free after End))))

free_before_between_and_behind : AreLinesAt untold nothing_given host s Memory (Inside window) lines
free_before_between_and_behind = record {
  regions = both_have (λ q. IsIn untold s q) lower_is upper_is;
  of_space = both_have (λ q. space_of q ≡ Memory) refl refl;
  stand = both_have (λ q. BelongsUnder nothing_given s window q) lower_belongs upper_belongs;
  within = λ q has. all_in_place untold host s q;
  complete = λ q is space under within. bars_alone q is space under;
  free = record {
    each = each_run;
    complete = all_that_is_free;
    rising = by_test (λ (r t : Range). r.last < t.first) (λ r t. nat_lt r.last t.first) (λ r t h. ltb-true r.last t.first h) runs refl;
  };
  rising = by_test MarkIsBefore (λ m n. nat_lt m.first n.first) (λ m n h. inl (ltb-true m.first n.first h)) (marks lines) refl;
}
