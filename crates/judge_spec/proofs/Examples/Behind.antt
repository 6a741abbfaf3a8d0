-- A bridge with a memory window of 1 MB, and a BAR of 64 KB behind it.
use Rattle.std.proofs.Common.{◌≡◌, ◌≤◌, ℕ, zero, suc, List, [], ◌∷◌, refl, true, false, inl, inr, arith, lit<, lit≤, subst, sym, ap}
use Rattle.std.specs.Prelude.{◌↔◌, IsTrue, Bool, ◌&&◌, ◌||◌}
use Rattle.std.specs.List.{Contains, list_all}
use Rattle.std.proofs.lemmas.Bool.{and_parts, or_cases, ltb-true, both_ways, cases_order}
use Rattle.std.proofs.lemmas.Nat.{pow_below}
use Rattle.pci_spec.specs.Number.{each_from}
use Rattle.pci_spec.specs.Bar.{Memory32, is_run}
use Rattle.pci_spec.specs.Window.{MemoryWindow, holds}
use Rattle.pci_spec.specs.Decoded.{InRange}
use Rattle.pci_spec.specs.System.{Function, System, Memory, Bar, Rom, Window, Leads, is_bridge}
use Rattle.pci_spec.specs.System as system
use Rattle.pci_spec.specs.Fault.{address_in}
use Rattle.pci_spec.specs.Why as plain
use Rattle.pci_spec.proofs.Absent.{not_lawful, no_rom}
use Rattle.pci_spec.proofs.Bits.{agree-interval, interval-agrees, run_number}
use Rattle.pci_spec.proofs.Members.{in_nil, in_cons_cases}
use Rattle.pci_spec.proofs.Ranges.{window_range-holds}
use Rattle.pci_spec.proofs.Examples.Samples.{slot, device, bridge, range, host}
use Rattle.pci_spec.proofs.Examples.Sized.{answered}
use Rattle.judge_spec.specs.Given.{nothing_given}
use Rattle.judge_spec.specs.Claims.{Part, Own, Legacy, Palette, Claims, register_of, IsPassedTo, passes}

pub no : {A : Type 0} → false ≡ true → A
no h = absurd (let contradiction : ⊥ = both_ways false refl h in contradiction)

-- ---- the bridge: memory E0000000 to E00FFFFF

abbrev pub above : Function
above = bridge (slot 0 1 0) 2 0x010100 ((0x20, 0xe000e000) ∷ []) []

abbrev is_held : ℕ → Bool
is_held a = holds MemoryWindow above.image above.probe a

held_range : (a : ℕ) → InRange (range 0xe0000000 0xe00fffff) a ↔ IsTrue (is_held a)
held_range a = window_range-holds MemoryWindow above.image above.probe refl a

pub passes_in : (a : ℕ) → InRange (range 0xe0000000 0xe00fffff) a → passes nothing_given Memory false a above ≡ true
passes_in a within = ap (λ held. ((held || false) && true) || false) ((held_range a).0 within)

pub passes_only : (a : ℕ) → passes nothing_given Memory false a above ≡ true → InRange (range 0xe0000000 0xe00fffff) a
passes_only a is = elim (or_cases ((is_held a || false) && true) false is) [
  | inl some ↦ elim (or_cases (is_held a) false (and_parts (is_held a || false) true some).0) [
    | inl held ↦ (held_range a).1 held
    | inr none ↦ no none
  ]
  | inr none ↦ no none
]

abbrev pub Passed : System → ℕ → Type 0
Passed s a = IsPassedTo nothing_given host s (address_in Memory a) false 1

pub is_passed : (s : System) → Contains s above → (a : ℕ) → 0xe0000000 ≤ a → a ≤ 0xe00fffff → Passed s a
is_passed s listed a low high = (0, (0, lit< tt, refl), refl, above ∷ [], (listed, refl, refl, refl), ap (λ b. b && true) (passes_in a (low, high)))

-- where it is the one bridge each way to bus 01 begins with it
module _ (s : System) (one : (b : Function) → Contains s b → IsTrue (is_bridge b) → above ≡ b) where
  way_begins : (bridges : List Function) (a : ℕ) → Leads s 0 bridges 1 → list_all (passes nothing_given Memory false a) bridges ≡ true → 0xe0000000 ≤ a
  way_begins [] a leads all = absurd (let no : ⊥ = omega (arith, leads) in no)
  way_begins (b ∷ rest) a leads all =
      let passed = (and_parts (passes nothing_given Memory false a b) _ all).0 in
      (passes_only a (subst (λ (x : Function). passes nothing_given Memory false a x ≡ true) (sym (one b leads.0 leads.1)) passed)).0

  pub passed_from : (a : ℕ) → Passed s a → 0xe0000000 ≤ a
  passed_from a way = elim (in_cons_cases 0 [] way.0 way.1) [
    | inl root ↦ way_begins way.3 a (subst (λ (x : ℕ). Leads s x way.3 1) (sym root) way.4) way.5
    | inr none ↦ absurd (in_nil way.0 none)
  ]

-- ---- a BAR of 64 KB at E0000000

abbrev pub large : ℕ → Function
large d = device (slot 1 d 0) 2 ((0x10, 0xe0000000) ∷ []) ((0x10, 0xffff0000) ∷ [])

abbrev pub of_large : ℕ → plain.Region
of_large d = record { slot = slot 1 d 0; register = 0x10; part = Bar 0; space = Memory; prefetchable = false; range = range 0xe0000000 0xe000ffff }

size_of_64_kb : (k : ℕ) → 4 ≤ k → k ≤ 31 → is_run 4 0xffff0000 k 31 ≡ true → k ≡ 16
size_of_64_kb k low high is =
    let run = run_number 4 0xffff0000 k 31 (lit< tt) low high (lit< tt) is in
    elim (cases_order k 16) [
      | inl e ↦ e
      | inr (inl less) ↦ let p = pow_below k 16 less in absurd (let no : ⊥ = omega (arith, p, run) in no)
      | inr (inr more) ↦ let p = pow_below 16 k more in absurd (let no : ⊥ = omega (arith, p, run) in no)
    ]

large_claims : (d a : ℕ) → 0xe0000000 ≤ a → a ≤ 0xe000ffff → system.Claims (large d) (Bar 0) Memory a
unfolding each_from
large_claims d a low high = record {
  there = refl;
  enabled = refl;
  maps = refl;
  address = omega (arith, high);
  decodes = (refl, (16, refl, interval-agrees 16 a 0xe0000000 (omega (arith, low)) (omega (arith, high))));
}

large_holds : (d a : ℕ) → system.Claims (large d) (Bar 0) Memory a → (0xe0000000 ≤ a) × (a ≤ 0xe000ffff)
large_holds d a c = agree-interval 16 a 0xe0000000 (answered 16 0xe0000000 0xffff0000 a size_of_64_kb c.decodes.1)

large_parts : (d : ℕ) (part : system.Part) (a : ℕ) → system.Claims (large d) part Memory a → part ≡ Bar 0
large_parts d (Bar zero) a c = refl
large_parts d (Bar (suc zero)) a c = absurd (not_lawful Memory32 c.decodes.1.0 c.decodes.1.1)
large_parts d (Bar (suc (suc zero))) a c = absurd (not_lawful Memory32 c.decodes.1.0 c.decodes.1.1)
large_parts d (Bar (suc (suc (suc zero)))) a c = absurd (not_lawful Memory32 c.decodes.1.0 c.decodes.1.1)
large_parts d (Bar (suc (suc (suc (suc zero))))) a c = absurd (not_lawful Memory32 c.decodes.1.0 c.decodes.1.1)
large_parts d (Bar (suc (suc (suc (suc (suc zero)))))) a c = absurd (not_lawful Memory32 c.decodes.1.0 c.decodes.1.1)
large_parts d (Bar (suc (suc (suc (suc (suc (suc n))))))) a c = absurd (let less = ltb-true (suc (suc (suc (suc (suc (suc n)))))) 6 c.there in let no : ⊥ = omega (arith, less) in no)
large_parts d Rom a c = absurd (no_rom c.decodes.0 c.decodes.1)
large_parts d (Window kind) a c = no c.there

pub large_is_a_region : (d : ℕ) (s : System) → Contains s (large d) → plain.IsRegionIn s (of_large d)
large_is_a_region d s listed = record {
  f = large d;
  listed = listed;
  slot = refl;
  register = refl;
  prefetchable = refl;
  some = lit≤ tt;
  claims = λ a. (λ held. large_claims d a held.0 held.1, λ claims. large_holds d a claims);
}

-- it claims nothing else
pub not_by_itself : (d a : ℕ) (part : Part) → (((large d).slot ≡ slot 1 d 0) × (register_of (large d) part ≡ 0x10) → ⊥) → Claims nothing_given (large d) part Memory a → ⊥
not_by_itself d a (Own part) other own = other (refl, ap (λ p. system.register_of (large d) p) (large_parts d part a own.claims))
not_by_itself d a Legacy other c = no c.claims
not_by_itself d a Palette other c = no c.claims

-- ---- a function without regions

abbrev pub empty : ℕ → ℕ → Function
empty d command = device (slot 1 d 0) command [] []

empty_parts : (d command : ℕ) (part : system.Part) (a : ℕ) → system.Claims (empty d command) part Memory a → ⊥
empty_parts d command (Bar zero) a c = not_lawful Memory32 c.decodes.1.0 c.decodes.1.1
empty_parts d command (Bar (suc zero)) a c = not_lawful Memory32 c.decodes.1.0 c.decodes.1.1
empty_parts d command (Bar (suc (suc zero))) a c = not_lawful Memory32 c.decodes.1.0 c.decodes.1.1
empty_parts d command (Bar (suc (suc (suc zero)))) a c = not_lawful Memory32 c.decodes.1.0 c.decodes.1.1
empty_parts d command (Bar (suc (suc (suc (suc zero))))) a c = not_lawful Memory32 c.decodes.1.0 c.decodes.1.1
empty_parts d command (Bar (suc (suc (suc (suc (suc zero)))))) a c = not_lawful Memory32 c.decodes.1.0 c.decodes.1.1
empty_parts d command (Bar (suc (suc (suc (suc (suc (suc n))))))) a c = let less = ltb-true (suc (suc (suc (suc (suc (suc n)))))) 6 c.there in omega (arith, less)
empty_parts d command Rom a c = no_rom c.decodes.0 c.decodes.1
empty_parts d command (Window kind) a c = no c.there

pub empty_claims : (d command a : ℕ) (part : Part) → Claims nothing_given (empty d command) part Memory a → ⊥
empty_claims d command a (Own part) own = empty_parts d command part a own.claims
empty_claims d command a Legacy c = no c.claims
empty_claims d command a Palette c = no c.claims
