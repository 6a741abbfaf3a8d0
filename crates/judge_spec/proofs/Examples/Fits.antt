-- Two BARs of 4 KB and of 64 KB at one address behind a bridge: behind the clash stands where the second one, of 64 KB, fits.
use Rattle.std.proofs.Common.{◌≡◌, ◌⊎◌, ◌≤◌, ◌%◌, ℕ, zero, suc, List, [], ◌∷◌, ◌++◌, codes, refl, true, false, Some, inl, inr, arith, lit<, lit≤, subst, sym, ◌∙◌, ap}
use Rattle.std.specs.Fmt.{digits}
use Rattle.std.specs.Prelude.{IsTrue}
use Rattle.std.specs.List.{Contains}
use Rattle.std.proofs.lemmas.Bool.{ltb-true, cases_order, cases_lt}
use Rattle.std.proofs.lemmas.Nat.{pow_below}
use Rattle.pci_spec.specs.Number.{each_from}
use Rattle.pci_spec.specs.Slot.{Slot}
use Rattle.pci_spec.specs.Bar.{Memory32, is_run}
use Rattle.pci_spec.specs.System.{Function, System, Memory, Bar, Rom, Window, is_bridge}
use Rattle.pci_spec.specs.System as system
use Rattle.pci_spec.specs.Fault.{Clash, address_in, named_region}
use Rattle.pci_spec.specs.Why.{scaled_text}
use Rattle.pci_spec.proofs.Absent.{not_lawful, no_rom}
use Rattle.pci_spec.proofs.Bits.{agree-interval, interval-agrees, run_number}
use Rattle.pci_spec.proofs.Members.{in_nil, in_cons_cases}
use Rattle.pci_spec.proofs.Examples.Samples.{slot, device, range, host}
use Rattle.pci_spec.proofs.Examples.Sized.{answered}
use Rattle.judge_spec.specs.Given.{nothing_given}
use Rattle.judge_spec.specs.Claims.{Own, Legacy, Palette}
use Rattle.judge_spec.specs.Fault.{Known}
use Rattle.judge_spec.specs.ToldClaims.{nothing_told}
use Rattle.judge_spec.specs.Why.{IsTakenBeside, IsPlaceFor, IsFit, IsAdvice}
use Rattle.judge_spec.specs.Claims as claims
use Rattle.judge_spec.specs.Why as why
use Rattle.judge_spec.proofs.NothingTold.{untold_claims}
use Rattle.judge_spec.proofs.Examples.Behind.{no, above, is_passed, passed_from, large, of_large, large_is_a_region, not_by_itself}

abbrev small : Function
small = device (slot 1 0 0) 2 ((0x10, 0xe0000000) ∷ []) ((0x10, 0xfffff000) ∷ [])

abbrev s : System
s = above ∷ small ∷ large 1 ∷ []

-- ---- what they claim

size_of_4_kb : (k : ℕ) → 4 ≤ k → k ≤ 31 → is_run 4 0xfffff000 k 31 ≡ true → k ≡ 12
size_of_4_kb k low high is =
    let run = run_number 4 0xfffff000 k 31 (lit< tt) low high (lit< tt) is in
    elim (cases_order k 12) [
      | inl e ↦ e
      | inr (inl less) ↦ let p = pow_below k 12 less in absurd (let no : ⊥ = omega (arith, p, run) in no)
      | inr (inr more) ↦ let p = pow_below 12 k more in absurd (let no : ⊥ = omega (arith, p, run) in no)
    ]

small_claims : system.Claims small (Bar 0) Memory 0xe0000fff
unfolding each_from
small_claims = record { there = refl; enabled = refl; maps = refl; address = lit< tt; decodes = (refl, (12, refl, interval-agrees 12 0xe0000fff 0xe0000000 (lit≤ tt) (lit≤ tt))) }

small_parts : (part : system.Part) (a : ℕ) → system.Claims small part Memory a → a ≤ 0xe0000fff
small_parts (Bar zero) a c = (agree-interval 12 a 0xe0000000 (answered 12 0xe0000000 0xfffff000 a size_of_4_kb c.decodes.1)).1
small_parts (Bar (suc zero)) a c = absurd (not_lawful Memory32 c.decodes.1.0 c.decodes.1.1)
small_parts (Bar (suc (suc zero))) a c = absurd (not_lawful Memory32 c.decodes.1.0 c.decodes.1.1)
small_parts (Bar (suc (suc (suc zero)))) a c = absurd (not_lawful Memory32 c.decodes.1.0 c.decodes.1.1)
small_parts (Bar (suc (suc (suc (suc zero))))) a c = absurd (not_lawful Memory32 c.decodes.1.0 c.decodes.1.1)
small_parts (Bar (suc (suc (suc (suc (suc zero)))))) a c = absurd (not_lawful Memory32 c.decodes.1.0 c.decodes.1.1)
small_parts (Bar (suc (suc (suc (suc (suc (suc n))))))) a c = absurd (let less = ltb-true (suc (suc (suc (suc (suc (suc n)))))) 6 c.there in let no : ⊥ = omega (arith, less) in no)
small_parts Rom a c = absurd (no_rom c.decodes.0 c.decodes.1)
small_parts (Window kind) a c = no c.there

is_one_of_three : (f : Function) → Contains s f → (above ≡ f) ⊎ (small ≡ f) ⊎ (large 1 ≡ f)
is_one_of_three f listed = elim (in_cons_cases above (small ∷ large 1 ∷ []) f listed) [
  | inl is ↦ inl is
  | inr more ↦ elim (in_cons_cases small (large 1 ∷ []) f more) [
    | inl is ↦ inr (inl is)
    | inr last ↦ elim (in_cons_cases (large 1) [] f last) [
      | inl is ↦ inr (inr is)
      | inr none ↦ absurd (in_nil f none)
    ]
  ]
]

-- ---- what others take

abbrev Taken : ℕ → Type 0
Taken a = IsTakenBeside (nothing_told []) nothing_given host s (of_large 1) a

-- the bridge stands on another bus
not_beside : (a : ℕ) → why.IsBeside nothing_given host (of_large 1) a 0 → ⊥
not_beside a (inl same) = omega (arith, same)
not_beside a (inr roots) = elim (in_cons_cases 0 [] 1 roots.0) [
  | inl e ↦ omega (arith, e)
  | inr none ↦ in_nil 1 none
]

taken_by_small : (a : ℕ) (part : claims.Part) → claims.Claims nothing_given small part Memory a → a ≤ 0xe0000fff
taken_by_small a (Own part) own = small_parts part a own.claims
taken_by_small a Legacy c = no c.claims
taken_by_small a Palette c = no c.claims

-- by a part of a function, as nothing is told
taken_by_part : (a : ℕ) (t : Taken a) → claims.ClaimsOnBus nothing_given s t.by.slot.bus (address_in Memory a) t.by → a ≤ 0xe0000fff
taken_by_part a t (f, part, listed, at, on, named, c) = elim (is_one_of_three f listed) [
  | inl is ↦ absurd (not_beside a (subst (λ n. why.IsBeside nothing_given host (of_large 1) a n) (ap (λ (x : Slot). x.bus) (sym at) ∙ ap (λ (x : Function). x.slot.bus) (sym is)) t.beside))
  | inr (inl is) ↦ taken_by_small a part (subst (λ (x : Function). claims.Claims nothing_given x part Memory a) (sym is) c)
  | inr (inr is) ↦
      absurd (not_by_itself 1 a part
      (subst (λ (x : Function). (x.slot ≡ (of_large 1).slot) × (claims.register_of x part ≡ 0x10) → ⊥) (sym is) (λ e. t.other (sym at ∙ e.0, sym named ∙ e.1)))
      (subst (λ (x : Function). claims.Claims nothing_given x part Memory a) (sym is) c))
]

taken_below : (a : ℕ) → Taken a → a ≤ 0xe0000fff
taken_below a t = taken_by_part a t (untold_claims [] nothing_given s t.by.slot.bus (address_in Memory a) t.by t.claims)

first_is_taken : Taken 0xe0000fff
first_is_taken = record {
  by = named_region (slot 1 0 0) 0x10;
  beside = inl refl;
  other = λ same. let device = ap (λ (x : Slot). x.device) same.0 in omega (arith, device);
  apart = refl;
  claims = inl (small, Own (Bar 0), (1, lit< tt, refl), refl, refl, refl, record { claims = small_claims; kept = refl });
}

-- ---- the place

one_bridge : (b : Function) → Contains s b → IsTrue (is_bridge b) → above ≡ b
one_bridge b listed is = elim (is_one_of_three b listed) [
  | inl same ↦ same
  | inr (inl same) ↦ no (subst (λ (x : Function). IsTrue (is_bridge x)) (sym same) is)
  | inr (inr same) ↦ no (subst (λ (x : Function). IsTrue (is_bridge x)) (sym same) is)
]

behind_the_small_one : IsPlaceFor (nothing_told []) nothing_given host s (of_large 1) false 0xe0010000
behind_the_small_one = record {
  aligned = refl;
  fits = lit≤ tt;
  reached = λ a low high. is_passed s (0, lit< tt, refl) a (omega (arith, low)) (omega (arith, high));
  free = λ a low high taken. let below = taken_below a taken in omega (arith, low, below);
}

-- places are multiples of 64 KB, and the small one takes an address of the first in the window
none_is_lower : (first : ℕ) → IsPlaceFor (nothing_told []) nothing_given host s (of_large 1) false first → 0xe0010000 ≤ first
none_is_lower first place = elim (cases_lt first 0xe0010000) [
  | inr low ↦ omega (arith, low)
  | inl less ↦
      let reached = passed_from s one_bridge first (place.reached first (omega arith) (omega arith)) in
      let aligned : first % 0x10000 ≡ 0 = place.aligned in
      absurd (place.free 0xe0000fff (omega (arith, aligned, reached, less)) (omega (arith, reached)) first_is_taken)
]

abbrev told : List ℕ
told = codes "  fits 00000000e0010000-00000000e001ffff 64K" ++ 10 ∷ []

large_fits : IsFit (nothing_told []) nothing_given host s (of_large 1) told
unfolding scaled_text digits
large_fits = record {
  f = large 1;
  listed = (2, lit< tt, refl);
  slot = refl;
  place = Some (range 0xe0010000 0xe001ffff);
  exact = record { is = behind_the_small_one; size = refl; least = none_is_lower };
  text = refl;
}

-- the second region of the clash is the one that is told to fit
second_is_moved : IsAdvice [] (nothing_told []) nothing_given host s (Known (Clash 1 Memory 0xe0000000 (slot 1 0 0) 0x10 (slot 1 1 0) 0x10)) told
second_is_moved = (why.Own (of_large 1), (refl, refl, refl), large_is_a_region 1 s (2, lit< tt, refl), large_fits)
