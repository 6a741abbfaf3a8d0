-- Where a BAR fits beside told ranges.
use Rattle.std.proofs.Common.{◌≡◌, ◌⊎◌, ◌<◌, ◌≤◌, ◌%◌, ◌+◌, ℕ, [], false, inl, inr, arith, subst, sym, ◌∙◌, ap}
use Rattle.std.specs.Prelude.{IsTrue}
use Rattle.std.specs.List.{Contains}
use Rattle.std.proofs.lemmas.Bool.{cases_lt}
use Rattle.pci_spec.specs.Slot.{Slot}
use Rattle.pci_spec.specs.System.{Function, System, Memory, is_bridge}
use Rattle.pci_spec.specs.Fault.{RegionName, address_in}
use Rattle.pci_spec.proofs.Members.{in_nil, in_cons_cases}
use Rattle.pci_spec.proofs.Examples.Samples.{slot, host}
use Rattle.judge_spec.specs.Given.{nothing_given}
use Rattle.judge_spec.specs.Claims as claims
use Rattle.judge_spec.specs.ToldClaims.{Told, RangeClaimsOnBus}
use Rattle.judge_spec.specs.Why.{IsBeside, IsTakenBeside, IsPlaceFor}
use Rattle.judge_spec.proofs.Examples.Behind.{no, above, is_passed, passed_from, large, of_large, not_by_itself, empty, empty_claims}

-- ---- functions without regions beside the BAR and the bridge above

abbrev pub IsEmpty : Function → Type 0
IsEmpty f = (d : ℕ) × (command : ℕ) × (empty d command ≡ f)

module _ (told : Told) (s : System) (d : ℕ) (has_bridge : Contains s above) (others : (f : Function) → Contains s f → (above ≡ f) ⊎ (large d ≡ f) ⊎ IsEmpty f) where
  abbrev pub Taken : ℕ → Type 0
  Taken a = IsTakenBeside told nothing_given host s (of_large d) a

  abbrev pub Place : ℕ → Type 0
  Place first = IsPlaceFor told nothing_given host s (of_large d) false first

  -- the bridge stands on another bus
  not_beside : (a : ℕ) → IsBeside nothing_given host (of_large d) a 0 → ⊥
  not_beside a (inl same) = omega (arith, same)
  not_beside a (inr roots) = elim (in_cons_cases 0 [] 1 roots.0) [
    | inl e ↦ omega (arith, e)
    | inr none ↦ in_nil 1 none
  ]

  one_bridge : (b : Function) → Contains s b → IsTrue (is_bridge b) → above ≡ b
  one_bridge b listed is = elim (others b listed) [
    | inl same ↦ same
    | inr (inl same) ↦ no (subst (λ (x : Function). IsTrue (is_bridge x)) (sym same) is)
    | inr (inr (e, command, same)) ↦ no (subst (λ (x : Function). IsTrue (is_bridge x)) (sym same) is)
  ]

  not_by_part : (a : ℕ) (t : Taken a) → claims.ClaimsOnBus nothing_given s t.by.slot.bus (address_in Memory a) t.by → ⊥
  not_by_part a t (f, part, listed, at, on, named, c) = elim (others f listed) [
    | inl is ↦ not_beside a (subst (λ n. IsBeside nothing_given host (of_large d) a n) (ap (λ (x : Slot). x.bus) (sym at) ∙ ap (λ (x : Function). x.slot.bus) (sym is)) t.beside)
    | inr (inl is) ↦
        not_by_itself d a part
        (subst (λ (x : Function). (x.slot ≡ slot 1 d 0) × (claims.register_of x part ≡ 0x10) → ⊥) (sym is) (λ e. t.other (sym at ∙ e.0, sym named ∙ e.1)))
        (subst (λ (x : Function). claims.Claims nothing_given x part Memory a) (sym is) c)
    | inr (inr (e, command, is)) ↦ empty_claims e command a part (subst (λ (x : Function). claims.Claims nothing_given x part Memory a) (sym is) c)
  ]

  -- where told ranges take just the addresses of the window up to one, the least place stands behind it
  module _ (last : ℕ) (ends : (a : ℕ) (region : RegionName) → RangeClaimsOnBus told s region.slot.bus (address_in Memory a) region → a ≤ last)
      (takes : (a : ℕ) → 0xe0000000 ≤ a → a ≤ last → Taken a) where
    taken_below : (a : ℕ) → Taken a → a ≤ last
    taken_below a t = elim t.claims [ inl part ↦ absurd (not_by_part a t part) | inr range ↦ ends a t.by range ]

    pub place_behind : (first : ℕ) → first % 0x10000 ≡ 0 → 0xe0000000 ≤ first → first + 0x10000 ≤ 0xe0100000 → last < first → Place first
    place_behind first aligned low high above_last = record {
      aligned = aligned;
      fits = omega (arith, high);
      reached = λ a from to. is_passed s has_bridge a (omega (arith, low, from)) (omega (arith, high, to));
      free = λ a from to taken. let below = taken_below a taken in omega (arith, below, from, above_last);
    }

    pub none_before : (first : ℕ) → Place first → (0xe0000000 ≤ first) × (last < first)
    none_before first place =
        let low = passed_from s one_bridge first (place.reached first (omega arith) (omega arith)) in
        (low, elim (cases_lt last first) [ inl behind ↦ behind | inr taken ↦ absurd (place.free first (omega arith) (omega arith) (takes first low taken)) ])
