-- What an overlap in a list of regions is of its members, and in the system.
use Rattle.std.proofs.Common.{◌≡◌, ℕ, ◌<◌, ◌≤◌, List, length, get_or, sym, ◌∙◌, ap, subst, inl, inr, arith}
use Rattle.std.specs.List.{Contains, HoldsAt}
use Rattle.std.specs.List.Sorted.{IsPermutation}
use Rattle.std.proofs.lemmas.Bool.{cases_eq, cases_order}
use Rattle.std.proofs.lemmas.List.{get_or_default}
use Rattle.std.proofs.lemmas.List.Elements.{Contains-get_or}
use Rattle.std.proofs.lemmas.List.Sorted.{Contains-permutation, IsPermutation-sym}
use Rattle.pci_spec.specs.Slot.{Slot}
use Rattle.pci_spec.specs.System.{System, IsSystem, Space}
use Rattle.pci_spec.specs.Fault.{ClaimsOnBus, address_in, named_region}
use Rattle.pci_spec.specs.JudgingLaws.{region_number}
use Rattle.pci_spec.proofs.Regions.{region_number-same}
use Rattle.pci_spec.proofs.Firsts.{named_slot, named_register}
use Rattle.pci_base.specs.declared.range.Range.{Range}
use Rattle.pci_tree.specs.declared.region.Region.{Region}
use Rattle.pci_tree.specs.Ranges.{Covers}
use Rattle.pci_tree.specs.Regions.{region_number as number_of}
use Rattle.pci_tree.proofs.RegionOrder.{number_same}
use Rattle.pci_check.specs.Sweep.{Spans, IsTwice, IsLeastTwice, AreTwoLeast, IsClaimantIn, IsUnshared, IsFirstOverlap}
use Rattle.pci_check.specs.Clashes.{AreRegionsOn}

-- ---- members of a list

-- a region that claims an address, at its place in the list
record IsAtPlace (regions : List Region) (a : ℕ) (r : Region) : Type 0 where
  k : ℕ
  within : k < length regions
  is : (d : Region) → get_or regions k d ≡ r
  claims : HoldsAt (λ x. Spans x a) regions k

at_place : (regions : List Region) (a : ℕ) (r : Region) → IsClaimantIn regions a r → IsAtPlace regions a r
at_place regions a r c =
    let is : (d : Region) → get_or regions c.has.0 d ≡ r = λ d. get_or_default regions c.has.0 d r c.has.1 ∙ c.has.2 in
    record { k = c.has.0; within = c.has.1; is = is; claims = λ d. subst (λ (x : Region). Spans x a) (sym (is d)) c.claims }

-- two regions of a list that claim an address, at two places
twice : (regions : List Region) (a : ℕ) (r q : Region) → IsClaimantIn regions a r → IsClaimantIn regions a q → (number_of r ≡ number_of q → ⊥) → IsTwice regions a
twice regions a r q in_r in_q differ =
    let one = at_place regions a r in_r in
    let two = at_place regions a q in_q in
    elim (cases_order one.k two.k) [
      | inl same ↦ absurd (differ (ap number_of (sym (one.is r) ∙ ap (λ n. get_or regions n r) same ∙ two.is r)))
      | inr (inl less) ↦ record { i = one.k; j = two.k; differ = less; below = two.within; first = one.claims; second = two.claims }
      | inr (inr more) ↦ record { i = two.k; j = one.k; differ = more; below = one.within; first = two.claims; second = one.claims }
    ]

-- a list of one region, or of none
pub alone : (regions : List Region) (allowed : List Range) → length regions < 2 → (a : ℕ) → IsUnshared regions allowed a
alone regions allowed few a covered r q in_r in_q =
    let one = at_place regions a r in_r in
    let two = at_place regions a q in_q in
    let within = one.within in
    let within_q = two.within in
    let same : one.k ≡ two.k = omega (arith, few, within, within_q) in
    ap number_of (sym (one.is r) ∙ ap (λ n. get_or regions n r) same ∙ two.is r)

module _ (old new : List Region) (allowed : List Range) (moved : IsPermutation old new) where
  forth : (a : ℕ) (r : Region) → IsClaimantIn old a r → IsClaimantIn new a r
  forth a r c = record { has = Contains-permutation old new r moved c.has; claims = c.claims }

  -- where no address is claimed at two places
  pub unshared : (a : ℕ) → (Covers allowed a → IsTwice new a → ⊥) → IsUnshared old allowed a
  unshared a none covered r q in_r in_q = elim (cases_eq (number_of r) (number_of q)) [
    | inl same ↦ same
    | inr differ ↦ absurd (none covered (twice new a r q (forth a r in_r) (forth a q in_q) differ))
  ]

  -- where the first overlap was found
  pub overlap : (a i j : ℕ) (first second : Region) → IsLeastTwice new allowed a → AreTwoLeast new a i j → first ≡ get_or new i first → second ≡ get_or new j second
      → IsFirstOverlap old allowed a first second
  overlap a i j first second twice are is_first is_second =
      let one : (d : Region) → get_or new i d ≡ first = λ d. get_or_default new i d first are.within.0 ∙ sym is_first in
      let two : (d : Region) → get_or new j d ≡ second = λ d. get_or_default new j d second are.within.1 ∙ sym is_second in
      let back = IsPermutation-sym old new moved in
      let number_one : (d : Region) → number_of (get_or new i d) ≡ number_of first = λ d. ap number_of (one d) in
      let number_two : (d : Region) → number_of (get_or new j d) ≡ number_of second = λ d. ap number_of (two d) in
      record {
        covered = twice.covered;
        claims_first = record {
          has = Contains-permutation new old first back (subst (Contains new) (one first) (Contains-get_or new i first are.within.0));
          claims = subst (λ (x : Region). Spans x a) (one first) (are.first first);
        };
        claims_second = record {
          has = Contains-permutation new old second back (subst (Contains new) (two second) (Contains-get_or new j second are.within.1));
          claims = subst (λ (x : Region). Spans x a) (two second) (are.second second);
        };
        rise = let up = are.rise first in let e = number_one first in let f = number_two first in omega (arith, up, e, f);
        lower_addresses = λ b less. unshared b (twice.least b less);
        least = λ r claim.
            let at = at_place new a r (forth a r claim) in
            let up = are.least at.k at.within at.claims r in
            let e = number_one r in
            let f = ap number_of (at.is r) in
            omega (arith, up, e, f);
        next_least = λ r claim differ.
            let at = at_place new a r (forth a r claim) in
            let f = ap number_of (at.is r) in
            let up = are.next_least at.k at.within at.claims r (λ same. differ (sym f ∙ same ∙ number_one r)) in
            let e = number_two r in
            omega (arith, up, e, f);
      }

-- ---- regions of a system

module _ (s : System) (system : IsSystem s) (IsOne : ℕ → Type 0) (space : Space) (regions : List Region) (are : AreRegionsOn s IsOne space regions) (allowed : List Range) where
  -- a region of the list that claims an address does so on its bus
  pub claims_of : (a : ℕ) (r : Region) → IsClaimantIn regions a r → (bus : ℕ) × IsOne bus × ClaimsOnBus s bus (address_in space a) (named_region r.slot r.reg)
  claims_of a r c =
      let of = are.each r c.has in
      let on = of.2 in
      (of.0, of.1, (on.f, on.part, on.listed, sym on.is.slot, ap (λ (x : Slot). x.bus) on.is.slot ∙ on.on_bus, sym on.is.register, (on.is.claims a).0 c.claims))

  -- and what claims one on such a bus is in the list
  record IsIn (a : ℕ) (slot : Slot) (register : ℕ) : Type 0 where
    r : Region
    claimant : IsClaimantIn regions a r
    number : number_of r ≡ region_number slot register

  in_list : (a bus : ℕ) (slot : Slot) (register : ℕ) → IsOne bus → ClaimsOnBus s bus (address_in space a) (named_region slot register) → IsIn a slot register
  in_list a bus slot register one (f, p, listed, at, on, named, claims) =
      let found = are.complete bus one f p a listed (ap (λ (x : Slot). x.bus) at ∙ on) claims in
      record {
        r = found.q;
        claimant = record { has = found.has; claims = (found.is.claims a).1 claims };
        number = number_same found.q.slot slot found.q.reg register (found.is.slot ∙ at) (found.is.register ∙ named);
      }

  same_where_numbers : (a b c : ℕ) (slot other : Slot) (register named : ℕ) → ClaimsOnBus s b (address_in space a) (named_region slot register) → ClaimsOnBus s c (address_in space a) (named_region other named)
      → region_number slot register ≡ region_number other named → (slot ≡ other) × (register ≡ named)
  same_where_numbers a b c slot other register named one two e =
      region_number-same slot other register named (named_slot s system b space a slot register one) (named_slot s system c space a other named two)
      (named_register s b space a slot register one) (named_register s c space a other named two) e

  -- what claims an address that no two regions claim is one region
  pub one_claims : (a b c : ℕ) (slot other : Slot) (register named : ℕ) → Covers allowed a → IsUnshared regions allowed a → IsOne b → IsOne c
      → ClaimsOnBus s b (address_in space a) (named_region slot register) → ClaimsOnBus s c (address_in space a) (named_region other named) → (slot ≡ other) × (register ≡ named)
  one_claims a b c slot other register named covered none one_b one_c one two =
      let first = in_list a b slot register one_b one in
      let second = in_list a c other named one_c two in
      same_where_numbers a b c slot other register named one two (sym first.number ∙ none covered first.r second.r first.claimant second.claimant ∙ second.number)

  module _ (a : ℕ) (first second : Region) (is : IsFirstOverlap regions allowed a first second) where
    pub differ : (first.slot ≡ second.slot) × (first.reg ≡ second.reg) → ⊥
    differ same =
        let rise = is.rise in
        let e = number_same first.slot second.slot first.reg second.reg same.0 same.1 in
        omega (arith, rise, e)

    pub least : (bus : ℕ) (slot : Slot) (register : ℕ) → IsOne bus → ClaimsOnBus s bus (address_in space a) (named_region slot register) → number_of first ≤ region_number slot register
    least bus slot register one claims =
        let at = in_list a bus slot register one claims in
        let up = is.least at.r at.claimant in
        let e = at.number in
        omega (arith, up, e)

    pub next_least : (bus : ℕ) (slot : Slot) (register : ℕ) → IsOne bus → ClaimsOnBus s bus (address_in space a) (named_region slot register) → ((slot ≡ first.slot) × (register ≡ first.reg) → ⊥)
        → number_of second ≤ region_number slot register
    next_least bus slot register one claims other =
        let at = in_list a bus slot register one claims in
        let e = at.number in
        let of = claims_of a first is.claims_first in
        let up = is.next_least at.r at.claimant (λ same. other (same_where_numbers a bus of.0 slot first.slot register first.reg claims of.2 (sym e ∙ same))) in
        omega (arith, up, e)
