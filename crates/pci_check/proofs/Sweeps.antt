-- Sweeps over regions.
use Rattle.std.proofs.Common.{◌≡◌, ℕ, ◌+◌, ◌<◌, ◌≤◌, List, [], ◌∷◌, length, get_or, sym, ap, subst, inl, inr, ◌⊎◌, arith, Option, Some, None}
use Rattle.std.specs.Prelude.{◌↔◌, MatchOption}
use Rattle.std.specs.List.{HoldsAt, AllPairs}
use Rattle.std.specs.List.Sorted.{IsNonDecreasingBy}
use Rattle.std.proofs.lemmas.Bool.{cases_lt, cases_eq}
use Rattle.std.proofs.lemmas.List.{get_or_default}
use Rattle.pci_base.specs.declared.range.Range.{Range}
use Rattle.pci_tree.specs.declared.region.Region.{Region}
use Rattle.pci_tree.specs.Ranges.{Covers}
use Rattle.pci_tree.specs.Regions.{region_number as number_of}
use Rattle.pci_check.specs.Sweep.{Spans, ReachesAddress, IsLeastMet, IsTwiceBelow, IsTwice, IsLeastTwice, Follows, IsClaimant, IsLeastClaimant, IsLesser, AreTwoLeast}

-- what is known of an element at one default is known at each
pub at_each : (P : Region → Type 0) (regions : List Region) (k : ℕ) (z : Region) → k < length regions → P (get_or regions k z) → HoldsAt P regions k
at_each P regions k z within h d = subst P (get_or_default regions k z d within) h

-- ---- the sweep

-- a region below a place has its last address at or above this one
pub record IsPassed (n : ℕ) (regions : List Region) (a : ℕ) : Type 0 where
  pub k : ℕ
  pub below : k < n
  pub last : HoldsAt (λ r. a ≤ r.last) regions k

-- the addresses up to the greatest last one of the regions below a place
abbrev pub IsReached : ℕ → List Region → Option ℕ → Type 0
IsReached n regions o = (a : ℕ) → ReachesAddress o a ↔ IsPassed n regions a

pub reached_none : (regions : List Region) → IsReached 0 regions None
reached_none regions a = (λ (h : ⊥). absurd h, λ (p : IsPassed 0 regions a). (let b : p.k < 0 = p.below in omega arith))

pub reached_more : (i : ℕ) (regions : List Region) (o p : Option ℕ) (z : Region) → i < length regions → IsReached i regions o
    → ((a : ℕ) → ReachesAddress p a ↔ (ReachesAddress o a ⊎ (a ≤ (get_or regions i z).last))) → IsReached (i + 1) regions p
reached_more i regions o p z within was step a = (
  λ (h : ReachesAddress p a). elim ((step a).0 h) [
    | inl before ↦ (let q : IsPassed i regions a = (was a).0 before in record { k = q.k; below = (let b : q.k < i = q.below in omega arith); last = q.last })
    | inr here ↦ record { k = i; below = omega arith; last = at_each (λ x. a ≤ x.last) regions i z within here }
  ],
  λ (q : IsPassed (i + 1) regions a). (let b : q.k < i + 1 = q.below in
      elim (cases_lt q.k i) [
        | inl lt ↦ (step a).1 (inl ((was a).1 (record { k = q.k; below = lt; last = q.last })))
        | inr ge ↦ (let e : q.k ≡ i = omega arith in
            (step a).1 (inr (subst (λ n. a ≤ (get_or regions n z).last) e (q.last z))))
      ]),
)

-- where nothing is met at a region, no address is claimed twice up to it
pub none_more : (i : ℕ) (regions : List Region) (allowed : List Range) (o : Option ℕ) (z : Region) → i < length regions → IsReached i regions o
    → ((a : ℕ) → Covers allowed a → IsTwiceBelow i regions a → ⊥)
    → ((a : ℕ) → Spans (get_or regions i z) a → ReachesAddress o a → Covers allowed a → ⊥)
    → (a : ℕ) → Covers allowed a → IsTwiceBelow (i + 1) regions a → ⊥
none_more i regions allowed o z within was none met a cov t =
    let b : t.j < i + 1 = t.below in
    let lt : t.i < t.j = t.differ in
    elim (cases_lt t.j i) [
      | inl low ↦ none a cov (record { i = t.i; j = t.j; differ = t.differ; below = low; first = t.first; second = t.second })
      | inr ge ↦ (let e : t.j ≡ i = omega arith in
          met a (subst (λ n. Spans (get_or regions n z) a) e (t.second z))
          ((was a).1 (record { k = t.i; below = omega arith; last = λ d. (t.first d).1 })) cov)
    ]

-- the address that is met at a region is the least
pub met_least : (i : ℕ) (regions : List Region) (allowed : List Range) (o : Option ℕ) (z : Region) (a : ℕ) → IsNonDecreasingBy (λ x. x.first) regions → i < length regions
    → IsReached i regions o → ((b : ℕ) → Covers allowed b → IsTwiceBelow i regions b → ⊥) → IsLeastMet allowed (get_or regions i z) o a → IsLeastTwice regions allowed a
met_least i regions allowed o z a sorted within was none met =
    let p : IsPassed i regions a = (was a).0 met.met in
    let below : p.k < i = p.below in
    let here : (get_or regions i z).first ≤ a = met.claims.0 in
    record {
      covered = met.covered;
      twice = record {
        i = p.k;
        j = i;
        differ = below;
        below = within;
        first = at_each (λ x. Spans x a) regions p.k z (omega arith)
            (let s : (get_or regions p.k z).first ≤ (get_or regions i z).first = sorted p.k i z (omega arith) within in (omega arith, p.last z));
        second = at_each (λ x. Spans x a) regions i z within met.claims;
      };
      least = λ b lt cov t. (let up : t.i < t.j = t.differ in let end : t.j < length regions = t.below in
          elim (cases_lt t.j i) [
            | inl low ↦ none b cov (record { i = t.i; j = t.j; differ = t.differ; below = low; first = t.first; second = t.second })
            | inr ge ↦ (let s : (get_or regions i z).first ≤ (get_or regions t.j z).first = sorted i t.j z ge end in
                let f : (get_or regions t.j z).first ≤ b = (t.second z).0 in
                met.least b (omega arith) lt cov)
          ]);
    }

-- ---- the same for an element that was read

pub reached_read : (i : ℕ) (regions : List Region) (o p : Option ℕ) (x : Region) → i < length regions → x ≡ get_or regions i x → IsReached i regions o
    → ((a : ℕ) → ReachesAddress p a ↔ (ReachesAddress o a ⊎ (a ≤ x.last))) → IsReached (i + 1) regions p
reached_read i regions o p x within is was step =
    reached_more i regions o p x within was (subst (λ (y : Region). (a : ℕ) → ReachesAddress p a ↔ (ReachesAddress o a ⊎ (a ≤ y.last))) is step)

pub none_read : (i : ℕ) (regions : List Region) (allowed : List Range) (o : Option ℕ) (x : Region) → i < length regions → x ≡ get_or regions i x → IsReached i regions o
    → ((a : ℕ) → Covers allowed a → IsTwiceBelow i regions a → ⊥)
    → ((a : ℕ) → Spans x a → ReachesAddress o a → Covers allowed a → ⊥)
    → (a : ℕ) → Covers allowed a → IsTwiceBelow (i + 1) regions a → ⊥
none_read i regions allowed o x within is was none met =
    none_more i regions allowed o x within was none (subst (λ (y : Region). (a : ℕ) → Spans y a → ReachesAddress o a → Covers allowed a → ⊥) is met)

pub met_read : (i : ℕ) (regions : List Region) (allowed : List Range) (o : Option ℕ) (x : Region) (a : ℕ) → IsNonDecreasingBy (λ x. x.first) regions → i < length regions
    → x ≡ get_or regions i x → IsReached i regions o → ((b : ℕ) → Covers allowed b → IsTwiceBelow i regions b → ⊥) → IsLeastMet allowed x o a → IsLeastTwice regions allowed a
met_read i regions allowed o x a sorted within is was none met =
    met_least i regions allowed o x a sorted within was none (subst (λ (y : Region). IsLeastMet allowed y o a) is met)

-- ---- the least regions

-- the best of the first so many regions
abbrev pub IsBest : ℕ → List Region → ℕ → Option ℕ → Option ℕ → Type 0
IsBest n regions a after o = MatchOption o ((k : ℕ) → k < n → IsClaimant regions a after k → ⊥) (λ k. IsLeastClaimant n regions a after k)

-- what holds at a place holds of the element that was read there
read_at : (P : Region → Type 0) (regions : List Region) (i : ℕ) (x : Region) → x ≡ get_or regions i x → HoldsAt P regions i → P x
read_at P regions i x is holds = subst P (sym is) (holds x)

pub claimant_of : (regions : List Region) (a : ℕ) (after : Option ℕ) (i : ℕ) (x : Region) → x ≡ get_or regions i x → IsClaimant regions a after i
    → Spans x a × Follows regions after x
claimant_of regions a after i x is h = (read_at (λ r. Spans r a) regions i x is h.claims, read_at (Follows regions after) regions i x is h.follows)

pub claimant_at : (regions : List Region) (a : ℕ) (after : Option ℕ) (i : ℕ) (x : Region) → i < length regions → x ≡ get_or regions i x
    → Spans x a × Follows regions after x → IsClaimant regions a after i
claimant_at regions a after i x within is h = record {
  claims = at_each (λ r. Spans r a) regions i x within (subst (λ (y : Region). Spans y a) is h.0);
  follows = at_each (Follows regions after) regions i x within (subst (Follows regions after) is h.1);
}

pub best_within : (n : ℕ) (regions : List Region) (a : ℕ) (after o : Option ℕ) → n ≤ length regions → IsBest n regions a after o → MatchOption o (Unit {0}) (λ k. k < length regions)
best_within n regions a after None le h = tt {0}
best_within n regions a after (Some k) le h = let b : k < n = h.below in omega arith

pub best_same : (i : ℕ) (regions : List Region) (a : ℕ) (after o : Option ℕ) → (IsClaimant regions a after i → ⊥) → IsBest i regions a after o → IsBest (i + 1) regions a after o
best_same i regions a after None off h = λ k lt claim. elim (cases_eq k i) [
  | inl e ↦ off (subst (λ n. IsClaimant regions a after n) e claim)
  | inr ne ↦ h k (omega arith) claim
]
best_same i regions a after (Some k) off h = let b : k < i = h.below in record {
  below = omega arith;
  claimant = h.claimant;
  least = λ j lt claim. elim (cases_eq j i) [
    | inl e ↦ absurd (off (subst (λ n. IsClaimant regions a after n) e claim))
    | inr ne ↦ h.least j (omega arith) claim
  ];
}

pub best_more : (i : ℕ) (regions : List Region) (a : ℕ) (after o : Option ℕ) (n : ℕ) → IsClaimant regions a after i → IsBest i regions a after o → IsLesser regions o i n
    → IsLeastClaimant (i + 1) regions a after n
best_more i regions a after None n here h e = subst (λ k. IsLeastClaimant (i + 1) regions a after k) (sym e) (record {
  below = omega arith;
  claimant = here;
  least = λ j lt claim d. elim (cases_eq j i) [
    | inl same ↦ (let k : number_of (get_or regions j d) ≡ number_of (get_or regions i d) = ap (λ k. number_of (get_or regions k d)) same in omega arith)
    | inr ne ↦ absurd (h j (omega arith) claim)
  ];
})
best_more i regions a after (Some k) n here h l = let b : k < i = h.below in record {
  below = elim l.0 [ inl e ↦ omega arith | inr e ↦ omega arith ];
  claimant = elim l.0 [
    | inl e ↦ subst (λ m. IsClaimant regions a after m) (sym e) h.claimant
    | inr e ↦ subst (λ m. IsClaimant regions a after m) (sym e) here
  ];
  least = λ j lt claim d. elim (cases_eq j i) [
    | inl same ↦ subst (λ m. number_of (get_or regions n d) ≤ number_of (get_or regions m d)) (sym same) (l.1 d).1
    | inr ne ↦ (let x : number_of (get_or regions n d) ≤ number_of (get_or regions k d) = (l.1 d).0 in
        let y : number_of (get_or regions k d) ≤ number_of (get_or regions j d) = h.least j (omega arith) claim d in omega arith)
  ];
}

-- each region that claims the address is a claimant after none
plain : (regions : List Region) (a k : ℕ) → HoldsAt (λ r. Spans r a) regions k → IsClaimant regions a None k
plain regions a k claims = record { claims = claims; follows = λ d. tt {0} }

-- a region with a greater number is one after the other
after_it : (regions : List Region) (a i k : ℕ) (z : Region) → i < length regions → k < length regions → HoldsAt (λ r. Spans r a) regions k
    → number_of (get_or regions i z) < number_of (get_or regions k z) → IsClaimant regions a (Some i) k
after_it regions a i k z in_i in_k claims less = record {
  claims = claims;
  follows = at_each (Follows regions (Some i)) regions k z in_k (at_each (λ x. number_of x < number_of (get_or regions k z)) regions i z in_i less);
}

pub no_first : (regions : List Region) (a : ℕ) → ((k : ℕ) → k < length regions → IsClaimant regions a None k → ⊥) → IsTwice regions a → ⊥
no_first regions a none t = none t.j t.below (plain regions a t.j t.second)

-- of two that claim the address, one stands after the least
pub no_second : (regions : List Region) (a i : ℕ) → AllPairs (λ r q. number_of r ≡ number_of q → ⊥) regions
    → IsLeastClaimant (length regions) regions a None i → ((k : ℕ) → k < length regions → IsClaimant regions a (Some i) k → ⊥) → IsTwice regions a → ⊥
no_second [] a i once is none t = let b : t.j < 0 = t.below in omega arith
no_second (z ∷ zs) a i once is none t =
    let regions = z ∷ zs in
    let lt : t.i < t.j = t.differ in
    let end : t.j < length (z ∷ zs) = t.below in
    let within : i < length (z ∷ zs) = is.below in
    let x : number_of (get_or (z ∷ zs) i z) ≤ number_of (get_or (z ∷ zs) t.i z) = is.least t.i (omega arith) (plain regions a t.i t.first) z in
    let y : number_of (get_or (z ∷ zs) i z) ≤ number_of (get_or (z ∷ zs) t.j z) = is.least t.j end (plain regions a t.j t.second) z in
    let ne : number_of (get_or (z ∷ zs) t.i z) ≡ number_of (get_or (z ∷ zs) t.j z) → ⊥ = once t.i t.j z lt end in
    elim (cases_lt (number_of (get_or (z ∷ zs) i z)) (number_of (get_or (z ∷ zs) t.i z))) [
      | inl more ↦ none t.i (omega arith) (after_it regions a i t.i z within (omega arith) t.first more)
      | inr same ↦ none t.j end (after_it regions a i t.j z within end t.second (omega arith))
    ]

pub two_are_least : (regions : List Region) (a i j : ℕ) → IsLeastClaimant (length regions) regions a None i → IsLeastClaimant (length regions) regions a (Some i) j
    → AreTwoLeast regions a i j
two_are_least regions a i j one two = record {
  within = (one.below, two.below);
  first = one.claimant.claims;
  second = two.claimant.claims;
  rise = λ d. two.claimant.follows d d;
  least = λ k within claims d. one.least k within (plain regions a k claims) d;
  next_least = λ k within claims d differ.
      let up : number_of (get_or regions i d) ≤ number_of (get_or regions k d) = one.least k within (plain regions a k claims) d in
      two.least k within (after_it regions a i k d one.below within claims (omega arith)) d;
}
