-- Buses with told ranges on which no two regions can clash.
use Rattle.std.proofs.Common.{◌≡◌, ℕ, ◌+◌, ◌<◌, ◌≤◌, inl, inr, List, [], ◌∷◌, ◌++◌, length, get_or, map, take, sym, ◌∙◌, ap, subst, arith, Option, Some}
use Rattle.std.specs.Option.{unwrap_or}
use Rattle.std.specs.List.{All, AllPairs, Contains, slice_get}
use Rattle.std.specs.List.Sorted.{IsPermutation}
use Rattle.std.proofs.lemmas.Bool.{cases_lt}
use Rattle.std.proofs.lemmas.Option.{slice_get_within, get_or_from_slice_get}
use Rattle.std.proofs.lemmas.List.{take_more}
use Rattle.std.proofs.lemmas.List.Elements.{All-contains, All-more, Contains-append_left, Contains-append_right}
use Rattle.std.proofs.lemmas.List.Quantifiers.{all_pairs_push}
use Rattle.std.proofs.lemmas.List.Sorted.{Contains-permutation}
use Rattle.pci_spec.specs.Slot.{Slot}
use Rattle.pci_spec.specs.System.{System, Space}
use Rattle.pci_spec.specs.Fault.{address_in, named_region}
use Rattle.pci_spec.proofs.Members.{in_head, in_map_from, pairs_nil}
use Rattle.pci_tree.specs.declared.region.Region.{Region}
use Rattle.pci_check.specs.Clashes.{AreRegionsOn}
use Rattle.judge_spec.specs.Given.{Given}
use Rattle.judge_spec.specs.Told.{ToldRange, IsTold, IsToldRange}
use Rattle.judge_spec.specs.ToldClaims.{Told}
use Rattle.judge_spec.specs.ToldClaims as told_claims
use Rattle.pci_claims.specs.declared.given.LegacyBridge.{LegacyBridge}
use Rattle.pci_claims.specs.declared.all_claims.Stretch.{Stretch}
use Rattle.pci_claims.specs.Values.{legacy_value}
use Rattle.pci_claims.specs.AllClaims.{IsStretchOf}
use Rattle.pci_faults.specs.declared.spans.Span.{Span}
use Rattle.pci_faults.specs.Spans.{region_span, told_span, HasSpansOf, AreSpansAdded, AreSpansApart}
use Rattle.pci_faults.specs.Quiet.{HasThoseOn, HoldNothing}
use Rattle.pci_faults.proofs.Quieting.{claimant, either_way}

-- ---- spans that rise

abbrev Rise : Span → Span → Type 0
Rise p q = p.last < q.first

-- each lies above those before it, and all of them below an end
pub record AreUnder (end : ℕ) (xs : List Span) : Type 0 where
  pub below : All (λ x. x.last < end) xs
  pub apart : AllPairs (λ p q. p.last < q.first) xs

pub none_under : (end : ℕ) → AreUnder end []
none_under end = record { below = λ k d less. absurd (omega arith); apart = pairs_nil Rise }

pub more_under : (end new : ℕ) (xs : List Span) (i : ℕ) (x : Span) → i < length xs → x ≡ get_or xs i x → end ≤ x.first → end ≤ new → x.last < new
    → AreUnder end (take i xs) → AreUnder new (take (i + 1) xs)
more_under end new xs i x within at above wider ends before = record {
  below = All-more (λ (y : Span). y.last < new) xs i x within (λ k d less. (let low = before.below k d less in omega (arith, low, wider))) (subst (λ (y : Span). y.last < new) at ends);
  apart = subst (AllPairs Rise) (sym (take_more xs i x within))
      (all_pairs_push Rise (take i xs) (get_or xs i x) before.apart (λ k d less. subst (λ (y : Span). Rise (get_or (take i xs) k d) y) at (let low = before.below k d less in omega (arith, low, above))));
}

pub apart_sorted : (xs sorted : List Span) → IsPermutation xs sorted → AllPairs (λ p q. p.last < q.first) sorted → AreSpansApart xs
apart_sorted xs sorted moved rise p q in_p in_q = either_way Rise sorted p q rise (Contains-permutation xs sorted p moved in_p) (Contains-permutation xs sorted q moved in_q)

-- ---- spans of told ranges

some_one : (x y : ToldRange) → Some x ≡ Some y → x ≡ y
some_one x y e = ap (λ (o : Option ToldRange). unwrap_or o x) e

-- those of a bus, up to an index
pub record AreSpansBelow (bus : ℕ) (ranges : List ToldRange) (space : Space) (end : ℕ) (old new : List Span) : Type 0 where
  pub kept : (x : Span) → Contains old x → Contains new x
  pub has : (k : ℕ) (r : ToldRange) → k < end → slice_get ranges k ≡ Some r → r.slot.bus ≡ bus → r.space ≡ space → Contains new (told_span k r)

pub spans_more : (bus : ℕ) (ranges : List ToldRange) (space : Space) (i : ℕ) (r : ToldRange) (old out new : List Span) → slice_get ranges i ≡ Some r → AreSpansBelow bus ranges space i old out
    → new ≡ out ++ told_span i r ∷ [] → AreSpansBelow bus ranges space (i + 1) old new
spans_more bus ranges space i r old out new at before pushed = record {
  kept = λ x has. subst (λ l. Contains l x) (sym pushed) (Contains-append_left out (told_span i r ∷ []) x (before.kept x has));
  has = λ k q less there on is. subst (λ l. Contains l (told_span k q)) (sym pushed) (elim (cases_lt k i) [
    | inl early ↦ Contains-append_left out (told_span i r ∷ []) (told_span k q) (before.has k q early there on is)
    | inr late ↦
        let same : k ≡ i = omega (arith, less, late) in
        let one : r ≡ q = some_one r q (sym at ∙ ap (λ j. slice_get ranges j) (sym same) ∙ there) in
        Contains-append_right out (told_span i r ∷ []) (told_span k q) (subst (λ (x : Span). Contains (told_span i r ∷ []) x) (ap (λ j. told_span j r) (sym same) ∙ ap (told_span k) one) (in_head (told_span i r) []))
  ]);
}

pub spans_less : (bus : ℕ) (ranges : List ToldRange) (space : Space) (i : ℕ) (r : ToldRange) (old out : List Span) → slice_get ranges i ≡ Some r → (r.space ≡ space → ⊥) → AreSpansBelow bus ranges space i old out
    → AreSpansBelow bus ranges space (i + 1) old out
spans_less bus ranges space i r old out at other before = record {
  kept = before.kept;
  has = λ k q less there on is. elim (cases_lt k i) [
    | inl early ↦ before.has k q early there on is
    | inr late ↦
        let same : k ≡ i = omega (arith, less, late) in
        let one : r ≡ q = some_one r q (sym at ∙ ap (λ j. slice_get ranges j) (sym same) ∙ there) in
        absurd (other (ap (λ (x : ToldRange). x.space) one ∙ is))
  ];
}

-- before the stretch of a bus none is of it
pub spans_begin : (bus : ℕ) (ranges : List ToldRange) (space : Space) (stretch : Stretch) (old : List Span) → IsStretchOf ranges bus stretch → AreSpansBelow bus ranges space stretch.first old old
spans_begin bus ranges space stretch old is = record {
  kept = λ x has. has;
  has = λ k r less there on in_space.
      let within = slice_get_within ranges k r there in
      let low = is.before k r (omega arith) less in
      let its : r.slot.bus < bus = subst (λ (x : ToldRange). x.slot.bus < bus) (get_or_from_slice_get ranges k r r there) low in
      absurd (let no : ⊥ = omega (arith, its, on) in no);
}

-- nor behind it
pub spans_end : (bus : ℕ) (ranges : List ToldRange) (space : Space) (stretch : Stretch) (n : ℕ) (old new : List Span) → IsStretchOf ranges bus stretch → stretch.end ≤ n → AreSpansBelow bus ranges space n old new
    → AreSpansAdded (λ b. b ≡ bus) ranges space old new
spans_end bus ranges space stretch n old new is all before = record {
  kept = before.kept;
  has = λ k r there on in_space. elim (cases_lt k stretch.end) [
    | inl less ↦ before.has k r (omega (arith, less, all)) there on in_space
    | inr from ↦
        let within = slice_get_within ranges k r there in
        let high = is.after k r from within in
        let its : bus < r.slot.bus = subst (λ (x : ToldRange). bus < x.slot.bus) (get_or_from_slice_get ranges k r r there) high in
        absurd (let no : ⊥ = omega (arith, its, on) in no)
  ];
}

-- ---- of root buses

abbrev pub RootBelow : List ℕ → ℕ → ℕ → Type 0
RootBelow roots end b = Contains roots b × (b < end)

pub roots_begin : (roots : List ℕ) (ranges : List ToldRange) (space : Space) (old : List Span) → AreSpansAdded (RootBelow roots 0) ranges space old old
roots_begin roots ranges space old = record { kept = λ x has. has; has = λ k r there root in_space. absurd (let less = root.1 in let no : ⊥ = omega (arith, less) in no) }

pub roots_more : (roots : List ℕ) (ranges : List ToldRange) (space : Space) (bus : ℕ) (old out new : List Span) → AreSpansAdded (RootBelow roots bus) ranges space old out → AreSpansAdded (λ b. b ≡ bus) ranges space out new
    → AreSpansAdded (RootBelow roots (bus + 1)) ranges space old new
roots_more roots ranges space bus old out new before added = record {
  kept = λ x has. added.kept x (before.kept x has);
  has = λ k r there root in_space. elim (cases_lt r.slot.bus bus) [
    | inl less ↦ added.kept (told_span k r) (before.has k r there (root.0, less) in_space)
    | inr from ↦ added.has k r there (let less = root.1 in omega (arith, less, from)) in_space
  ];
}

pub roots_less : (roots : List ℕ) (ranges : List ToldRange) (space : Space) (bus : ℕ) (old out : List Span) → (Contains roots bus → ⊥) → AreSpansAdded (RootBelow roots bus) ranges space old out
    → AreSpansAdded (RootBelow roots (bus + 1)) ranges space old out
roots_less roots ranges space bus old out other before = record {
  kept = before.kept;
  has = λ k r there root in_space. elim (cases_lt r.slot.bus bus) [
    | inl less ↦ before.has k r there (root.0, less) in_space
    | inr from ↦ absurd (other (subst (Contains roots) (let less = root.1 in omega (arith, less, from)) root.0))
  ];
}

pub roots_end : (roots : List ℕ) (ranges : List ToldRange) (space : Space) (n : ℕ) (old new : List Span) → ((k : ℕ) (r : ToldRange) → slice_get ranges k ≡ Some r → r.slot.bus < n) → AreSpansAdded (RootBelow roots n) ranges space old new
    → AreSpansAdded (Contains roots) ranges space old new
roots_end roots ranges space n old new all before = record { kept = before.kept; has = λ k r there root in_space. before.has k r there (root, all k r there) in_space }

-- the bus of a told range is one of 256
pub buses_end : (ranges : List ToldRange) (n : ℕ) → IsTold ranges → 256 ≤ n → (k : ℕ) (r : ToldRange) → slice_get ranges k ≡ Some r → r.slot.bus < n
buses_end ranges n told all k r there =
    let is = All-contains IsToldRange ranges r told.each (k, slice_get_within ranges k r there, get_or_from_slice_get ranges k r r there) in
    let low = is.line.slot.0 in
    omega (arith, low, all)

-- ---- no two regions clash

pub record IsSpanAt (spans : List Span) (slot : Slot) (register a : ℕ) : Type 0 where
  pub x : Span
  pub has : Contains spans x
  pub slot_is : x.slot ≡ slot
  pub register_is : x.register ≡ register
  pub first : x.first ≤ a
  pub last : a ≤ x.last

-- the spans are those of regions and of told ranges
pub record AreSpansWith (regions : List Region) (IsOne : ℕ → Type 0) (ranges : List ToldRange) (space : Space) (spans : List Span) : Type 0 where
  pub own : (r : Region) → Contains regions r → Contains spans (region_span r)
  pub told : HasSpansOf IsOne ranges space spans

pub with_told : (regions : List Region) (IsOne : ℕ → Type 0) (ranges : List ToldRange) (space : Space) (own spans : List Span) → own ≡ map region_span regions → AreSpansAdded IsOne ranges space own spans
    → AreSpansWith regions IsOne ranges space spans
with_told regions IsOne ranges space own spans are added = record {
  own = λ r has. added.kept (region_span r) (subst (λ l. Contains l (region_span r)) (sym are) (in_map_from region_span regions r has));
  told = added.has;
}

module _ (told : Told) (given : Given) (s : System) (IsOne : ℕ → Type 0) (space : Space) (regions : List Region) (are : AreRegionsOn s IsOne space regions)
    (legacy here : List LegacyBridge) (said : given.legacy ≡ map legacy_value legacy) (those : HasThoseOn IsOne legacy here) (none : length here ≡ 0)
    (palette snooping : List LegacyBridge) (listening : given.palette ≡ map legacy_value palette) (snoopers : HasThoseOn IsOne palette snooping) (nothing : HoldNothing space snooping)
    (spans : List Span) (all : AreSpansWith regions IsOne told.ranges space spans) where
  spanned : (b : ℕ) (slot : Slot) (register a : ℕ) → IsOne b → told_claims.ClaimsOnBus told given s b (address_in space a) (named_region slot register) → IsSpanAt spans slot register a
  spanned b slot register a one (inl own) = elim (claimant given s IsOne space regions are legacy here said those palette snooping listening snoopers nothing b slot register a one own) [
    | inl r ↦ record { x = region_span r.q; has = all.own r.q r.has; slot_is = r.slot_is; register_is = r.register_is; first = r.first; last = r.last }
    | inr l ↦ absurd (let less = l.has.1 in let no : ⊥ = omega (arith, less, none) in no)
  ]
  spanned b slot register a one (inr range) = record {
    x = told_span range.named.index range.r;
    has = all.told range.named.index range.r range.named.at (subst IsOne (sym range.on_the_bus ∙ ap (λ (y : Slot). y.bus) (sym range.named.slot)) one) range.claims.holds.0;
    slot_is = range.named.slot;
    register_is = range.named.register;
    first = range.claims.holds.1;
    last = range.claims.holds.2;
  }

  pub quiet_told : AreSpansApart spans → (a b c : ℕ) (p q : Slot) (m n : ℕ) → IsOne b → IsOne c
      → told_claims.ClaimsOnBus told given s b (address_in space a) (named_region p m) → told_claims.ClaimsOnBus told given s c (address_in space a) (named_region q n)
      → ((p ≡ q) × (m ≡ n) → ⊥) → ⊥
  quiet_told apart a b c p q m n on_b on_c first second differ =
      let x = spanned b p m a on_b first in
      let y = spanned c q n a on_c second in
      elim (apart x.x y.x x.has y.has) [
        | inl same ↦ differ (sym x.slot_is ∙ ap (λ (z : Span). z.slot) same ∙ y.slot_is, sym x.register_is ∙ ap (λ (z : Span). z.register) same ∙ y.register_is)
        | inr way ↦ (let low = x.first in let high = x.last in let under = y.first in let over = y.last in elim way [ inl up ↦ omega (arith, up, high, under) | inr down ↦ omega (arith, down, over, low) ])
      ]
