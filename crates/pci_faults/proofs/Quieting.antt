-- Buses on which no two regions can clash.
use Rattle.std.proofs.Common.{rules, ◌≡◌, ℕ, ◌+◌, ◌<◌, ◌≤◌, ◌⊎◌, inl, inr, List, [], ◌∷◌, ◌++◌, length, get_or, map, take, Bool, true, false, not, refl, sym, ◌∙◌, ap, subst, arith, Some}
use Rattle.std.specs.Prelude.{◌&&◌, ◌||◌}
use Rattle.std.specs.List.{All, AllPairs, Contains, list_any, slice_get}
use Rattle.std.specs.List.Sorted.{IsPermutation}
use Rattle.std.proofs.lemmas.Bool.{and_parts, and_from, or_cases, or_left, or_right, both_ways, cases_Bool, cases_lt, cases_eq, false_from_ne_true}
use Rattle.std.proofs.lemmas.Option.{slice_get_within, get_or_from_slice_get}
use Rattle.std.proofs.lemmas.List.{get_or_default, take_all, take_more}
use Rattle.std.proofs.lemmas.List.Elements.{All-contains, Contains-append_left, Contains-append_right, Contains-append_cases, All-more}
use Rattle.std.proofs.lemmas.List.Sorted.{Contains-permutation}
use Rattle.std.proofs.lemmas.List.Quantifiers.{all_pairs_push}
use Rattle.pci_spec.specs.Slot.{Slot, same_slot}
use Rattle.pci_spec.specs.System.{System, Space, Io, Memory, is_bridge, is_space_on}
use Rattle.pci_spec.specs.Fault.{Clash, Split, address_in, named_region}
use Rattle.pci_spec.specs.Fault as plain
use Rattle.pci_spec.proofs.Members.{in_nil, in_head, in_cons_cases, in_map_to, pairs_nil}
use Rattle.pci_spec.proofs.BusRanges.{any_gives}
use Rattle.pci_spec.proofs.SameSlot.{slots_same}
use Rattle.pci_base.specs.declared.range.Range.{Range}
use Rattle.pci_tree.specs.declared.region.Region.{Region}
use Rattle.pci_tree.specs.Regions.{AreRegionsOf}
use Rattle.pci_tree.specs.Outline.{Tree}
use Rattle.pci_tree.specs.Trees.{HasTree}
use Rattle.pci_check.specs.Clashes.{AreRegionsOn}
use Rattle.judge_spec.specs.Given.{Given, legacy_holds, is_legacy_at, palette_holds, is_palette_at}
use Rattle.judge_spec.specs.Given as spec
use Rattle.judge_spec.specs.Claims.{Own, Legacy, Palette, ClaimsOnBus, may_share, are_together}
use Rattle.pci_claims.specs.declared.given.LegacyBridge.{LegacyBridge}
use Rattle.pci_claims.specs.Values.{legacy_value}
use Rattle.pci_claims.specs.Legacy.{ArePieces}
use Rattle.judge_spec.specs.Told.{ToldRange}
use Rattle.judge_spec.specs.ToldClaims.{Told}
use Rattle.judge_spec.specs.ToldClaims as told_claims
use Rattle.pci_claims.specs.declared.all_claims.Stretch.{Stretch}
use Rattle.pci_claims.specs.AllClaims.{IsStretchOf}
use Rattle.pci_faults.specs.declared.named.Clash as named
use Rattle.pci_faults.specs.declared.named.Split as named_split
use Rattle.pci_faults.specs.Clashes.{clash_value, IsClashLine, IsOnBusIn, AreClashesAdded}
use Rattle.pci_faults.specs.Splits.{split_value, IsSplitLine, IsSplitIn, AreSplitsAdded}
use Rattle.pci_faults.specs.Quiet.{IsOff, IsOffLegacy, HasThoseOn, HoldNothing, AreQuiet, IsQuietOnBuses, IsQuietInEach, IsQuietWith}
use Rattle.pci_faults.proofs.Addings.{added_none}

-- ---- regions that rise

abbrev Rise : Region → Region → Type 0
Rise p q = p.last < q.first

-- each lies above those before it, and all of them below an end
pub record AreBelow (end : ℕ) (rs : List Region) : Type 0 where
  pub below : All (λ r. r.last < end) rs
  pub apart : AllPairs (λ p q. p.last < q.first) rs

pub none_below : (end : ℕ) → AreBelow end []
none_below end = record { below = λ k d less. absurd (omega arith); apart = pairs_nil Rise }

pub more_below : (end new : ℕ) (rs : List Region) (i : ℕ) (r : Region) → i < length rs → r ≡ get_or rs i r → end ≤ r.first → end ≤ new → r.last < new
    → AreBelow end (take i rs) → AreBelow new (take (i + 1) rs)
more_below end new rs i r within at above wider ends before = record {
  below = All-more (λ (x : Region). x.last < new) rs i r within (λ k d less. (let low = before.below k d less in omega (arith, low, wider))) (subst (λ (x : Region). x.last < new) at ends);
  apart = subst (AllPairs Rise) (sym (take_more rs i r within))
      (all_pairs_push Rise (take i rs) (get_or rs i r) before.apart (λ k d less. subst (λ (x : Region). Rise (get_or (take i rs) k d) x) at (let low = before.below k d less in omega (arith, low, above))));
}

-- ---- some regions, and the legacy part of one bridge

pub either_way : {X : Type 0} (R : X → X → Type 0) (xs : List X) (p q : X) → AllPairs R xs → Contains xs p → Contains xs q → (p ≡ q) ⊎ (R p q ⊎ R q p)
either_way R xs p q pairs (i, less_i, at_i) (j, less_j, at_j) =
    let first = get_or_default xs i q p less_i ∙ at_i in
    let second = get_or_default xs j p q less_j ∙ at_j in
    elim (cases_lt i j) [
      | inl up ↦ inr (inl (subst (λ x. R x q) first (subst (λ y. R (get_or xs i q) y) at_j (pairs i j q up less_j))))
      | inr down ↦ elim (cases_eq i j) [
        | inl same ↦ inl (sym first ∙ ap (λ k. get_or xs k q) same ∙ at_j)
        | inr differ ↦ inr (inr (subst (λ x. R x p) second (subst (λ y. R (get_or xs j p) y) at_i (pairs j i p (omega (arith, down, differ)) less_i))))
      ]
    ]

one_at_most : {X : Type 0} (xs : List X) (x y : X) → length xs ≤ 1 → Contains xs x → Contains xs y → x ≡ y
one_at_most xs x y few (i, less_i, at_i) (j, less_j, at_j) =
    let same : i ≡ j = omega (arith, few, less_i, less_j) in
    sym (get_or_default xs i y x less_i ∙ at_i) ∙ ap (λ k. get_or xs k y) same ∙ at_j

module _ (space : Space) (rs sorted : List Region) (moved : IsPermutation rs sorted) (rise : AllPairs (λ p q. p.last < q.first) sorted) where
  rising : (p q : Region) → Contains rs p → Contains rs q → (p ≡ q) ⊎ ((p.last < q.first) ⊎ (q.last < p.first))
  rising p q in_p in_q = either_way Rise sorted p q rise (Contains-permutation rs sorted p moved in_p) (Contains-permutation rs sorted q moved in_q)

  pub quiet_alone : (legacy : List LegacyBridge) → length legacy ≡ 0 → AreQuiet space rs legacy
  quiet_alone legacy none = record {
    apart = rising;
    one = omega (arith, none);
    off = λ bridge r has. absurd (let less = has.1 in let no : ⊥ = omega (arith, less, none) in no);
  }

  pub quiet_with : (legacy : List LegacyBridge) (bridge : LegacyBridge) → length legacy ≤ 1 → Contains legacy bridge → All (IsOffLegacy space bridge) sorted → AreQuiet space rs legacy
  quiet_with legacy bridge few has off = record {
    apart = rising;
    one = few;
    off = λ other r there in_r. subst (λ (b : LegacyBridge). IsOffLegacy space b r) (one_at_most legacy bridge other few has there)
        (All-contains (IsOffLegacy space bridge) sorted r off (Contains-permutation rs sorted r moved in_r));
  }

-- ---- the bridges on some buses

module _ (IsOne : ℕ → Type 0) (legacy : List LegacyBridge) (i : ℕ) (b : LegacyBridge) (within : i < length legacy) (at : b ≡ get_or legacy i b) (out : List LegacyBridge) (before : HasThoseOn IsOne (take i legacy) out) where
  next : (x : LegacyBridge) → Contains (take (i + 1) legacy) x → Contains (take i legacy) x ⊎ (b ≡ x)
  next x has = elim (Contains-append_cases (take i legacy) (get_or legacy i b ∷ []) x (subst (λ l. Contains l x) (take_more legacy i b within) has)) [
    | inl early ↦ inl early
    | inr last ↦ elim (in_cons_cases (get_or legacy i b) [] x last) [ inl same ↦ inr (at ∙ same) | inr none ↦ absurd (in_nil x none) ]
  ]

  pub those_more : (new : List LegacyBridge) → new ≡ out ++ b ∷ [] → HasThoseOn IsOne (take (i + 1) legacy) new
  those_more new pushed x has one = subst (λ l. Contains l x) (sym pushed) (elim (next x has) [
    | inl early ↦ Contains-append_left out (b ∷ []) x (before x early one)
    | inr same ↦ Contains-append_right out (b ∷ []) x (subst (λ y. Contains (b ∷ []) y) same (in_head b []))
  ])

  pub those_less : (IsOne b.slot.bus → ⊥) → HasThoseOn IsOne (take (i + 1) legacy) out
  those_less other x has one = elim (next x has) [
    | inl early ↦ before x early one
    | inr same ↦ absurd (other (subst (λ (y : LegacyBridge). IsOne y.slot.bus) (sym same) one))
  ]

pub those_all : (IsOne : ℕ → Type 0) (legacy out : List LegacyBridge) (n : ℕ) → length legacy ≤ n → HasThoseOn IsOne (take n legacy) out → HasThoseOn IsOne legacy out
those_all IsOne legacy out n end those = subst (λ l. HasThoseOn IsOne l out) (take_all n legacy end) those

-- ---- palette parts

pub none_hold : (palette : List LegacyBridge) → length palette ≡ 0 → HoldNothing Io palette
none_hold palette none bridge a (i, less, at) = absurd (let no : ⊥ = omega (arith, none, less) in no)

pub no_memory : (palette : List LegacyBridge) → HoldNothing Memory palette
no_memory palette bridge a has = refl

pub not_false : (b : Bool) → not b ≡ false → b ≡ true
not_false true e = refl
not_false false e = absurd (both_ways true e refl)

-- ---- one region and the legacy part

pub off_pieces : (space : Space) (bridge : LegacyBridge) (pieces : List Range) (r : Region) → ArePieces bridge.is_wide space pieces → IsOff bridge.slot pieces r → IsOffLegacy space bridge r
off_pieces space bridge pieces r are off a first last holds = off a first last ((are.exact a).1 holds)

-- ---- in a system

share_to : (p q : Slot) (m n : ℕ) → may_share p m q n ≡ true → may_share q n p m ≡ true
share_to p q m n share =
    let parts = and_parts (same_slot p q) (are_together m n || are_together n m) share in
    let one : p ≡ q = slots_same p q parts.0 in
    and_from (same_slot q p) (are_together n m || are_together m n) (subst (λ (x : Slot). same_slot x p ≡ true) one (subst (λ (x : Slot). same_slot p x ≡ true) (sym one) parts.0))
    (elim (or_cases (are_together m n) (are_together n m) parts.1) [
      | inl x ↦ or_right (are_together n m) (are_together m n) x
      | inr x ↦ or_left (are_together n m) (are_together m n) x
    ])

pub shared_by_one : (p q : Slot) (m n : ℕ) → (p ≡ q → ⊥) → may_share p m q n ≡ false
shared_by_one p q m n differ = false_from_ne_true (may_share p m q n)
    (λ share. differ (slots_same p q (and_parts (same_slot p q) (are_together m n || are_together n m) share).0))

pub record IsRegionAt (regions : List Region) (slot : Slot) (register a : ℕ) : Type 0 where
  pub q : Region
  pub has : Contains regions q
  pub slot_is : q.slot ≡ slot
  pub register_is : q.reg ≡ register
  pub first : q.first ≤ a
  pub last : a ≤ q.last

pub record IsLegacyAt (space : Space) (here : List LegacyBridge) (slot : Slot) (register a : ℕ) : Type 0 where
  pub bridge : LegacyBridge
  pub has : Contains here bridge
  pub slot_is : bridge.slot ≡ slot
  pub register_is : register ≡ 0x3e
  pub holds : legacy_holds bridge.is_wide space a ≡ true

module _ (given : Given) (s : System) (IsOne : ℕ → Type 0) (space : Space) (regions : List Region) (are : AreRegionsOn s IsOne space regions)
    (legacy here : List LegacyBridge) (said : given.legacy ≡ map legacy_value legacy) (those : HasThoseOn IsOne legacy here)
    (palette snooping : List LegacyBridge) (listening : given.palette ≡ map legacy_value palette) (snoopers : HasThoseOn IsOne palette snooping) (nothing : HoldNothing space snooping) where
  pub claimant : (b : ℕ) (slot : Slot) (register a : ℕ) → IsOne b → ClaimsOnBus given s b (address_in space a) (named_region slot register) → IsRegionAt regions slot register a ⊎ IsLegacyAt space here slot register a
  claimant b slot register a one (f, Own part, listed, at, on_bus, named, own) =
      let found = are.complete b one f part a listed (ap (λ (x : Slot). x.bus) at ∙ on_bus) own.claims in
      let held = (found.is.claims a).1 own.claims in
      inl record { q = found.q; has = found.has; slot_is = found.is.slot ∙ at; register_is = found.is.register ∙ named; first = held.0; last = held.1 }
  claimant b slot register a one (f, Legacy, listed, at, on_bus, named, claims) =
      let (e, has, is) = any_gives (is_legacy_at f space a) given.legacy (and_parts (is_bridge f && is_space_on f space) (list_any (is_legacy_at f space a) given.legacy) claims.claims).1 in
      let parts = and_parts (same_slot e.slot f.slot) (legacy_holds e.is_wide space a) is in
      let made = in_map_to legacy_value legacy e (subst (λ (l : List spec.LegacyBridge). Contains l e) said has) in
      let slot_is : made.from.slot ≡ slot = ap (λ (x : spec.LegacyBridge). x.slot) made.is ∙ slots_same e.slot f.slot parts.0 ∙ at in
      inr record {
        bridge = made.from;
        has = those made.from made.has (subst IsOne (sym (ap (λ (x : Slot). x.bus) slot_is ∙ on_bus)) one);
        slot_is = slot_is;
        register_is = sym named;
        holds = subst (λ (x : spec.LegacyBridge). legacy_holds x.is_wide space a ≡ true) (sym made.is) parts.1;
      }
  claimant b slot register a one (f, Palette, listed, at, on_bus, named, claims) =
      let (e, has, is) = any_gives (is_palette_at f space a) given.palette (and_parts (is_bridge f && is_space_on f space) (list_any (is_palette_at f space a) given.palette) claims.claims).1 in
      let parts = and_parts (same_slot e.slot f.slot) (palette_holds e.is_wide space a) is in
      let made = in_map_to legacy_value palette e (subst (λ (l : List spec.LegacyBridge). Contains l e) listening has) in
      let slot_is : made.from.slot ≡ slot = ap (λ (x : spec.LegacyBridge). x.slot) made.is ∙ slots_same e.slot f.slot parts.0 ∙ at in
      absurd (both_ways _ (nothing made.from a (snoopers made.from made.has (subst IsOne (sym (ap (λ (x : Slot). x.bus) slot_is ∙ on_bus)) one)))
      (subst (λ (x : spec.LegacyBridge). palette_holds x.is_wide space a ≡ true) (sym made.is) parts.1))

module _ (given : Given) (s : System) (IsOne : ℕ → Type 0) (space : Space) (regions : List Region) (are : AreRegionsOn s IsOne space regions)
    (legacy here : List LegacyBridge) (said : given.legacy ≡ map legacy_value legacy) (those : HasThoseOn IsOne legacy here) (quiet : AreQuiet space regions here)
    (palette snooping : List LegacyBridge) (listening : given.palette ≡ map legacy_value palette) (snoopers : HasThoseOn IsOne palette snooping) (nothing : HoldNothing space snooping) where
  shared : (p q : Slot) (m n a : ℕ) → IsRegionAt regions p m a → IsLegacyAt space here q n a → may_share p m q n ≡ true
  shared p q m n a x y =
      subst (λ k. may_share p m q k ≡ true) (sym y.register_is) (subst (λ (z : Slot). may_share p m z 0x3e ≡ true) y.slot_is
      (subst (λ k. may_share p k y.bridge.slot 0x3e ≡ true) x.register_is (subst (λ (z : Slot). may_share z x.q.reg y.bridge.slot 0x3e ≡ true) x.slot_is
      (quiet.off y.bridge x.q y.has x.has a x.first x.last y.holds))))

  claiming : (b : ℕ) (slot : Slot) (register a : ℕ) → IsOne b → ClaimsOnBus given s b (address_in space a) (named_region slot register) → IsRegionAt regions slot register a ⊎ IsLegacyAt space here slot register a
  claiming = claimant given s IsOne space regions are legacy here said those palette snooping listening snoopers nothing

  pub is_quiet : IsQuietOnBuses given s IsOne space
  is_quiet a b c p q m n one other first second differ apart = elim (claiming b p m a one first) [
    | inl x ↦ elim (claiming c q n a other second) [
      | inl y ↦ elim (quiet.apart x.q y.q x.has y.has) [
        | inl same ↦ differ (sym x.slot_is ∙ ap (λ (r : Region). r.slot) same ∙ y.slot_is, sym x.register_is ∙ ap (λ (r : Region). r.reg) same ∙ y.register_is)
        | inr way ↦ (let low = x.first in let high = x.last in let under = y.first in let over = y.last in elim way [ inl up ↦ omega (arith, up, high, under) | inr down ↦ omega (arith, down, over, low) ])
      ]
      | inr y ↦ both_ways _ apart (shared p q m n a x y)
    ]
    | inr x ↦ elim (claiming c q n a other second) [
      | inl y ↦ both_ways _ apart (share_to q p n m (shared q p n m a y x))
      | inr y ↦ differ (sym x.slot_is ∙ ap (λ (l : LegacyBridge). l.slot) (one_at_most here x.bridge y.bridge quiet.one x.has y.has) ∙ y.slot_is, x.register_is ∙ sym y.register_is)
    ]
  ]

pub of_bus : (s : System) (bus : ℕ) (space : Space) (regions : List Region) → AreRegionsOf s bus space regions → AreRegionsOn s (λ b. b ≡ bus) space regions
of_bus s bus space regions are = record {
  each = λ q has. (bus, refl, are.each q has);
  complete = λ b on f part a listed at claims. are.complete f part a listed (at ∙ on) claims;
  rising = are.rising;
}

-- ---- with told ranges on other buses

told_in : (told : Told) (k : ℕ) (r : ToldRange) → slice_get told.ranges k ≡ Some r → Contains told.ranges r
told_in told k r at = (k, slice_get_within told.ranges k r at, get_or_from_slice_get told.ranges k r r at)

-- what two regions may share without what is told they may share with it
apart_untold : (told : Told) (p q : Slot) (m n : ℕ) → told_claims.may_share told p m q n ≡ false → may_share p m q n ≡ false
apart_untold told p q m n apart = elim (cases_Bool (may_share p m q n)) [
  | inr off ↦ off
  | inl on ↦ absurd (both_ways _ apart (or_left (may_share p m q n || told_claims.is_held_beside told p m q n) (told_claims.is_held_beside told q n p m) (or_left (may_share p m q n) (told_claims.is_held_beside told p m q n) on)))
]

pub quiet_untold : (told : Told) (given : Given) (t : Tree) (IsOne : ℕ → Type 0) (space : Space) → ((r : ToldRange) → Contains told.ranges r → IsOne r.slot.bus → ⊥) → IsQuietInEach given t IsOne space → IsQuietWith told given t IsOne space
quiet_untold told given t IsOne space none quiet s tree a b c p q m n on_b on_c (inl one) (inl other) differ apart = quiet s tree a b c p q m n on_b on_c one other differ (apart_untold told p q m n apart)
quiet_untold told given t IsOne space none quiet s tree a b c p q m n on_b on_c (inr range) other differ apart =
    none range.r (told_in told range.named.index range.r range.named.at) (subst IsOne (sym range.on_the_bus ∙ ap (λ (x : Slot). x.bus) (sym range.named.slot)) on_b)
quiet_untold told given t IsOne space none quiet s tree a b c p q m n on_b on_c (inl one) (inr range) differ apart =
    none range.r (told_in told range.named.index range.r range.named.at) (subst IsOne (sym range.on_the_bus ∙ ap (λ (x : Slot). x.bus) (sym range.named.slot)) on_c)

-- an empty stretch is of a bus without told ranges
pub none_on_bus : (told : Told) (bus : ℕ) (stretch : Stretch) → IsStretchOf told.ranges bus stretch → stretch.first ≡ stretch.end → (r : ToldRange) → Contains told.ranges r → r.slot.bus ≡ bus → ⊥
none_on_bus told bus stretch is empty r (k, within, at) on_bus =
    let its : (get_or told.ranges k r).slot.bus ≡ bus = ap (λ (x : ToldRange). x.slot.bus) at ∙ on_bus in
    elim (cases_lt k stretch.first) [
      | inl less ↦ (let low = is.before k r (omega arith) less in let no : ⊥ = omega (arith, low, its) in no)
      | inr from ↦ (let high = is.after k r (omega (arith, from, empty)) within in let no : ⊥ = omega (arith, high, its) in no)
    ]

-- ---- no fault is there

module _ (told : Told) (given : Given) (t : Tree) where
  no_clash : (bus : ℕ) (space : Space) (s : System) (tree : HasTree t s) → IsQuietWith told given t (λ b. b ≡ bus) space → (f : plain.Fault) → IsClashLine (IsOnBusIn bus space) told given t.roots s f → ⊥
  no_clash bus space s tree quiet (Clash b sp a p m q n) (at, is) =
      quiet s tree a b b p q m n at.0 at.0 (subst (λ (x : Space). told_claims.ClaimsOnBus told given s b (address_in x a) (named_region p m)) at.1 is.there.claims_first)
      (subst (λ (x : Space). told_claims.ClaimsOnBus told given s b (address_in x a) (named_region q n)) at.1 is.there.claims_second) is.there.differ is.there.apart
  no_clash bus space s tree quiet f line = absurd (search rules)

  pub no_clashes : (bus : ℕ) (space : Space) (list : List named.Clash) → IsQuietWith told given t (λ b. b ≡ bus) space → AreClashesAdded (IsOnBusIn bus space) told given t list list
  no_clashes bus space list quiet = added_none t (IsClashLine (IsOnBusIn bus space) told given t.roots) (map clash_value list) (λ s tree f line. no_clash bus space s tree quiet f line)

  no_split : (space : Space) (s : System) (tree : HasTree t s) → IsQuietWith told given t (Contains t.roots) space → (f : plain.Fault) → IsSplitLine (IsSplitIn space) told given t.roots s f → ⊥
  no_split space s tree quiet (Split sp a p m q n) (at, is) =
      let differ : p ≡ q → ⊥ = λ same. is.there.buses (ap (λ (x : Slot). x.bus) same) in
      quiet s tree a p.bus q.bus p q m n is.there.root_first is.there.root_second (subst (λ (x : Space). told_claims.ClaimsOnBus told given s p.bus (address_in x a) (named_region p m)) at is.there.claims_first)
      (subst (λ (x : Space). told_claims.ClaimsOnBus told given s q.bus (address_in x a) (named_region q n)) at is.there.claims_second) (λ same. differ same.0) is.there.apart
  no_split space s tree quiet f line = absurd (search rules)

  pub no_splits : (space : Space) (list : List named_split.Split) → IsQuietWith told given t (Contains t.roots) space → AreSplitsAdded (IsSplitIn space) told given t list list
  no_splits space list quiet = added_none t (IsSplitLine (IsSplitIn space) told given t.roots) (map split_value list) (λ s tree f line. no_split space s tree quiet f line)

-- ---- told ranges one by one

abbrev pub NoneOnRoots : List ℕ → List ToldRange → Type 0
NoneOnRoots roots ranges = All (λ r. Contains roots r.slot.bus → ⊥) ranges

pub none_on_roots_yet : (roots : List ℕ) → NoneOnRoots roots []
none_on_roots_yet roots = λ k d less. absurd (let no : ⊥ = omega (arith, less) in no)

pub none_on_roots_more : (roots : List ℕ) (ranges : List ToldRange) (k : ℕ) (r : ToldRange) → k < length ranges → r ≡ get_or ranges k r → (Contains roots r.slot.bus → ⊥) → NoneOnRoots roots (take k ranges)
    → NoneOnRoots roots (take (k + 1) ranges)
none_on_roots_more roots ranges k r within at none before = All-more (λ (x : ToldRange). Contains roots x.slot.bus → ⊥) ranges k r within before (subst (λ (x : ToldRange). Contains roots x.slot.bus → ⊥) at none)
