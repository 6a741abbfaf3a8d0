-- Whether a region is left, by the window that it belongs under.
use Rattle.std.proofs.Common.{◌≡◌, ℕ, List, [], ◌∷◌, refl, sym, ap, ◌∙◌, subst, inl, inr, arith, Bool, true, false, not, ◌<◌, length, get_or, Option, None}
use Rattle.std.specs.Prelude.{IsTrue, IsFalse, ◌↔◌, MatchBool}
use Rattle.std.specs.List.{Contains}
use Rattle.std.proofs.Math.Nat.{le_antisymm}
use Rattle.std.proofs.lemmas.List.{get_or_read}
use Rattle.std.proofs.lemmas.Bool.{false≢true, false_from_ne_true, and_parts, both_ways}
use Rattle.pci_spec.specs.Slot.{Slot}
use Rattle.pci_spec.specs.Window.{WindowKind, IoWindow, MemoryWindow, PrefetchWindow}
use Rattle.pci_spec.specs.System.{System, Function, Space, Io, Memory, Claims, IsAddress, register_of, is_prefetchable_part, window_claims}
use Rattle.pci_spec.specs.System as system
use Rattle.pci_spec.specs.Bus.{IsNested}
use Rattle.pci_spec.specs.Decoded.{InRange}
use Rattle.pci_spec.specs.Why as why
use Rattle.pci_spec.specs.Why.{IsRegionIn}
use Rattle.pci_spec.proofs.Ways.{a_way_to_each}
use Rattle.judge_spec.specs.Given.{Given, takes}
use Rattle.judge_spec.specs.Regions.{MapRegion, Own, slot_of, range_of}
use Rattle.judge_spec.specs.Regions as regions
use Rattle.judge_spec.specs.Lines.{is_first_window, BelongsUnder, StandsBehind}
use Rattle.judge_spec.specs.Map.{HasWay, IsOutsideWindows}
use Rattle.judge_spec.proofs.Having.{window_has_space}
use Rattle.pci_tree.specs.declared.region.Region.{Region}
use Rattle.pci_tree.specs.Ranges.{Covers}
use Rattle.pci_map.specs.Addresses.{SpaceRanges, ranges_in, AreTakenByBridge}
use Rattle.pci_map.specs.Takers.{IsTakenFirst}
use Rattle.pci_map.proofs.TakenRanges.{none_in}
use Rattle.pci_map.specs.Values.{value_of}
use Rattle.pci_map.specs.Left.{IsSlotAbove, IsBehindNoBridge, IsFirstHoldingWindow, IsLeftIf}
use Rattle.pci_map.specs.Ways.{IsFirstJudged, IsWayTo, AreWays}
use Rattle.pci_map.specs.declared.left.Judged.{Judged}
use Rattle.pci_map.specs.Windows.{BridgeWindows}

-- one function with one slot
abbrev pub AreOne : System → Type 0
AreOne s = (f g : Function) → Contains s f → Contains s g → f.slot ≡ g.slot → f ≡ g

-- ---- regions of one part

module _ (s : System) (unique : AreOne s) where
  module _ (p q : why.Region) (ip : IsRegionIn s p) (iq : IsRegionIn s q) (slot : p.slot ≡ q.slot) (part : p.part ≡ q.part) (space : p.space ≡ q.space) where
    same : ip.f ≡ iq.f
    same = unique ip.f iq.f ip.listed iq.listed (ip.slot ∙ slot ∙ sym iq.slot)

    inside : (a : ℕ) → InRange p.range a → InRange q.range a
    inside a has =
        (iq.claims a).1 (subst (λ f. Claims f q.part q.space a) same (subst (λ x. Claims ip.f x q.space a) part (subst (λ sp. Claims ip.f p.part sp a) space ((ip.claims a).0 has))))

  pub region_same : (p q : why.Region) → IsRegionIn s p → IsRegionIn s q → p.slot ≡ q.slot → p.part ≡ q.part → p.space ≡ q.space → p ≡ q
  region_same p q ip iq slot part space =
      let one : ip.f ≡ iq.f = same p q ip iq slot part space in
      let first_to = inside p q ip iq slot part space p.range.first (omega arith, ip.some) in
      let last_to = inside p q ip iq slot part space p.range.last (ip.some, omega arith) in
      let first_back = inside q p iq ip (sym slot) (sym part) (sym space) q.range.first (omega arith, iq.some) in
      let last_back = inside q p iq ip (sym slot) (sym part) (sym space) q.range.last (iq.some, omega arith) in
      let register : p.register ≡ q.register = sym ip.register ∙ ap (λ f. register_of f p.part) one ∙ ap (register_of iq.f) part ∙ iq.register in
      let prefetchable : p.prefetchable ≡ q.prefetchable = sym ip.prefetchable ∙ ap (λ f. is_prefetchable_part f p.part) one ∙ ap (is_prefetchable_part iq.f) part ∙ iq.prefetchable in
      let first : p.range.first ≡ q.range.first = le_antisymm first_back.0 first_to.0 in
      let last : p.range.last ≡ q.range.last = le_antisymm last_to.1 last_back.1 in
      λ i. record { slot = slot i; register = register i; part = part i; space = space i; prefetchable = prefetchable i; range = record { first = first i; last = last i } }

-- a region begins at an address of its space
pub first_address : (s : System) (space : Space) (q : Region) → IsRegionIn s (value_of space q) → IsAddress space q.first
first_address s space q of = ((of.claims q.first).0 (omega arith, of.some)).address

-- ---- first windows

kinds : (given : Given) (space : Space) (k l : WindowKind) (a : ℕ) (b : Function) → IsTrue (is_first_window given space k a b) → IsTrue (is_first_window given space l a b) → k ≡ l
kinds given Io IoWindow IoWindow a b x y = refl
kinds given Io IoWindow MemoryWindow a b x y = absurd (false≢true y)
kinds given Io IoWindow PrefetchWindow a b x y = absurd (false≢true y)
kinds given Io MemoryWindow l a b x y = absurd (false≢true x)
kinds given Io PrefetchWindow l a b x y = absurd (false≢true x)
kinds given Memory IoWindow l a b x y = absurd (false≢true x)
kinds given Memory MemoryWindow IoWindow a b x y = absurd (false≢true y)
kinds given Memory MemoryWindow MemoryWindow a b x y = refl
kinds given Memory MemoryWindow PrefetchWindow a b x y =
    absurd (both_ways (not (window_claims b MemoryWindow a)) (ap not x) (and_parts (window_claims b PrefetchWindow a) (not (window_claims b MemoryWindow a)) y).1)
kinds given Memory PrefetchWindow IoWindow a b x y = absurd (false≢true y)
kinds given Memory PrefetchWindow MemoryWindow a b x y =
    absurd (both_ways (not (window_claims b MemoryWindow a)) (ap not y) (and_parts (window_claims b PrefetchWindow a) (not (window_claims b MemoryWindow a)) x).1)
kinds given Memory PrefetchWindow PrefetchWindow a b x y = refl

-- what stands in the table for a bus
pub way_here : (given : Given) (roots : List ℕ) (s : System) (ways : List (Option BridgeWindows)) (bus : ℕ) (x o : Option BridgeWindows) → bus < length ways → x ≡ get_or ways bus x → x ≡ o → AreWays given roots s ways → IsWayTo given roots s bus o
way_here given roots s ways bus x o lt at is so = subst (IsWayTo given roots s bus) (sym (get_or_read ways bus x lt at None) ∙ is) (so bus lt)

module _ (given : Given) (roots : List ℕ) (s : System) (space : Space) (q : MapRegion) (same_space : regions.space_of q ≡ space) where
  pub root_way : (bus : ℕ) → IsWayTo given roots s bus None → (slot_of q).bus ≡ bus → IsLeftIf given roots s q false
  root_way bus way on = ([], inl (subst (Contains roots) (sym on) way))

  -- no bridge leads to its bus
  pub left_unled : (bus : ℕ) → IsBehindNoBridge roots s bus → (slot_of q).bus ≡ bus → IsOutsideWindows given roots s q
  left_unled bus unled on [] (inl way) = unled.off_root (subst (Contains roots) on way)
  left_unled bus unled on [] (inr taker) = unled.none taker.stands.b (taker.stands.listed, taker.stands.bridge, taker.stands.leads ∙ on)
  left_unled bus unled on (p ∷ windows) (is, under, way) = unled.none under.b (under.listed, under.bridge, under.leads ∙ on)

  -- and nothing is taken there
  pub unled_left : (bus : ℕ) → IsBehindNoBridge roots s bus → (slot_of q).bus ≡ bus → (a : ℕ) (x : SpaceRanges) → x ≡ record { io = []; memory = [] } → (b : Bool) → IsTrue b ↔ Covers (ranges_in space x) a → IsLeftIf given roots s q (not b)
  unled_left bus unled on a x none true has = absurd (none_in space a x none (has.0 refl))
  unled_left bus unled on a x none false has = left_unled bus unled on

  module _ (bus a : ℕ) (on : (slot_of q).bus ≡ bus) (at : (range_of q).first ≡ a) (x : Slot) (above : IsSlotAbove roots s bus x) where
    -- the bridge that a region belongs under
    the_bridge : AreOne s → (p : why.Region) (under : BelongsUnder given s p q) → under.b ≡ above.b
    the_bridge unique p under = unique under.b above.b under.listed above.leads.0 (above.only under.b (under.listed, under.bridge, under.leads ∙ on) ∙ sym above.named)

    first_there : AreOne s → (p : why.Region) (under : BelongsUnder given s p q) → IsTrue (is_first_window given space under.kind a above.b)
    first_there unique p under =
        subst (λ sp. IsTrue (is_first_window given sp under.kind a above.b)) same_space
        (subst (λ n. IsTrue (is_first_window given (regions.space_of q) under.kind n above.b)) at (subst (λ f. IsTrue (is_first_window given (regions.space_of q) under.kind (range_of q).first f)) (the_bridge unique p under) under.first))

    -- the bridge that takes it
    the_taker : AreOne s → (at_slot : Slot) (stands : StandsBehind given s at_slot q) → stands.b ≡ above.b
    the_taker unique at_slot stands = unique stands.b above.b stands.listed above.leads.0 (above.only stands.b (stands.listed, stands.bridge, stands.leads ∙ on) ∙ sym above.named)

    -- what is so of that bridge, the region's space and its first address
    of_taker : AreOne s → (P : Space → ℕ → Function → Type 0) (at_slot : Slot) (stands : StandsBehind given s at_slot q) → P (regions.space_of q) (range_of q).first stands.b → P space a above.b
    of_taker unique P at_slot stands so =
        subst (λ sp. P sp a above.b) same_space (subst (λ n. P (regions.space_of q) n above.b) at (subst (λ f. P (regions.space_of q) (range_of q).first f) (the_taker unique at_slot stands) so))

    left_none : AreOne s → ((kind : WindowKind) → IsTrue (is_first_window given space kind a above.b) → ⊥) → (IsTrue (takes given space a above.b) → ⊥) → IsOutsideWindows given roots s q
    left_none unique none not_taken [] (inl way) = above.off_root (subst (Contains roots) on way)
    left_none unique none not_taken [] (inr taker) = not_taken (of_taker unique (λ sp n f. IsTrue (takes given sp n f)) taker.slot taker.stands taker.stands.taken)
    left_none unique none not_taken (p ∷ windows) (is, under, way) = none under.kind (first_there unique p under)

    -- it stands behind that bridge
    stands_behind : ((kind : WindowKind) → IsTrue (is_first_window given space kind a above.b) → ⊥) → IsTrue (takes given space a above.b) → StandsBehind given s above.b.slot q
    stands_behind none taken = record {
      b = above.b;
      listed = above.leads.0;
      bridge = above.leads.1;
      at = refl;
      leads = above.leads.2 ∙ sym on;
      taken = subst (λ sp. IsTrue (takes given sp (range_of q).first above.b)) (sym same_space) (subst (λ n. IsTrue (takes given space n above.b)) (sym at) taken);
      no_window = λ kind. false_from_ne_true (is_first_window given (regions.space_of q) kind (range_of q).first above.b)
          (λ first. none kind (subst (λ sp. IsTrue (is_first_window given sp kind a above.b)) same_space (subst (λ n. IsTrue (is_first_window given (regions.space_of q) kind n above.b)) at first)));
    }

    taken_way : IsNested roots s → ((kind : WindowKind) → IsTrue (is_first_window given space kind a above.b) → ⊥) → IsTrue (takes given space a above.b) → (windows : List why.Region) × HasWay given roots s q windows
    taken_way nested none taken =
        let way = a_way_to_each roots s nested above.b above.leads.0 in
        ([], inr (record { root = way.0; slot = above.b.slot; is_root = way.1; below = record { bridges = way.2; leads = way.3 }; stands = stands_behind none taken }))

    -- it is left, unless the bridge takes it
    pub left_unless_taken : AreOne s → IsNested roots s → (xs : SpaceRanges) → AreTakenByBridge given above.b xs → ((kind : WindowKind) → IsTrue (is_first_window given space kind a above.b) → ⊥) → (b : Bool) → IsTrue b ↔ Covers (ranges_in space xs) a
        → IsLeftIf given roots s q (not b)
    left_unless_taken unique nested xs are none true has = taken_way nested none ((are space a).0 (has.0 refl))
    left_unless_taken unique nested xs are none false has = left_none unique none (λ taken. false≢true (has.1 ((are space a).1 taken)))

    module _ (w : Region) (first : IsFirstHoldingWindow given s space above.b a w) where
      the_window : AreOne s → (p : why.Region) → IsRegionIn s p → BelongsUnder given s p q → p ≡ value_of space w
      the_window unique p is under =
          let kind : under.kind ≡ first.kind = kinds given space under.kind first.kind a above.b (first_there unique p under) first.first in
          region_same s unique p (value_of space w) is first.is (sym under.slot ∙ ap (λ (f : Function). f.slot) (the_bridge unique p under) ∙ first.slot)
          (under.window ∙ ap system.Window kind ∙ sym first.window) (window_has_space given s p q is under ∙ same_space)

      left_below : AreOne s → IsOutsideWindows given roots s (Own (value_of space w)) → IsOutsideWindows given roots s q
      left_below unique left [] (inl way) = above.off_root (subst (Contains roots) on way)
      left_below unique left [] (inr taker) =
          both_ways (is_first_window given space first.kind a above.b) (of_taker unique (λ sp n f. IsFalse (is_first_window given sp first.kind n f)) taker.slot taker.stands (taker.stands.no_window first.kind)) first.first
      left_below unique left (p ∷ windows) (is, under, way) = left windows (subst (λ z. HasWay given roots s (Own z) windows) (the_window unique p is under) way)

      under_it : BelongsUnder given s (value_of space w) q
      under_it = record {
        b = above.b;
        listed = above.leads.0;
        bridge = above.leads.1;
        slot = first.slot;
        leads = above.leads.2 ∙ sym on;
        kind = first.kind;
        window = first.window;
        first = subst (λ sp. IsTrue (is_first_window given sp first.kind (range_of q).first above.b)) (sym same_space) (subst (λ n. IsTrue (is_first_window given space first.kind n above.b)) (sym at) first.first);
      }

      pub as_window : AreOne s → (left : Bool) → IsLeftIf given roots s (Own (value_of space w)) left → IsLeftIf given roots s q left
      as_window unique true left = left_below unique left
      as_window unique false (windows, way) = (value_of space w ∷ windows, (first.is, under_it, way))

    -- a region is left as the window that it belongs under is
    pub as_judged : AreOne s → (w : Judged) → IsFirstJudged given roots s space above.b a w → IsLeftIf given roots s q w.left
    as_judged unique w is = as_window w.window is.first unique w.left is.judged

-- ---- what a bridge takes and none of its windows claims

module _ (given : Given) (roots : List ℕ) (s : System) (space : Space) (b : Function) (a : ℕ) where
  pub taken_first : (x : SpaceRanges) → AreTakenByBridge given b x → ((kind : WindowKind) → IsTrue (is_first_window given space kind a b) → ⊥) → (t : Bool) → IsTrue t ↔ Covers (ranges_in space x) a
      → MatchBool t (IsTakenFirst given space b a) (IsTakenFirst given space b a → ⊥)
  taken_first x are none true has = record { taken = (are space a).0 (has.0 refl); no_window = λ kind. false_from_ne_true (is_first_window given space kind a b) (none kind) }
  taken_first x are none false has = λ it. false≢true (has.1 ((are space a).1 it.taken))

  pub held_first : (w : Judged) → IsFirstJudged given roots s space b a w → IsTakenFirst given space b a → ⊥
  held_first w is it = both_ways (is_first_window given space is.first.kind a b) (it.no_window is.first.kind) is.first.first
