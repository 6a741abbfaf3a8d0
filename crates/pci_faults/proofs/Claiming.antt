-- Clashes and splits of a system's regions, by what they share.
use Rattle.std.proofs.Common.{rules, ◌≡◌, ℕ, ◌<◌, ◌≤◌, inl, inr, List, [], ◌++◌, length, get_or, map, refl, sym, ◌∙◌, ap, subst, arith, true}
use Rattle.std.specs.List.{Contains}
use Rattle.std.proofs.lemmas.Bool.{cases_order}
use Rattle.std.proofs.lemmas.List.{get_or_default, get_or-map}
use Rattle.std.proofs.lemmas.List.Elements.{Contains-get_or}
use Rattle.pci_spec.specs.Slot.{Slot, IsSlot}
use Rattle.pci_spec.specs.System.{System, IsSystem, Space as SpaceValue, IsAddress}
use Rattle.pci_spec.specs.Fault.{ClaimsOnBus, IsClash, IsSplit, address_in, named_region, named_regions}
use Rattle.pci_spec.specs.Fault as faults
use Rattle.pci_spec.specs.Order.{Clashes, Splits}
use Rattle.pci_spec.specs.JudgingLaws.{region_number}
use Rattle.pci_spec.proofs.Regions.{register_of-lt}
use Rattle.pci_spec.proofs.Firsts.{slot_of}
use Rattle.pci_base.specs.declared.range.Range.{Range}
use Rattle.pci_base.specs.declared.space.Space.{Space}
use Rattle.pci_base.specs.Space.{space_of}
use Rattle.pci_tree.specs.declared.region.Region.{Region}
use Rattle.pci_tree.specs.Ranges.{Covers}
use Rattle.pci_tree.specs.Regions.{AreRegionsOf, region_number as number_of}
use Rattle.pci_tree.specs.Outline.{IsReachTo, Tree}
use Rattle.pci_function.specs.declared.fault.Fault.{Fault}
use Rattle.pci_tree.specs.Trees.{HasTree}
use Rattle.pci_check.specs.Stops.{AreBusRegionsOfTree}
use Rattle.pci_check.specs.Clashes.{AreRegionsOn, AreRootsListed}
use Rattle.pci_tree.proofs.RegionOrder.{number_same}
use Rattle.pci_check.proofs.Overlaps.{claims_of}
use Rattle.pci_check.proofs.Clashing.{gets_of_passed, passed_of_gets}
use Rattle.pci_faults.specs.declared.shares.Among.{Among}
use Rattle.pci_faults.specs.declared.shares.Among.TheVariants.{Bus, Roots}
use Rattle.pci_faults.specs.declared.shares.Share.{Share}
use Rattle.pci_faults.specs.Shares.{SpansAt, IsShared, AreShares, GroupsRise, group_at}
use Rattle.pci_faults.specs.Lines.{sharing_region_at, nothing_shared, share_fault, AreJustCodeFaults, AreLinesAdded, IsLineInEach, IsAt}
use Rattle.pci_faults.proofs.Naming.{IsAtPlace, IsSharedAs, AreLeastOf, IsTold, clash_told, split_told, second_of_clash, second_of_split, place_before, places_of, rising_of, just_told}

module _ (s : System) (system : IsSystem s) (IsOne : ℕ → Type 0) (space : SpaceValue) (regions : List Region) (are : AreRegionsOn s IsOne space regions) where
  claims_at : (k a : ℕ) → k < length regions → SpansAt regions k a → (bus : ℕ) × IsOne bus × ClaimsOnBus s bus (address_in space a) (named_region (sharing_region_at regions k).slot (sharing_region_at regions k).reg)
  claims_at k a within spans = claims_of s system IsOne space regions are [] a (sharing_region_at regions k) record { has = Contains-get_or regions k nothing_shared within; claims = spans nothing_shared }

  -- the place of a region that claims an address
  record IsClaimedAt (a : ℕ) (slot : Slot) (register : ℕ) : Type 0 where
    k : ℕ
    within : k < length regions
    at : IsAtPlace (places_of regions) k slot register
    spans : SpansAt regions k a

  claimed_at : (a bus : ℕ) (slot : Slot) (register : ℕ) → IsOne bus → ClaimsOnBus s bus (address_in space a) (named_region slot register) → IsClaimedAt a slot register
  claimed_at a bus slot register one (f, p, listed, at, on, named, claims) =
      let found = are.complete bus one f p a listed (ap (λ (x : Slot). x.bus) at ∙ on) claims in
      let is : (d : Region) → get_or regions found.has.0 d ≡ found.q = λ d. get_or_default regions found.has.0 d found.q found.has.1 ∙ found.has.2 in
      record {
        k = found.has.0;
        within = found.has.1;
        at = record {
          slot_is = ap (λ (r : Region). r.slot) (is nothing_shared) ∙ found.is.slot ∙ at;
          register_is = ap (λ (r : Region). r.reg) (is nothing_shared) ∙ found.is.register ∙ named;
        };
        spans = λ d. subst (λ (r : Region). (r.first ≤ a) × (a ≤ r.last)) (sym (is d)) ((found.is.claims a).1 claims);
      }

  -- regions on buses that rise
  lower_or_same_bus : (i k : ℕ) → i < k → k < length regions → (sharing_region_at regions i).slot.bus ≤ (sharing_region_at regions k).slot.bus
  lower_or_same_bus i k less within =
      let up = rising_of regions are.rising i k less within in
      let on = λ (n : ℕ) (inside : n < length regions). (are.each (sharing_region_at regions n) (Contains-get_or regions n nothing_shared inside)).2 in
      let one = on i (omega (arith, less, within)) in
      let other = on k within in
      let slot = subst IsSlot (sym one.is.slot) (slot_of s system one.f one.listed) in
      let slot_k = subst IsSlot (sym other.is.slot) (slot_of s system other.f other.listed) in
      let some = one.is.some in
      let low = register_of-lt one.f one.part ((one.is.claims (sharing_region_at regions i).first).0 (omega arith, some)).there in
      let register = one.is.register in
      let some_k = other.is.some in
      let low_k = register_of-lt other.f other.part ((other.is.claims (sharing_region_at regions k).first).0 (omega arith, some_k)).there in
      let register_k = other.is.register in
      omega (arith, up, slot, slot_k, low, register, low_k, register_k)

  group_is : (k : ℕ) → k < length regions → group_at Roots regions k ≡ (sharing_region_at regions k).slot.bus
  group_is k within = get_or-map (λ (r : Region). r.slot.bus) regions k nothing_shared 256 within

  pub groups_rise : GroupsRise Roots regions
  groups_rise j k up within = elim (cases_order j k) [
    | inl same ↦ (let e = ap (group_at Roots regions) same in omega (arith, e))
    | inr (inl less) ↦ (let low = lower_or_same_bus j k less within in let a = group_is j (omega (arith, less, within)) in let b = group_is k within in omega (arith, low, a, b))
    | inr (inr more) ↦ absurd (let no : ⊥ = omega (arith, up, more) in no)
  ]

order_of_shared : {among : Among} {regions : List Region} {allowed : List Range} (a i k : ℕ) → IsShared among regions allowed a i k → (i < k) × (k < length regions)
order_of_shared a i k shared = (shared.before, shared.within)

least_of_shares : {among : Among} {regions : List Region} {allowed : List Range} {list : List Share} → AreShares among regions allowed list → AreLeastOf (IsShared among regions allowed) list
least_of_shares are = record {
  each = λ s has. (let (within, is) = are.each s has in record { there = is.there; least = is.least });
  complete = λ s is. are.complete s is.there.within record { there = is.there; least = is.least };
  rising = are.rising;
}

-- two regions that share an address aren't one
differ_at : (regions : List Region) (i k : ℕ) → number_of (sharing_region_at regions i) < number_of (sharing_region_at regions k)
    → ((sharing_region_at regions i).slot ≡ (sharing_region_at regions k).slot) × ((sharing_region_at regions i).reg ≡ (sharing_region_at regions k).reg) → ⊥
differ_at regions i k less same = let e = number_same _ _ _ _ same.0 same.1 in let no : ⊥ = omega (arith, less, e) in no

-- ---- clashes of a bus

module _ (roots : List ℕ) (s : System) (system : IsSystem s) (bus : ℕ) (space : Space) (regions : List Region) (allowed : List Range) (are : AreRegionsOf s bus (space_of space) regions)
    (reach : IsReachTo roots s (space_of space) true bus allowed) where
  abbrev IsThis : ℕ → Type 0
  IsThis b = b ≡ bus

  on_this_bus : AreRegionsOn s IsThis (space_of space) regions
  on_this_bus = record {
    each = λ q has. (bus, refl, are.each q has);
    complete = λ b is f p a listed at claims. are.complete f p a listed (at ∙ is) claims;
    rising = are.rising;
  }

  abbrev Clashing : ℕ → Slot → ℕ → Slot → ℕ → Type 0
  Clashing a f r g q = IsClash roots s bus (address_in (space_of space) a) (named_regions f r g q)

  claims_here : (k a : ℕ) → k < length regions → SpansAt regions k a → ClaimsOnBus s bus (address_in (space_of space) a) (named_region (sharing_region_at regions k).slot (sharing_region_at regions k).reg)
  claims_here k a within spans =
      let c = claims_at s system IsThis (space_of space) regions on_this_bus k a within spans in
      subst (λ n. ClaimsOnBus s n (address_in (space_of space) a) (named_region (sharing_region_at regions k).slot (sharing_region_at regions k).reg)) c.1 c.2

  clash_of : (a i k : ℕ) → IsShared (Bus bus) regions allowed a i k → Clashing a (sharing_region_at regions i).slot (sharing_region_at regions i).reg (sharing_region_at regions k).slot (sharing_region_at regions k).reg
  clash_of a i k shared =
      let within = shared.within in
      let before = shared.before in
      record {
        gets = gets_of_passed roots s (space_of space) a bus ((reach.exact a).0 shared.covered).1;
        claims_first = claims_here i a (omega (arith, within, before)) shared.claims_first;
        claims_second = claims_here k a within shared.claims_second;
        differ = differ_at regions i k (rising_of regions are.rising i k before within);
      }

  shared_by : (a : ℕ) (f : Slot) (r : ℕ) (g : Slot) (q : ℕ) → Clashing a f r g q → region_number f r < region_number g q → IsSharedAs (places_of regions) (IsShared (Bus bus) regions allowed) a f r g q
  shared_by a f r g q clash less =
      let one = claimed_at s system IsThis (space_of space) regions on_this_bus a bus f r refl clash.claims_first in
      let two = claimed_at s system IsThis (space_of space) regions on_this_bus a bus g q refl clash.claims_second in
      let up = place_before (places_of regions) (rising_of regions are.rising) one.k two.k f r g q one.within one.at two.at less in
      record {
        i = one.k;
        k = two.k;
        shared = record {
          within = two.within;
          rise = up;
          before = up;
          covered = (reach.exact a).1 (clash.claims_first.6.address, passed_of_gets roots s (space_of space) a bus clash.gets);
          claims_first = one.spans;
          claims_second = two.spans;
        };
        first = one.at;
        second = two.at;
      }

  abbrev pub Line : faults.Fault → Type 0
  Line = IsLineInEach (IsAt Clashes bus (space_of space)) roots s

  line_only : (fault : faults.Fault) → Line fault → IsTold Clashing (faults.Clash bus (space_of space)) fault
  line_only (faults.Clash b sp a f r g q) ((one, e, h), line) = clash_told (λ n x a f r g q. IsClash roots s n (address_in x a) (named_regions f r g q)) bus b (space_of space) sp a f r g q e h
      record { there = line.there; rise = line.rise; least = λ c slot register. line.least c slot register }
  line_only (faults.Unreached slot register sp a b) (at, line) = absurd (let no : ⊥ = cc in no)
  line_only (faults.Split sp a f r g q) (at, line) = absurd (let no : ⊥ = cc in no)
  line_only fault line = absurd (search rules)

  pub clashes_told : (list : List Share) → (GroupsRise (Bus bus) regions → AreShares (Bus bus) regions allowed list) → AreJustCodeFaults Line (map (share_fault (Bus bus) space regions) list)
  clashes_told list shares =
      just_told (places_of regions) (rising_of regions are.rising) (IsShared (Bus bus) regions allowed) order_of_shared Clashing clash_of shared_by list (least_of_shares (shares (λ j k up within. up)))
      (share_fault (Bus bus) space regions) (faults.Clash bus (space_of space)) (λ x. refl) (second_of_clash bus (space_of space)) Line
      (λ a f r g q meets. ((refl, refl, refl), record { there = meets.there; rise = meets.rise; least = meets.least }))
      line_only

-- ---- splits of a space

module _ (roots : List ℕ) (s : System) (system : IsSystem s) (space : Space) (regions : List Region) (allowed : List Range) (are : AreRegionsOn s (Contains roots) (space_of space) regions)
    (whole : (a : ℕ) → IsAddress (space_of space) a → Covers allowed a) where
  abbrev IsRoot : ℕ → Type 0
  IsRoot = Contains roots

  abbrev Splitting : ℕ → Slot → ℕ → Slot → ℕ → Type 0
  Splitting a f r g q = IsSplit roots s (address_in (space_of space) a) (named_regions f r g q)

  -- a region of the roots that claims an address
  record IsRootClaim (a k : ℕ) : Type 0 where
    root : Contains roots (sharing_region_at regions k).slot.bus
    claims : ClaimsOnBus s (sharing_region_at regions k).slot.bus (address_in (space_of space) a) (named_region (sharing_region_at regions k).slot (sharing_region_at regions k).reg)

  root_claim : (k a : ℕ) → k < length regions → SpansAt regions k a → IsRootClaim a k
  root_claim k a within spans =
      let c = claims_at s system IsRoot (space_of space) regions are k a within spans in
      let on = sym c.2.4 in
      record {
        root = subst (Contains roots) on c.1;
        claims = subst (λ n. ClaimsOnBus s n (address_in (space_of space) a) (named_region (sharing_region_at regions k).slot (sharing_region_at regions k).reg)) on c.2;
      }

  split_of : (a i k : ℕ) → IsShared Roots regions allowed a i k → Splitting a (sharing_region_at regions i).slot (sharing_region_at regions i).reg (sharing_region_at regions k).slot (sharing_region_at regions k).reg
  split_of a i k shared =
      let within = shared.within in
      let before = shared.before in
      let inside : i < length regions = omega (arith, within, before) in
      let one = root_claim i a inside shared.claims_first in
      let two = root_claim k a within shared.claims_second in
      let rise = shared.rise in
      let group = group_is s system IsRoot (space_of space) regions are i inside in
      let group_k = group_is s system IsRoot (space_of space) regions are k within in
      record {
        root_first = one.root;
        root_second = two.root;
        buses = λ same. (let no : ⊥ = omega (arith, rise, group, group_k, same) in no);
        claims_first = one.claims;
        claims_second = two.claims;
      }

  shared_over_roots : (a : ℕ) (f : Slot) (r : ℕ) (g : Slot) (q : ℕ) → Splitting a f r g q → region_number f r < region_number g q → IsSharedAs (places_of regions) (IsShared Roots regions allowed) a f r g q
  shared_over_roots a f r g q split less =
      let one = claimed_at s system IsRoot (space_of space) regions are a f.bus f r split.root_first split.claims_first in
      let two = claimed_at s system IsRoot (space_of space) regions are a g.bus g q split.root_second split.claims_second in
      let up = place_before (places_of regions) (rising_of regions are.rising) one.k two.k f r g q one.within one.at two.at less in
      let low = lower_or_same_bus s system IsRoot (space_of space) regions are one.k two.k up two.within in
      let bus = ap (λ (x : Slot). x.bus) one.at.slot_is in
      let bus_two = ap (λ (x : Slot). x.bus) two.at.slot_is in
      let group = group_is s system IsRoot (space_of space) regions are one.k one.within in
      let group_two = group_is s system IsRoot (space_of space) regions are two.k two.within in
      record {
        i = one.k;
        k = two.k;
        shared = record {
          within = two.within;
          rise = elim (cases_order f.bus g.bus) [
            | inl same ↦ absurd (split.buses same)
            | inr (inl lower) ↦ omega (arith, lower, bus, bus_two, group, group_two)
            | inr (inr higher) ↦ absurd (let no : ⊥ = omega (arith, higher, low, bus, bus_two) in no)
          ];
          before = up;
          covered = whole a split.claims_first.6.address;
          claims_first = one.spans;
          claims_second = two.spans;
        };
        first = one.at;
        second = two.at;
      }

  abbrev pub SplitLine : faults.Fault → Type 0
  SplitLine = IsLineInEach (IsAt Splits 0 (space_of space)) roots s

  split_only : (fault : faults.Fault) → SplitLine fault → IsTold Splitting (faults.Split (space_of space)) fault
  split_only (faults.Split sp a f r g q) ((one, none, h), line) = split_told (λ x a f r g q. IsSplit roots s (address_in x a) (named_regions f r g q)) (space_of space) sp a f r g q h
      record { there = line.there; rise = line.rise; least = λ c slot register. line.least c slot register }
  split_only (faults.Unreached slot register sp a b) (at, line) = absurd (let no : ⊥ = cc in no)
  split_only (faults.Clash b sp a f r g q) (at, line) = absurd (let no : ⊥ = cc in no)
  split_only fault line = absurd (search rules)

  pub splits_told : (list : List Share) → (GroupsRise Roots regions → AreShares Roots regions allowed list) → AreJustCodeFaults SplitLine (map (share_fault Roots space regions) list)
  splits_told list shares =
      just_told (places_of regions) (rising_of regions are.rising) (IsShared Roots regions allowed) order_of_shared Splitting split_of shared_over_roots list
      (least_of_shares (shares (groups_rise s system IsRoot (space_of space) regions are))) (share_fault Roots space regions) (faults.Split (space_of space)) (λ x. refl) (second_of_split (space_of space)) SplitLine
      (λ a f r g q meets. ((refl, refl, refl), record { there = meets.there; rise = meets.rise; least = meets.least }))
      split_only

-- ---- in each system with a tree

pub clashes_added : (t : Tree) (bus : ℕ) (space : Space) (regions : List Region) (allowed : List Range) → AreBusRegionsOfTree t bus (space_of space) regions
    → ((s : System) → HasTree t s → IsReachTo t.roots s (space_of space) true bus allowed)
    → (list : List Share) → (GroupsRise (Bus bus) regions → AreShares (Bus bus) regions allowed list)
    → (before after : List Fault) → after ≡ before ++ map (share_fault (Bus bus) space regions) list → AreLinesAdded (IsAt Clashes bus (space_of space)) t before after
clashes_added t bus space regions allowed listed reach list shares before after appended = record {
  more = map (share_fault (Bus bus) space regions) list;
  appended = appended;
  just = λ s tree. clashes_told t.roots s tree.system bus space regions allowed (listed s tree.records) (reach s tree) list shares;
}

pub splits_added : (t : Tree) (space : Space) (regions : List Region) (allowed : List Range) → AreRootsListed t (space_of space) regions
    → ((a : ℕ) → IsAddress (space_of space) a → Covers allowed a)
    → (list : List Share) → (GroupsRise Roots regions → AreShares Roots regions allowed list)
    → (before after : List Fault) → after ≡ before ++ map (share_fault Roots space regions) list → AreLinesAdded (IsAt Splits 0 (space_of space)) t before after
splits_added t space regions allowed listed whole list shares before after appended = record {
  more = map (share_fault Roots space regions) list;
  appended = appended;
  just = λ s tree. splits_told t.roots s tree.system space regions allowed (listed s tree) whole list shares;
}
