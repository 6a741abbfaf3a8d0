-- Regions that have to be sent and reached: gathered from one source after another, and in order.
use Rattle.std.proofs.Common.{◌≡◌, ℕ, ◌+◌, ◌<◌, ◌⊎◌, inl, inr, Bool, List, [], ◌++◌, get_or, false, not, refl, sym, ◌∙◌, ap, subst, arith, append_assoc, append-nil}
use Rattle.std.specs.Prelude.{◌↔◌}
use Rattle.std.specs.List.{AllPairs, Contains, filter}
use Rattle.std.specs.List.Sorted.{IsPermutation, IsNonDecreasingBy}
use Rattle.std.proofs.lemmas.Bool.{not-true, not_from_false}
use Rattle.std.proofs.lemmas.List.Elements.{Contains-get_or, Contains-append_left, Contains-append_right, Contains-append_cases}
use Rattle.std.proofs.lemmas.List.Sorted.{Contains-permutation, IsPermutation-sym}
use Rattle.pci_spec.specs.Slot.{Slot, IsSlot, slot_number}
use Rattle.pci_spec.specs.System.{System, Function, Space as SpaceValue, Io, Memory, IsSystem, Claims, is_prefetchable_part}
use Rattle.pci_spec.proofs.Firsts.{slot_of, same_region}
use Rattle.pci_spec.proofs.Members.{in_nil, in_filter_to, in_filter_from, in_map_to, in_map_from, pairs_nil, pairs_append, pairs_filter, pairs_map}
use Rattle.pci_spec.proofs.Regions.{register_of-lt, slot_number-same}
use Rattle.pci_base.specs.declared.space.Space.{Space}
use Rattle.pci_base.specs.Space.{space_of}
use Rattle.pci_tree.specs.declared.region.Region.{Region}
use Rattle.pci_tree.specs.Outline.{Tree}
use Rattle.pci_tree.specs.Ranges.{Holds}
use Rattle.pci_tree.specs.Regions.{IsRegionOn, AreRegionsOf, is_of_window}
use Rattle.pci_tree.specs.Trees.{HasTree}
use Rattle.pci_tree.proofs.RegionParts.{window_named}
use Rattle.judge_spec.specs.ToldClaims.{Told}
use Rattle.pci_faults.specs.declared.needed.Needed.{Needed}
use Rattle.pci_faults.specs.Clashes.{IsOnBusIn}
use Rattle.pci_faults.specs.Needed.{IsOfBar, IsOfRange, Which, IsNeeded, IsOfBarAt, needed_place, IsOneOf, HasName, AreJustNeededRegions, Differ, AreNeededAppended, AreBarsAdded, AreAllNeeded, AreToldNeeded, needed_of, needed_among}
use Rattle.pci_faults.proofs.AllClashing.{Where, IsBelow, IsOnBus, not_both_spaces, either_space, not_below_and_on, below_or_on}
use Rattle.pci_claims.proofs.Making.{rise_in_order}

-- ---- places

-- regions with one place have one name
pub one_name : (n m : Needed) → IsSlot n.name.slot → IsSlot m.name.slot → n.name.register < 8192 → m.name.register < 8192 → needed_place n ≡ needed_place m
    → (n.name.slot ≡ m.name.slot) × (n.name.register ≡ m.name.register)
one_name n m hs ht hr hq e = (
  slot_number-same n.name.slot m.name.slot hs ht (let numbers : slot_number n.name.slot ≡ slot_number m.name.slot = omega (arith, e, hr, hq) in numbers),
  (let registers : n.name.register ≡ m.name.register = omega (arith, e, hr, hq) in registers),
)

-- a region has its first address
pub first_of : (W : Which) (s : System) (n : Needed) → IsOneOf W s n → W s n.name.slot n.name.register (space_of n.space) n.range.first n.prefetch
first_of W s n one = one.each n.range.first (omega arith, one.some)

-- ---- of several sources

-- no name is of both
abbrev pub Apart : Which → Which → Type 0
Apart A B =
    (s : System) → IsSystem s → (slot : Slot) (register : ℕ) (space : SpaceValue) (a : ℕ) (p : Bool) (sp : SpaceValue) (b : ℕ) (q : Bool)
    → A s slot register space a p → B s slot register sp b q → ⊥

abbrev pub Either : Which → Which → Which → Type 0
Either A B C =
    (s : System) (slot : Slot) (register : ℕ) (space : SpaceValue) (a : ℕ) (p : Bool) → C s slot register space a p ↔ (A s slot register space a p ⊎ B s slot register space a p)

has_more : (xs ys : List Needed) → ((n : Needed) → Contains xs n → Contains ys n) → (slot : Slot) (register : ℕ) → HasName xs slot register → HasName ys slot register
has_more xs ys within slot register found = record { n = found.n; has = within found.n found.has; slot_is = found.slot_is; register_is = found.register_is }

module _ (A B C : Which) (apart : Apart A B) (either : Either A B C) where
  left_of : (s : System) → IsSystem s → (n : Needed) → IsOneOf A s n → IsOneOf C s n
  left_of s system n one = record {
    slot = one.slot;
    register = one.register;
    some = one.some;
    addresses = one.addresses;
    each = λ a held. (either s n.name.slot n.name.register (space_of n.space) a n.prefetch).1 (inl (one.each a held));
    only = λ space a p is. elim ((either s n.name.slot n.name.register space a p).0 is) [
      | inl here ↦ one.only space a p here
      | inr other ↦ absurd (apart s system n.name.slot n.name.register (space_of n.space) n.range.first n.prefetch space a p (first_of A s n one) other)
    ];
  }

  right_of : (s : System) → IsSystem s → (n : Needed) → IsOneOf B s n → IsOneOf C s n
  right_of s system n one = record {
    slot = one.slot;
    register = one.register;
    some = one.some;
    addresses = one.addresses;
    each = λ a held. (either s n.name.slot n.name.register (space_of n.space) a n.prefetch).1 (inr (one.each a held));
    only = λ space a p is. elim ((either s n.name.slot n.name.register space a p).0 is) [
      | inl other ↦ absurd (apart s system n.name.slot n.name.register space a p (space_of n.space) n.range.first n.prefetch other (first_of B s n one))
      | inr here ↦ one.only space a p here
    ];
  }

  two_differ : (s : System) → IsSystem s → (n m : Needed) → IsOneOf A s n → IsOneOf B s m → Differ n m
  two_differ s system n m one two same =
      let names = one_name n m one.slot two.slot one.register two.register same in
      let there : A s m.name.slot m.name.register (space_of n.space) n.range.first n.prefetch =
      subst (λ (x : Slot). A s x m.name.register (space_of n.space) n.range.first n.prefetch) names.0
      (subst (λ r. A s n.name.slot r (space_of n.space) n.range.first n.prefetch) names.1 (first_of A s n one)) in
      apart s system m.name.slot m.name.register (space_of n.space) n.range.first n.prefetch (space_of m.space) m.range.first m.prefetch there (first_of B s m two)

  both_are : (s : System) → IsSystem s → (xs ys : List Needed) → AreJustNeededRegions A Differ s xs → AreJustNeededRegions B Differ s ys → AreJustNeededRegions C Differ s (xs ++ ys)
  both_are s system xs ys one two = record {
    each = λ n has. elim (Contains-append_cases xs ys n has) [
      | inl before ↦ left_of s system n (one.each n before)
      | inr here ↦ right_of s system n (two.each n here)
    ];
    complete = λ slot register space a p is. elim ((either s slot register space a p).0 is) [
      | inl here ↦ has_more xs (xs ++ ys) (Contains-append_left xs ys) slot register (one.complete slot register space a p here)
      | inr there ↦ has_more ys (xs ++ ys) (Contains-append_right xs ys) slot register (two.complete slot register space a p there)
    ];
    pairs = pairs_append Differ xs ys one.pairs two.pairs (λ n m in_xs in_ys. two_differ s system n m (one.each n in_xs) (two.each m in_ys));
  }

  pub both_added : (t : Tree) (a b c : List Needed) → AreNeededAppended A t a b → AreNeededAppended B t b c → AreNeededAppended C t a c
  both_added t a b c one two = record {
    more = one.more ++ two.more;
    appended = two.appended ∙ ap (λ (l : List Needed). l ++ two.more) one.appended ∙ append_assoc a one.more two.more;
    are = λ s tree. both_are s tree.system one.more two.more (one.are s tree) (two.are s tree);
  }

-- where there is none
pub none_added : (W : Which) (t : Tree) → ((s : System) → HasTree t s → (slot : Slot) (register : ℕ) (space : SpaceValue) (a : ℕ) (p : Bool) → W s slot register space a p → ⊥)
    → (list : List Needed) → AreNeededAppended W t list list
none_added W t none list = record {
  more = [];
  appended = sym (append-nil list);
  are = λ s tree. record {
    each = λ n has. absurd (in_nil n has);
    complete = λ slot register space a p is. absurd (none s tree slot register space a p is);
    pairs = pairs_nil Differ;
  };
}

-- where two sources are the same
pub same_added : (A B : Which) (t : Tree)
    → ((s : System) → HasTree t s → (slot : Slot) (register : ℕ) (space : SpaceValue) (a : ℕ) (p : Bool) → A s slot register space a p ↔ B s slot register space a p)
    → (before after : List Needed) → AreNeededAppended A t before after → AreNeededAppended B t before after
same_added A B t same before after added = record {
  more = added.more;
  appended = added.appended;
  are = λ s tree.
      let are = added.are s tree in record {
        each = λ n has. (let one = are.each n has in record {
          slot = one.slot;
          register = one.register;
          some = one.some;
          addresses = one.addresses;
          each = λ a held. (same s tree n.name.slot n.name.register (space_of n.space) a n.prefetch).0 (one.each a held);
          only = λ space a p is. one.only space a p ((same s tree n.name.slot n.name.register space a p).1 is);
        });
        complete = λ slot register space a p is. are.complete slot register space a p ((same s tree slot register space a p).1 is);
        pairs = are.pairs;
      };
}

-- ---- BARs and ROMs of a bus and a space

module _ (s : System) (system : IsSystem s) (bus : ℕ) (space : Space) (regions : List Region) (are : AreRegionsOf s bus (space_of space) regions) where
  abbrev is_one : Region → Bool
  is_one r = not (is_of_window r.part)

  module _ (r : Region) (on : IsRegionOn s bus (space_of space) r) where
    first_claimed : Claims on.f on.part (space_of space) r.first
    first_claimed = (on.is.claims r.first).0 (omega arith, on.is.some)

    register_low : r.reg < 256
    register_low = let low = register_of-lt on.f on.part first_claimed.there in let register = on.is.register in omega (arith, low, register)

    slot_on : r.slot.bus ≡ bus
    slot_on = ap (λ (x : Slot). x.bus) on.is.slot ∙ on.on_bus

    only_here : (sp : SpaceValue) (a : ℕ) (p : Bool) → IsOfBar s r.slot r.reg sp a p → (sp ≡ space_of space) × Holds (needed_of space r).range a × (p ≡ r.prefetch)
    only_here sp a p bar =
        let same = same_region s system bar.f on.f bar.part on.part sp (space_of space) a r.first bar.listed on.listed (bar.named.0 ∙ on.is.slot) (bar.named.1 ∙ on.is.register) bar.claims first_claimed in
        let claims : Claims on.f on.part (space_of space) a =
        subst (λ (x : SpaceValue). Claims on.f on.part x a) same.2 (subst (λ q. Claims on.f q sp a) same.1 (subst (λ f. Claims f bar.part sp a) same.0 bar.claims)) in
        let kind : is_prefetchable_part on.f on.part ≡ p =
        subst (λ q. is_prefetchable_part on.f q ≡ p) same.1 (subst (λ (f : Function). is_prefetchable_part f bar.part ≡ p) same.0 bar.kind) in
        (same.2, (on.is.claims a).1 claims, sym kind ∙ sym on.is.prefetch)

    one_region : is_of_window r.part ≡ false → IsOneOf (IsOfBarAt (IsOnBusIn bus (space_of space))) s (needed_of space r)
    one_region no_window = record {
      slot = subst IsSlot (sym on.is.slot) (slot_of s system on.f on.listed);
      register = (let low = register_low in omega (arith, low));
      some = on.is.some;
      addresses = λ a held. ((on.is.claims a).0 held).address;
      each = λ a held. (
        record {
          f = on.f;
          part = on.part;
          listed = on.listed;
          named = (sym on.is.slot, sym on.is.register);
          no_window = window_named on.part ∙ ap is_of_window (sym on.is.named) ∙ no_window;
          claims = (on.is.claims a).0 held;
          kind = sym on.is.prefetch;
        },
        (slot_on, refl),
      );
      only = λ sp a p is. only_here sp a p is.0;
    }

  each_among : (n : Needed) → Contains (needed_among space regions) n → IsOneOf (IsOfBarAt (IsOnBusIn bus (space_of space))) s n
  each_among n has =
      let made = in_map_to (needed_of space) (filter is_one regions) n has in
      let kept = in_filter_to is_one regions made.from made.has in
      subst (IsOneOf (IsOfBarAt (IsOnBusIn bus (space_of space))) s) made.is (one_region made.from (are.each made.from kept.0) (not-true _ kept.1))

  complete_among : (slot : Slot) (register : ℕ) (sp : SpaceValue) (a : ℕ) (p : Bool) → IsOfBarAt (IsOnBusIn bus (space_of space)) s slot register sp a p → HasName (needed_among space regions) slot register
  complete_among slot register sp a p (bar, at) =
      let found = are.complete bar.f bar.part a bar.listed (ap (λ (x : Slot). x.bus) bar.named.0 ∙ at.0) (subst (λ (x : SpaceValue). Claims bar.f bar.part x a) at.1 bar.claims) in
      record {
        n = needed_of space found.q;
        has = in_map_from (needed_of space) (filter is_one regions) found.q (in_filter_from is_one regions found.q found.has
            (not_from_false _ (ap is_of_window found.is.named ∙ sym (window_named bar.part) ∙ bar.no_window)));
        slot_is = found.is.slot ∙ bar.named.0;
        register_is = found.is.register ∙ bar.named.1;
      }

  regions_differ : AllPairs (λ p q. Differ (needed_of space p) (needed_of space q)) regions
  regions_differ i j d less within same =
      let p = get_or regions i d in
      let q = get_or regions j d in
      let up = are.rising i j d less within in
      let low = register_low p (are.each p (Contains-get_or regions i d (omega (arith, less, within)))) in
      let high = register_low q (are.each q (Contains-get_or regions j d within)) in
      let no : ⊥ = omega (arith, up, same, low, high) in
      no

  among_are : AreJustNeededRegions (IsOfBarAt (IsOnBusIn bus (space_of space))) Differ s (needed_among space regions)
  among_are = record {
    each = each_among;
    complete = complete_among;
    pairs = pairs_map Differ (needed_of space) (filter is_one regions) (pairs_filter (λ p q. Differ (needed_of space p) (needed_of space q)) is_one regions regions_differ);
  }

pub among_added : (t : Tree) (bus : ℕ) (space : Space) (regions : List Region) (before after : List Needed)
    → ((s : System) → HasTree t s → AreRegionsOf s bus (space_of space) regions) → after ≡ before ++ needed_among space regions
    → AreBarsAdded (IsOnBusIn bus (space_of space)) t before after
among_added t bus space regions before after are appended = record { more = needed_among space regions; appended = appended; are = λ s tree. among_are s tree.system bus space regions (are s tree) }

-- ---- BARs and ROMs of all buses

-- a name is of one bus and space
bars_apart : (A B : Where) → ((n : ℕ) (sp : SpaceValue) → A n sp → B n sp → ⊥) → Apart (IsOfBarAt A) (IsOfBarAt B)
bars_apart A B never s system slot register space a p sp b q (x, in_a) (y, in_b) =
    let same = same_region s system x.f y.f x.part y.part space sp a b x.listed y.listed (x.named.0 ∙ sym y.named.0) (x.named.1 ∙ sym y.named.1) x.claims y.claims in
    never slot.bus sp (subst (λ (v : SpaceValue). A slot.bus v) same.2 in_a) in_b

bars_either : (A B C : Where) → ((n : ℕ) (sp : SpaceValue) → C n sp ↔ (A n sp ⊎ B n sp)) → Either (IsOfBarAt A) (IsOfBarAt B) (IsOfBarAt C)
bars_either A B C either s slot register space a p = (
  λ (x, at). elim ((either slot.bus space).0 at) [ inl in_a ↦ inl (x, in_a) | inr in_b ↦ inr (x, in_b) ],
  λ of. elim of [ inl (x, in_a) ↦ (x, (either slot.bus space).1 (inl in_a)) | inr (x, in_b) ↦ (x, (either slot.bus space).1 (inr in_b)) ],
)

module _ (t : Tree) where
  both_bars : (A B C : Where) → ((n : ℕ) (sp : SpaceValue) → A n sp → B n sp → ⊥) → ((n : ℕ) (sp : SpaceValue) → C n sp ↔ (A n sp ⊎ B n sp))
      → (a b c : List Needed) → AreBarsAdded A t a b → AreBarsAdded B t b c → AreBarsAdded C t a c
  both_bars A B C never either a b c one two = both_added (IsOfBarAt A) (IsOfBarAt B) (IsOfBarAt C) (bars_apart A B never) (bars_either A B C either) t a b c one two

  pub both_spaces : (bus : ℕ) (a b c : List Needed) → AreBarsAdded (IsOnBusIn bus Io) t a b → AreBarsAdded (IsOnBusIn bus Memory) t b c → AreBarsAdded (IsOnBus bus) t a c
  both_spaces bus a b c one two = both_bars (IsOnBusIn bus Io) (IsOnBusIn bus Memory) (IsOnBus bus) (not_both_spaces bus) (either_space bus) a b c one two

  pub no_bus : (list : List Needed) → AreBarsAdded (IsBelow 0) t list list
  no_bus list = none_added (IsOfBarAt (IsBelow 0)) t (λ s tree slot register space a p is. (let below = is.1 in let no : ⊥ = omega (arith, below) in no)) list

  pub one_bus_more : (n : ℕ) (a b c : List Needed) → AreBarsAdded (IsBelow n) t a b → AreBarsAdded (IsOnBus n) t b c → AreBarsAdded (IsBelow (n + 1)) t a c
  one_bus_more n a b c one two = both_bars (IsBelow n) (IsOnBus n) (IsBelow (n + 1)) (not_below_and_on n) (below_or_on n) a b c one two

  pub all_buses : (a b : List Needed) → AreBarsAdded (IsBelow 256) t a b → AreNeededAppended IsOfBar t a b
  all_buses a b added = same_added (IsOfBarAt (IsBelow 256)) IsOfBar t (λ s tree slot register space a p. (
    λ is. is.0,
    λ (bar : IsOfBar s slot register space a p). (bar, subst (λ (x : Slot). x.bus < 256) bar.named.0 (slot_of s tree.system bar.f bar.listed).0),
  )) a b added

-- ---- all

-- a BAR's register is below those of told ranges
bars_and_ranges_apart : (told : Told) → Apart IsOfBar (IsOfRange told)
bars_and_ranges_apart told s system slot register space a p sp b q bar range =
    let low = register_of-lt bar.f bar.part bar.claims.there in
    let is = bar.named.1 in
    let high = range.needs.named.register in
    let no : ⊥ = omega (arith, low, is, high) in
    no

-- in order
sorted_are : (W : Which) (t : Tree) (none xs ys : List Needed) → none ≡ [] → AreNeededAppended W t none xs → IsPermutation xs ys → IsNonDecreasingBy needed_place ys
    → (s : System) → HasTree t s → AreJustNeededRegions W (λ n m. needed_place n < needed_place m) s ys
sorted_are W t none xs ys empty added moved sorted s tree =
    let is : xs ≡ added.more = added.appended ∙ ap (λ (l : List Needed). l ++ added.more) empty in
    let all = subst (AreJustNeededRegions W Differ s) (sym is) (added.are s tree) in record {
      each = λ n has. all.each n (Contains-permutation ys xs n (IsPermutation-sym xs ys moved) has);
      complete = λ slot register space a p is. has_more xs ys (λ n has. Contains-permutation xs ys n moved has) slot register (all.complete slot register space a p is);
      pairs = rise_in_order needed_place xs ys all.pairs moved sorted;
    }

pub all_are : (told : Told) (t : Tree) (none bars xs ys : List Needed) → none ≡ [] → AreNeededAppended IsOfBar t none bars → AreNeededAppended (IsOfRange told) t bars xs → IsPermutation xs ys
    → IsNonDecreasingBy needed_place ys → AreAllNeeded told t ys
all_are told t none bars xs ys empty of_bars of_ranges moved sorted s tree =
    sorted_are (IsNeeded told) t none xs ys empty (both_added IsOfBar (IsOfRange told) (IsNeeded told) (bars_and_ranges_apart told) (λ s slot register space a p. (λ x. x, λ x. x)) t none bars xs of_bars of_ranges)
    moved sorted s tree

pub told_are : (told : Told) (t : Tree) (none xs ys : List Needed) → none ≡ [] → AreNeededAppended (IsOfRange told) t none xs → IsPermutation xs ys → IsNonDecreasingBy needed_place ys → AreToldNeeded told t ys
told_are told t none xs ys empty of_ranges moved sorted s tree = sorted_are (IsOfRange told) t none xs ys empty of_ranges moved sorted s tree

-- a told range has just the addresses that have to be sent and reached
pub range_needed : (told : Told) (s : System) → IsSystem s → (n : Needed) → IsOneOf (IsOfRange told) s n → IsOneOf (IsNeeded told) s n
range_needed told = right_of IsOfBar (IsOfRange told) (IsNeeded told) (bars_and_ranges_apart told) (λ s slot register space a p. (λ x. x, λ x. x))
