-- What is there where windows grow stands and is in its reach, and a window holds what is there behind it.
use Rattle.std.proofs.Common.{◌≡◌, ℕ, zero, suc, ◌-◌, ◌*◌, ◌<◌, ◌≤◌, inl, inr, List, [], ◌∷◌, ◌++◌, map, length, Option, None, Some, Bool, true, false, ◌&&◌, not, arith, ap, sym, subst, ◌∙◌, refl}
use Rattle.std.specs.Bool.{nat_le, nat_lt, if◌then◌else◌}
use Rattle.std.specs.List.{Contains}
use Rattle.std.specs.Option.{is_some}
use Rattle.std.proofs.lemmas.Bool.{cases_Bool, false≢true, and_parts, and_from, leb-true, false_from_ne_true}
use Rattle.std.proofs.Math.Nat.{mul-le-mul_right}
use Rattle.std.proofs.lemmas.List.Elements.{Contains-append_cases, Contains-append_left}
use Rattle.pci_spec.specs.Window.{WindowKind, IoWindow, MemoryWindow, PrefetchWindow, base_page, limit_page, has_window, is_closed, page_size}
use Rattle.pci_spec.specs.Decoded.{Range}
use Rattle.pci_spec.specs.System.{System, Function, IsSystem, Part, Bar, Rom, Window, is_bridge, window_space}
use Rattle.pci_spec.specs.Bus.{is_root, secondary, are_siblings, IsNested, LeadsTo}
use Rattle.pci_spec.proofs.Members.{IsMade, IsInPiece, in_nil, in_head, in_tail, in_cons_cases, in_map_to, in_flat_map_to, in_flat_map_from}
use Rattle.plan_spec.specs.Plan.{same_class}
use Rattle.plan_spec.specs.Place.{range_from}
use Rattle.plan_spec.proofs.Planning.PlacedItems.{same_class_is}
use Rattle.settle_spec.specs.FirstPlace.{Extent, else_at, first_place_in}
use Rattle.settle_spec.specs.LastPlace.{last_place_in}
use Rattle.settle_spec.specs.Lists.{Request}
use Rattle.settle_spec.specs.Parts.{FunctionPart, system_parts, addresses, class_in, lies_within, are_same_space}
use Rattle.settle_spec.specs.Stands.{window_part, part_space, stands}
use Rattle.settle_spec.specs.Items.{PlacingItem, Placed, Placing, AllPlaced, Lacks, and_placed, place_next, are_placed, taken_by, bus_items, new_window, has_room, has_room_behind, holds_within, place_each}
use Rattle.settle_spec.specs.Lines.{lines_on, taken_for}
use Rattle.settle_spec.specs.Places.{placed_of}
use Rattle.settle_spec.specs.Reach.{reach}
use Rattle.settle_spec.specs.Growth.{place_around, grown_to, grown_around, range_list, there_on, taken_around, window_comes_to, part_comes_to, is_clear, there_if, there_beside, there_within, there, comes_to}
use Rattle.settle_spec.specs.GrowthLaws.{CanReach}
use Rattle.settle_spec.proofs.FirstPlace.{in_is}
use Rattle.settle_spec.proofs.LastSpot.{place_gives, last_is_place}
use Rattle.settle_spec.proofs.Nested.{at_secondary, is_no_root, on_it}
use Rattle.settle_spec.proofs.Outward.{grown_holds_each, grown_is_in_reach}
use Rattle.settle_spec.proofs.Reaching.{LiesIn, lies_in_trans, within_gives, within_from}
use Rattle.settle_laws.specs.Reach.{WindowsAreLow, IsStandingWindow}
use Rattle.settle_laws.specs.There.{ItemsAreAligned, part_reach, IsInReach}
use Rattle.settle_laws.proofs.Standing.{part_of}
use Rattle.settle_laws.proofs.Apart.{in_window_over}
use Rattle.settle_laws.proofs.Holding.{holds_step}
use Rattle.settle_laws.proofs.Reach.{some_is, reaches_are_around, reaches_nest}

-- ---- places around a window

place_in_reach : (w around : Range) (taken : List Range) (e : Extent) (a : ℕ) → 0 < e.alignment → w.first ≤ w.last → w.last ≤ around.last → around.first ≤ w.first → place_around w around taken e ≡ Some a
    → LiesIn (range_from a e.size) around
place_in_reach w around taken e a pos forward high low found = by (first_place_in up taken e) refl
  where
    up : Range
    up = record { first = w.first; last = around.last }

    under : Range
    under = record { first = around.first; last = w.first - 1 }

    rest : Bool → Option ℕ
    rest b = if b then last_place_in under taken e else None

    by_rest : (b : Bool) → rest b ≡ Some a → LiesIn (range_from a e.size) around
    by_rest true is =
        let at = place_gives under taken e a (last_is_place under taken e a is) in
        let from = at.from in
        let last = at.last in
        record { first = from; last = omega (arith, last, forward, high) }
    by_rest false is = absurd (false≢true (ap is_some is))

    by : (o : Option ℕ) → first_place_in up taken e ≡ o → LiesIn (range_from a e.size) around
    by None none = by_rest (nat_lt around.first w.first) (sym (ap (λ o. else_at o (rest (nat_lt around.first w.first))) none) ∙ found)
    by (Some b) some =
        let is = sym (ap (λ o. else_at o (rest (nat_lt around.first w.first))) some) ∙ found in
        let at = place_gives up taken e a (in_is up taken e pos a (some ∙ is)).place in
        let from = at.from in
        let last = at.last in
        record { first = omega (arith, from, low); last = last }

-- ---- each item has the place that was found for it

pub record IsFoundPlace (find : PlacingItem → List Range → Option ℕ) (items : List PlacingItem) (p : Placed) : Type 0 where
  pub taken : List Range
  pub found : find p.item taken ≡ Some p.at
  pub listed : Contains items p.item

abbrev first_of : PlacingItem → ℕ → Placed
first_of i a = record { item = i; at = a }

pub each_found : (find : PlacingItem → List Range → Option ℕ) (taken : List Range) (items : List PlacingItem) (placed : List Placed) → place_each find taken items ≡ AllPlaced placed
    → (p : Placed) → Contains placed p → IsFoundPlace find items p
each_found find taken [] placed all p has = absurd (in_nil p (subst (λ l. Contains l p) (sym (ap placed_of all)) has))
each_found find taken (i ∷ items) placed all p has = by (find i taken) refl (λ taken placed all p has. each_found find taken items placed all p has)
  where
    more : ℕ → Placing
    more a = place_each find (taken_by i a ∷ taken) items

    by : (o : Option ℕ) → find i taken ≡ o
        → ((taken : List Range) (placed : List Placed) → place_each find taken items ≡ AllPlaced placed → (p : Placed) → Contains placed p → IsFoundPlace find items p) → IsFoundPlace find (i ∷ items) p
    by None none again = absurd (false≢true (ap are_placed (sym (ap (λ o. place_next i o more) none) ∙ all)))
    by (Some a) some again = by_more (more a) refl (sym (ap (λ o. place_next i o more) some) ∙ all)
      where
        by_more : (m : Placing) → more a ≡ m → and_placed i a (more a) ≡ AllPlaced placed → IsFoundPlace find (i ∷ items) p
        by_more (Lacks j) is_more is = absurd (false≢true (ap are_placed (sym (ap (and_placed i a) is_more) ∙ is)))
        by_more (AllPlaced later) is_more is =
            let list : first_of i a ∷ later ≡ placed = ap placed_of (sym (ap (and_placed i a) is_more) ∙ is) in
            elim (in_cons_cases (first_of i a) later p (subst (λ l. Contains l p) (sym list) has)) [
              | inl here ↦ subst (IsFoundPlace find (i ∷ items)) here (record { taken = taken; found = some; listed = in_head i items })
              | inr further ↦
                  let rest = again (taken_by i a ∷ taken) later is_more p further in
                  record { taken = rest.taken; found = rest.found; listed = in_tail i items p.item rest.listed }
            ]

-- ---- what is there on a bus

pub record IsThereOn (q : Request) (s : System) (there : FunctionPart → Option Range) (test : FunctionPart → Bool) (bus : ℕ) (x : Range) : Type 0 where
  pub part : FunctionPart
  pub listed : Contains (system_parts q s) part
  pub beside : are_siblings q.roots bus part.function.slot.bus ≡ true
  pub passes : test part ≡ true
  pub is : there part ≡ Some x

in_range_list : (o : Option Range) (x : Range) → Contains (range_list o) x → o ≡ Some x
in_range_list None x has = absurd (in_nil x has)
in_range_list (Some y) x has = elim (in_cons_cases y [] x has) [ inl here ↦ ap Some here | inr none ↦ absurd (in_nil x none) ]

module _ (q : Request) (s : System) (there : FunctionPart → Option Range) (test : FunctionPart → Bool) (bus : ℕ) where
  abbrev piece : FunctionPart → List Range
  piece r = if are_siblings q.roots bus r.function.slot.bus && test r then range_list (there r) else []

  pub there_on_gives : (x : Range) → Contains (there_on q s there test bus) x → IsThereOn q s there test bus x
  there_on_gives x has =
      let at : IsInPiece piece (system_parts q s) x = in_flat_map_to piece (system_parts q s) x has in
      of at.of at.has at.piece
    where
      of : (r : FunctionPart) → Contains (system_parts q s) r → Contains (piece r) x → IsThereOn q s there test bus x
      of r listed has = elim (cases_Bool (are_siblings q.roots bus r.function.slot.bus && test r)) [
        | inl on ↦
            let parts = and_parts (are_siblings q.roots bus r.function.slot.bus) (test r) on in
            record {
              part = r;
              listed = listed;
              beside = parts.0;
              passes = parts.1;
              is = in_range_list (there r) x (subst (λ b. Contains (if b then range_list (there r) else []) x) on has);
            }
        | inr off ↦ absurd (in_nil x (subst (λ b. Contains (if b then range_list (there r) else []) x) off has))
      ]

  pub there_on_from : (r : FunctionPart) (x : Range) → Contains (system_parts q s) r → are_siblings q.roots bus r.function.slot.bus ≡ true → test r ≡ true → there r ≡ Some x → Contains (there_on q s there test bus) x
  there_on_from r x listed beside passes is =
      in_flat_map_from piece (system_parts q s) r x listed
      (subst (λ b. Contains (if b then range_list (there r) else []) x) (sym (and_from (are_siblings q.roots bus r.function.slot.bus) (test r) beside passes))
      (subst (λ o. Contains (range_list o) x) (sym is) (in_head x [])))

-- ---- what a window comes to holds what is there behind it

pub class_itself : (c : WindowKind) → same_class c c ≡ true
class_itself IoWindow = refl
class_itself MemoryWindow = refl
class_itself PrefetchWindow = refl

around_holds : (c : WindowKind) (w : Range) (others : List Range) (p : Placing) (g x : Range) → grown_around c w others p ≡ Some g → Contains others x → lies_within x g ≡ true
around_holds c w others (Lacks i) g x is has = absurd (false≢true (ap is_some is))
around_holds c w others (AllPlaced placed) g x is has =
    let all = others ++ map (λ (p : Placed). taken_by p.item p.at) placed in
    subst (λ t. lies_within x t ≡ true) (some_is (grown_to c w all) g is) (grown_holds_each c w all x (Contains-append_left others (map (λ (p : Placed). taken_by p.item p.at) placed) x has))

module _ (q : Request) (s : System) where
  -- ---- one step

  pub stands_where_holds : (r : FunctionPart) → has_room_behind q s r ≡ true → stands q s r ≡ true
  stands_where_holds r holds = (and_parts (stands q s r) (has_room q s (holds_within q s 255) r.function r.part) (sym (holds_step q s 255 r) ∙ holds)).0

  pub beside_zero : (comes : FunctionPart → Option Range) (r : FunctionPart) → there_beside q s comes 0 r ≡ None
  unfolding there_beside
  beside_zero comes r = refl

  pub beside_next : (comes : FunctionPart → Option Range) (n : ℕ) (r : FunctionPart) → there_beside q s comes (suc n) r ≡ there_if q s comes (there_beside q s comes n) r
  unfolding there_beside
  beside_next comes n r = refl

  pub within_zero : (r : FunctionPart) → there_within q s 0 r ≡ None
  unfolding there_within
  within_zero r = refl

  pub within_next : (depth : ℕ) (r : FunctionPart) → there_within q s (suc depth) r ≡ there_beside q s (λ r. part_comes_to q s (there_within q s depth) r.function r.part) (length (system_parts q s)) r
  unfolding there_within
  within_next depth r = refl

  pub comes_to_holds : (c : WindowKind) (b : Function) (g : Range) (r : FunctionPart) (x : Range) → comes_to q s (window_part c b) ≡ Some g → Contains (system_parts q s) r
      → are_siblings q.roots (secondary b) r.function.slot.bus ≡ true → class_in q s r.function r.part ≡ c → there q s r ≡ Some x → lies_within x g ≡ true
  comes_to_holds c b g r x comes listed beside class is = by (stands q s (window_part c b)) comes
    where
      test : FunctionPart → Bool
      test r = same_class c (class_in q s r.function r.part)

      has : Contains (there_on q s (there q s) (λ r. same_class c (class_in q s r.function r.part)) (secondary b)) x
      has = there_on_from q s (there q s) (λ r. same_class c (class_in q s r.function r.part)) (secondary b) r x listed beside (ap (same_class c) class ∙ class_itself c) is

      by : (stand : Bool) → (if stand then window_comes_to q s (there q s) c b else None) ≡ Some g → lies_within x g ≡ true
      by true is = around_holds c (addresses (window_part c b)) (there_on q s (there q s) (λ r. same_class c (class_in q s r.function r.part)) (secondary b)) (taken_around q s (there q s) c b) g x is has
      by false is = absurd (false≢true (ap is_some is))

  -- ---- what is there is in its reach

  module _ (system : IsSystem s) (nested : IsNested q.roots s) (low : WindowsAreLow q s) (aligned : ItemsAreAligned q s) where
    pub record IsOpen (c : WindowKind) (b : Function) : Type 0 where
      pub listed : Contains s b
      pub bridge : is_bridge b ≡ true
      pub forward : (addresses (window_part c b)).first ≤ (addresses (window_part c b)).last

    pub opened : (c : WindowKind) (b : Function) → IsStandingWindow q s c b → IsOpen c b
    opened c b is =
        let of = part_of q s (window_part c b) is.part in
        let outer = and_parts (is_bridge b && has_window c b.probe) (not (is_closed c b.image)) of.is in
        let le = leb-true (base_page c b.image) (limit_page c b.image) (not_not (nat_le (base_page c b.image) (limit_page c b.image)) outer.1) in
        let step : base_page c b.image * page_size c ≤ limit_page c b.image * page_size c = mul-le-mul_right (page_size c) le in
        record {
          listed = of.listed;
          bridge = (and_parts (is_bridge b) (has_window c b.probe) outer.0).0;
          forward = omega (arith, step);
        }
      where
        not_not : (b : Bool) → not (not b) ≡ true → b ≡ true
        not_not true e = refl
        not_not false e = e

    abbrev InReach : (FunctionPart → Option Range) → Type 0
    InReach there = (f : Function) (p : Part) (x : Range) → Contains (system_parts q s) (record { function = f; part = p }) → there (record { function = f; part = p }) ≡ Some x → IsInReach q s (record { function = f; part = p }) x

    module _ (there : FunctionPart → Option Range) (within : InReach there) (c : WindowKind) (b : Function) (is : IsStandingWindow q s c b) where
      can : CanReach c (addresses (window_part c b)) (reach q s c b)
      can = reaches_are_around q s c nested system low b is

      behind_in : (f : Function) (p : Part) (x : Range) → Contains (system_parts q s) (record { function = f; part = p }) → are_siblings q.roots (secondary b) f.slot.bus ≡ true → class_in q s f p ≡ c
          → there (record { function = f; part = p }) ≡ Some x → LiesIn x (reach q s c b)
      behind_in f p x listed beside class here =
          let at = within f p x listed here in
          let on = on_it q.roots s system nested b f.slot.bus (opened c b is).listed (opened c b is).bridge beside in
          let leads : LeadsTo s b f.slot.bus = ((opened c b is).listed, (opened c b is).bridge, on) in
          let off = false_from_ne_true (is_root q.roots f.slot.bus) (is_no_root q.roots s system nested b f.slot.bus (opened c b is).listed (opened c b is).bridge (at_secondary q.roots s system nested b f.slot.bus (opened c b is).listed (opened c b is).bridge on)) in
          lies_in_trans x (part_reach q s f p) (reach q s c b) (within_gives x (part_reach q s f p) at.within) (of p listed class at.stands off leads)
        where
          own : (p : Part) → Contains (system_parts q s) (record { function = f; part = p }) → class_in q s f p ≡ c → stands q s (record { function = f; part = p }) ≡ true → is_root q.roots f.slot.bus ≡ false → LeadsTo s b f.slot.bus
              → LiesIn (addresses (record { function = f; part = p })) (reach q s c b)
          own p listed class stand off leads =
              let over = in_window_over q s nested (record { function = f; part = p }) listed stand b system off leads in
              let inside = subst (λ c. lies_within (addresses (record { function = f; part = p })) (addresses (window_part c b)) ≡ true) class over.0 in
              let first = can.first in
              let last = can.last in
              lies_in_trans (addresses (record { function = f; part = p })) (addresses (window_part c b)) (reach q s c b)
              (within_gives (addresses (record { function = f; part = p })) (addresses (window_part c b)) inside) (record { first = first; last = last })

          of : (p : Part) → Contains (system_parts q s) (record { function = f; part = p }) → class_in q s f p ≡ c → stands q s (record { function = f; part = p }) ≡ true → is_root q.roots f.slot.bus ≡ false → LeadsTo s b f.slot.bus
              → LiesIn (part_reach q s f p) (reach q s c b)
          of (Window d) listed class stand off leads =
              subst (λ k. LiesIn (reach q s d f) (reach q s k b)) class
              (within_gives (reach q s d f) (reach q s d b) (reaches_nest q s d nested system low f b (record { part = listed; stands = stand }) off leads))
          of (Bar n) listed class stand off leads = own (Bar n) listed class stand off leads
          of Rom listed class stand off leads = own Rom listed class stand off leads

      comes_in : (g : Range) → window_comes_to q s there c b ≡ Some g → lies_within g (reach q s c b) ≡ true
      comes_in g found = by (taken_around q s there c b) refl found
        where
          w : Range
          w = addresses (window_part c b)

          others : List Range
          others = there_on q s there (λ r. same_class c (class_in q s r.function r.part)) (secondary b)

          items : List PlacingItem
          items = bus_items q s c (λ r. is_some (there r)) (new_window q s c) (secondary b)

          find : PlacingItem → List Range → Option ℕ
          find i taken = place_around (addresses (window_part c b)) (reach q s c b) (taken_for q i.region taken) i.extent

          of_other : (t : Range) → Contains others t → lies_within t (reach q s c b) ≡ true
          of_other t has =
              let at = there_on_gives q s there (λ r. same_class c (class_in q s r.function r.part)) (secondary b) t has in
              within_from t (reach q s c b) (behind_in at.part.function at.part.part t at.listed at.beside (same_class_is c (class_in q s at.part.function at.part.part) at.passes) at.is)

          of_placed : (placed : List Placed) → taken_around q s there c b ≡ AllPlaced placed → (t : Range) → Contains (map (λ (p : Placed). taken_by p.item p.at) placed) t → lies_within t (reach q s c b) ≡ true
          of_placed placed all t has =
              let made : IsMade (λ (p : Placed). taken_by p.item p.at) placed t = in_map_to (λ (p : Placed). taken_by p.item p.at) placed t has in
              let p = made.from in
              let at = each_found find (lines_on q (window_space c) (secondary b) ++ there_on q s there (λ r. are_same_space (window_space c) (part_space r)) (secondary b)) items placed all p made.has in
              let pos = aligned c (λ r. is_some (there r)) (secondary b) p.item at.listed in
              let inside = place_in_reach (addresses (window_part c b)) (reach q s c b) (taken_for q p.item.region at.taken) p.item.extent p.at pos (opened c b is).forward can.last can.first at.found in
              subst (λ t. lies_within t (reach q s c b) ≡ true) made.is (within_from (taken_by p.item p.at) (reach q s c b) inside)

          by : (p : Placing) → taken_around q s there c b ≡ p → grown_around c (addresses (window_part c b)) others (taken_around q s there c b) ≡ Some g → lies_within g (reach q s c b) ≡ true
          by (Lacks i) lacks is_some_g = absurd (false≢true (ap is_some (sym (ap (grown_around c (addresses (window_part c b)) others) lacks) ∙ is_some_g)))
          by (AllPlaced placed) all is_some_g =
              let list = others ++ map (λ (p : Placed). taken_by p.item p.at) placed in
              subst (λ t. lies_within t (reach q s c b) ≡ true) (some_is (grown_to c (addresses (window_part c b)) list) g (sym (ap (grown_around c (addresses (window_part c b)) others) all) ∙ is_some_g))
              (grown_is_in_reach c (addresses (window_part c b)) (reach q s c b) list can (λ t listed. elim (Contains-append_cases others (map (λ (p : Placed). taken_by p.item p.at) placed) t listed) [
                | inl other ↦ of_other t other
                | inr place ↦ of_placed placed all t place
              ]))

    -- ---- bus by bus, and on a bus part by part

    own_in_reach : (f : Function) (p : Part) → Contains (system_parts q s) (record { function = f; part = p }) → stands q s (record { function = f; part = p }) ≡ true
        → lies_within (addresses (record { function = f; part = p })) (part_reach q s f p) ≡ true
    own_in_reach f (Window c) listed stand =
        let can = reaches_are_around q s c nested system low f (record { part = listed; stands = stand }) in
        let first = can.first in
        let last = can.last in
        within_from (addresses (window_part c f)) (reach q s c f) (record { first = first; last = last })
    own_in_reach f (Bar n) listed stand = within_from (addresses (record { function = f; part = Bar n })) (addresses (record { function = f; part = Bar n })) (record { first = omega arith; last = omega arith })
    own_in_reach f Rom listed stand = within_from (addresses (record { function = f; part = Rom })) (addresses (record { function = f; part = Rom })) (record { first = omega arith; last = omega arith })

    part_in : (behind : FunctionPart → Option Range) → InReach behind → (f : Function) (p : Part) (x : Range) → Contains (system_parts q s) (record { function = f; part = p }) → part_comes_to q s behind f p ≡ Some x
        → IsInReach q s (record { function = f; part = p }) x
    part_in behind within f (Window c) x listed found = by (stands q s (window_part c f)) refl found
      where
        by : (stand : Bool) → stands q s (window_part c f) ≡ stand → (if stand then window_comes_to q s behind c f else None) ≡ Some x → IsInReach q s (window_part c f) x
        by true stand is = record { stands = stand; within = comes_in behind within c f (record { part = listed; stands = stand }) x is }
        by false stand is = absurd (false≢true (ap is_some is))
    part_in behind within f (Bar n) x listed found = absurd (false≢true (ap is_some found))
    part_in behind within f Rom x listed found = absurd (false≢true (ap is_some found))

    if_in : (behind before : FunctionPart → Option Range) → InReach behind → (f : Function) (p : Part) (x : Range) → Contains (system_parts q s) (record { function = f; part = p })
        → there_if q s (λ r. part_comes_to q s behind r.function r.part) before (record { function = f; part = p }) ≡ Some x → IsInReach q s (record { function = f; part = p }) x
    if_in behind before within f p x listed found =
        by (is_clear q s before (record { function = f; part = p }) (part_comes_to q s behind f p)) (has_room_behind q s (record { function = f; part = p })) refl found
      where
        r : FunctionPart
        r = record { function = f; part = p }

        by : (clear holds : Bool) → has_room_behind q s (record { function = f; part = p }) ≡ holds → (if clear then part_comes_to q s behind f p else if holds then Some (addresses (record { function = f; part = p })) else None) ≡ Some x
            → IsInReach q s (record { function = f; part = p }) x
        by true holds is_holding is = part_in behind within f p x listed is
        by false true is_holding is =
            let stand = stands_where_holds (record { function = f; part = p }) is_holding in
            record {
              stands = stand;
              within = subst (λ t. lies_within t (part_reach q s f p) ≡ true) (some_is (addresses (record { function = f; part = p })) x is) (own_in_reach f p listed stand);
            }
        by false false is_holding is = absurd (false≢true (ap is_some is))

    beside_in : (behind : FunctionPart → Option Range) → InReach behind → (n : ℕ) → InReach (there_beside q s (λ r. part_comes_to q s behind r.function r.part) n)
    beside_in behind within zero f p x listed found = absurd (false≢true (ap is_some (sym (beside_zero (λ r. part_comes_to q s behind r.function r.part) (record { function = f; part = p })) ∙ found)))
    beside_in behind within (suc n) f p x listed found =
        if_in behind (there_beside q s (λ r. part_comes_to q s behind r.function r.part) n) within f p x listed
        (sym (beside_next (λ r. part_comes_to q s behind r.function r.part) n (record { function = f; part = p })) ∙ found)

    all_in : (depth : ℕ) → InReach (there_within q s depth)
    all_in zero f p x listed found = absurd (false≢true (ap is_some (sym (within_zero (record { function = f; part = p })) ∙ found)))
    all_in (suc depth) f p x listed found =
        beside_in (there_within q s depth) (all_in depth) (length (system_parts q s)) f p x listed (sym (within_next depth (record { function = f; part = p })) ∙ found)

    pub there_is_in_reach : (r : FunctionPart) (x : Range) → Contains (system_parts q s) r → there q s r ≡ Some x → IsInReach q s r x
    there_is_in_reach r x listed found = all_in 256 r.function r.part x listed found
