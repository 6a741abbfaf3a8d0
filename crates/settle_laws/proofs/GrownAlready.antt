-- Where every part stands, each window comes to just what it has, so none grows.
use Rattle.std.proofs.Common.{◌≡◌, ℕ, zero, suc, ◌+◌, ◌<◌, ◌≤◌, inl, inr, List, [], ◌∷◌, ◌++◌, None, Some, true, false, arith, ap, sym, subst, ◌∙◌, refl}
use Rattle.std.specs.Bool.{if◌then◌else◌}
use Rattle.std.specs.List.{Contains}
use Rattle.std.specs.Option.{is_some}
use Rattle.std.proofs.lemmas.Bool.{cases_Bool, false≢true, and_parts}
use Rattle.pci_spec.specs.Window.{WindowKind}
use Rattle.pci_spec.specs.Decoded.{Range}
use Rattle.pci_spec.specs.System.{System, Function, IsSystem, Part, Bar, Rom, Window, is_bridge, window_space}
use Rattle.pci_spec.specs.Bus.{is_root, secondary, are_siblings, IsNested}
use Rattle.plan_spec.specs.Plan.{same_class}
use Rattle.plan_spec.proofs.Planning.PlacedItems.{same_class_is}
use Rattle.plan_spec.proofs.Planning.Safe.{slots_of, order_of}
use Rattle.settle_spec.specs.Lines.{lines_on, taken_for}
use Rattle.settle_spec.specs.Lists.{Request}
use Rattle.settle_spec.specs.Parts.{FunctionPart, system_parts, header_parts, addresses, class_in, lies_within, are_same_space}
use Rattle.settle_spec.specs.Stands.{window_part, part_space, stands}
use Rattle.settle_spec.specs.Items.{bus_items, new_window, place_each}
use Rattle.settle_spec.specs.Reach.{reach}
use Rattle.settle_spec.specs.Growth.{place_around, grown_to, grown_around, there_on, window_comes_to, there, comes_to, takes_growth, has_grown}
use Rattle.settle_spec.specs.Kept.{range_growing}
use Rattle.settle_spec.proofs.Grown.{grown_holds}
use Rattle.settle_spec.proofs.Nested.{on_it}
use Rattle.settle_spec.proofs.Outward.{grown_is_in_reach}
use Rattle.settle_spec.proofs.Reaching.{within_gives, window_first, window_last}
use Rattle.settle_laws.proofs.Apart.{in_window_over}
use Rattle.settle_laws.proofs.GrowingKept.{taking, grown_takes, grown_range, same_range, there_taking, there_else}
use Rattle.settle_laws.proofs.Holding.{items_same_on}
use Rattle.settle_laws.proofs.Reach.{some_is}
use Rattle.settle_laws.proofs.Standing.{part_of, stands_by_itself}
use Rattle.settle_laws.proofs.There.{there_on_gives}
use Rattle.settle_laws.proofs.ThereAlone.{unstanding}
use Rattle.settle_laws.proofs.AllStand.{no_items, all_hold}
use Rattle.settle_laws.proofs.Kept.{in_regions, off_roots}

same_ends : (r t : Range) → r.first ≡ t.first → r.last ≡ t.last → r ≡ t
same_ends r t first last = λ i. record { first = first i; last = last i }

-- one that holds nothing outside comes to itself
grown_same : (c : WindowKind) (b : Function) (others : List Range) → ((t : Range) → Contains others t → lies_within t (addresses (window_part c b)) ≡ true) → grown_to c (addresses (window_part c b)) others ≡ addresses (window_part c b)
grown_same c b others each =
    let w = addresses (window_part c b) in
    let g = grown_to c w others in
    let inner = within_gives g w (grown_is_in_reach c w w others record {
      first = omega arith;
      last = omega arith;
      first_page = window_first c b;
      last_page = window_last c b;
      first_half = omega arith;
      last_half = omega arith;
    } each) in
    let outer = within_gives w g (grown_holds c w others) in
    let a = inner.first in
    let e = inner.last in
    let d = outer.first in
    let f = outer.last in
    let first : g.first ≡ w.first = omega (arith, a, d) in
    let last : g.last ≡ w.last = omega (arith, e, f) in
    same_ends g w first last

append_none : (xs : List Range) → xs ++ [] ≡ xs
append_none [] = refl
append_none (x ∷ xs) = ap (λ ys. x ∷ ys) (append_none xs)

module _ (q : Request) (s : System) (system : IsSystem s) (nested : IsNested q.roots s) (all : (r : FunctionPart) → Contains (system_parts q s) r → stands q s r ≡ true) where
  -- parts are there with what they have from a bus on
  abbrev AreThere : ℕ → Type 0
  AreThere bus = (r : FunctionPart) → Contains (system_parts q s) r → bus < r.function.slot.bus → there q s r ≡ Some (addresses r)

  module _ (c : WindowKind) (b : Function) (listed : Contains (system_parts q s) (window_part c b)) (behind : AreThere b.slot.bus) where
    abbrev w : Range
    w = addresses (window_part c b)

    in_b : Contains s b
    in_b = (part_of q s (window_part c b) listed).listed

    bridge : is_bridge b ≡ true
    bridge = (and_parts (is_bridge b) _ (and_parts _ _ (part_of q s (window_part c b) listed).is).0).0

    further : (r : FunctionPart) → are_siblings q.roots (secondary b) r.function.slot.bus ≡ true → b.slot.bus < r.function.slot.bus
    further r beside =
        let on = on_it q.roots s system nested b r.function.slot.bus in_b bridge beside in
        let up = order_of q.roots s nested b in_b bridge in
        omega (arith, on, up)

    is_there : (t : FunctionPart) → Contains s t.function → Contains (header_parts t.function) t.part → are_siblings q.roots (secondary b) t.function.slot.bus ≡ true → class_in q s t.function t.part ≡ c → is_some (there q s t) ≡ stands q s t
    is_there t in_t there_t beside class = elim (cases_Bool (stands q s t)) [
      | inl stand ↦
          let has = in_regions q s t.function t.part in_t there_t ((stands_by_itself q s nested).only t in_t stand) in
          ap is_some (behind t has (further t beside)) ∙ sym stand
      | inr off ↦ ap is_some (unstanding q s system nested t in_t off) ∙ sym off
    ]

    none_to_place : bus_items q s c (λ r. is_some (there q s r)) (new_window q s c) (secondary b) ≡ []
    none_to_place = items_same_on q s (λ r. is_some (there q s r)) (stands q s) (secondary b) c is_there ∙ no_items q s system nested all (stands q s) all c (secondary b)

    abbrev others : List Range
    others = there_on q s (there q s) (λ r. same_class c (class_in q s r.function r.part)) (secondary b)

    -- what is there behind it lies in it
    other_in : (t : Range) → Contains others t → lies_within t w ≡ true
    other_in t has =
        let is = there_on_gives q s (there q s) (λ r. same_class c (class_in q s r.function r.part)) (secondary b) t has in
        let r = is.part in
        let on = on_it q.roots s system nested b r.function.slot.bus in_b bridge is.beside in
        let off = subst (λ n. is_root q.roots n ≡ false) on (off_roots q s system nested b in_b bridge) in
        let over = in_window_over q s nested r is.listed (all r is.listed) b system off (in_b, bridge, on) in
        let same : addresses r ≡ t = some_is (addresses r) t (sym (behind r is.listed (further r is.beside)) ∙ is.is) in
        subst (λ x. lies_within x w ≡ true) same
        (subst (λ d. lies_within (addresses r) (addresses (window_part d b)) ≡ true) (same_class_is c (class_in q s r.function r.part) is.passes) over.0)

    comes_same : comes_to q s (window_part c b) ≡ Some w
    comes_same =
        ap (λ t. if t then window_comes_to q s (there q s) c b else None) (all (window_part c b) listed)
        ∙ ap (λ items. grown_around c (addresses (window_part c b)) (there_on q s (there q s) (λ r. same_class c (class_in q s r.function r.part)) (secondary b))
        (place_each (λ i taken. place_around (addresses (window_part c b)) (reach q s c b) (taken_for q i.region taken) i.extent) (lines_on q (window_space c) (secondary b) ++ there_on q s (there q s) (λ r. are_same_space (window_space c) (part_space r)) (secondary b)) items)) none_to_place
        ∙ ap (λ list. Some (grown_to c (addresses (window_part c b)) list)) (append_none others)
        ∙ ap Some (grown_same c b others other_in)

  -- ---- from the highest bus down

  one_there : (r : FunctionPart) → Contains (system_parts q s) r → AreThere r.function.slot.bus → there q s r ≡ Some (addresses r)
  one_there r listed behind = elim (cases_Bool (takes_growth q s r)) [
    | inl taken ↦ there_taking q s system nested r listed taken ∙ by r.function r.part listed behind taken
    | inr off ↦ there_else q s system nested r listed off ∙ ap (λ b. if b then Some (addresses r) else None) (all_hold q s system nested all r listed)
  ]
    where
      by : (f : Function) (p : Part) → Contains (system_parts q s) (record { function = f; part = p }) → AreThere f.slot.bus → takes_growth q s (record { function = f; part = p }) ≡ true → comes_to q s (record { function = f; part = p }) ≡ Some (addresses (record { function = f; part = p }))
      by f (Window c) listed behind taken = comes_same c f listed behind
      by f (Bar n) listed behind taken = absurd (false≢true (ap is_some (taking q s (record { function = f; part = Bar n }) taken).comes))
      by f Rom listed behind taken = absurd (false≢true (ap is_some (taking q s (record { function = f; part = Rom }) taken).comes))

  there_from : (n : ℕ) (r : FunctionPart) → Contains (system_parts q s) r → 256 ≤ r.function.slot.bus + n → there q s r ≡ Some (addresses r)
  there_from zero r listed far = absurd (let low = (slots_of s system r.function (part_of q s r listed).listed).0 in let no : ⊥ = omega (arith, low, far) in no)
  there_from (suc n) r listed far = one_there r listed (λ t in_t up. there_from n t in_t (omega (arith, far, up)))

  all_there : (bus : ℕ) → AreThere bus
  all_there bus r listed up = there_from 256 r listed (omega arith)

  -- The law: each part has the addresses that it had.
  pub none_grows : (r : FunctionPart) → Contains (system_parts q s) r → range_growing q s r ≡ addresses r
  none_grows r listed = elim (cases_Bool (has_grown q s r)) [
    | inr off ↦ same_range q s r off
    | inl grown ↦
        let taken = grown_takes q s r grown in
        let here = there_from 256 r listed (omega arith) in
        grown_range q s r (addresses r) grown (sym (there_taking q s system nested r listed taken) ∙ here)
  ]
