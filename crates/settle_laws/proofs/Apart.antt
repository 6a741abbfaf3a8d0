-- What stands is apart from what is beside it, and lies in the lists of its root or the window over it.
use Rattle.std.proofs.Common.{◌≡◌, ◌≢◌, ℕ, inl, inr, List, Bool, true, false, cond, ◌&&◌, ◌||◌, not, sym, ◌∙◌, ap, refl}
use Rattle.std.specs.Bool.{nat_lt, ◌==◌}
use Rattle.std.specs.List.{Contains, list_all}
use Rattle.std.proofs.lemmas.Bool.{cases_Bool, and_parts, and_from, or_cases, or_left, or_right, eqb-true, eq-eqb, both_ways, not_from_true}
use Rattle.pci_spec.specs.System.{System, Function, Space, Io, Memory, IsSystem}
use Rattle.pci_spec.specs.Bus.{is_root, are_siblings, IsNested, LeadsTo}
use Rattle.pci_spec.proofs.BusRanges.{all_gives}
use Rattle.settle_spec.specs.FirstPlace.{ranges_are_apart}
use Rattle.settle_spec.specs.Lists.{Request}
use Rattle.settle_spec.specs.Parts.{FunctionPart, system_parts, addresses, is_part, lies_within, class_in, bridge_over, are_same_space}
use Rattle.settle_spec.specs.Stands.{rank, part_space, are_beside, is_in_lists, is_in_window, is_in_place, window_part, takes_from, stands, told_part_precedes}
use Rattle.settle_spec.proofs.BridgeOver.{over_is}
use Rattle.settle_laws.proofs.Order.{precedes_else}
use Rattle.settle_laws.proofs.Standing.{stands_is, allowed}

pub siblings_back : (roots : List ℕ) (bus other : ℕ) → are_siblings roots bus other ≡ true → are_siblings roots other bus ≡ true
siblings_back roots bus other beside = elim (or_cases (bus == other) (is_root roots bus && is_root roots other) beside) [
  | inl same ↦ or_left (other == bus) (is_root roots other && is_root roots bus) (eq-eqb other bus (sym (eqb-true bus other same)))
  | inr both ↦
      let parts = and_parts (is_root roots bus) (is_root roots other) both in
      or_right (other == bus) (is_root roots other && is_root roots bus) (and_from (is_root roots other) (is_root roots bus) parts.1 parts.0)
]

pub space_back : (a b : Space) → are_same_space a b ≡ true → are_same_space b a ≡ true
space_back Io Io same = refl
space_back Io Memory same = absurd (both_ways false refl same)
space_back Memory Io same = absurd (both_ways false refl same)
space_back Memory Memory same = refl

pub or_swap : (x y : Bool) → (x || y) ≡ (y || x)
or_swap true true = refl
or_swap true false = refl
or_swap false true = refl
or_swap false false = refl

module _ (q : Request) (s : System) where
  pub beside_back : (r t : FunctionPart) → are_beside q r t ≡ true → are_beside q t r ≡ true
  beside_back r t beside =
      let parts = and_parts (are_siblings q.roots r.function.slot.bus t.function.slot.bus) (are_same_space (part_space r) (part_space t)) beside in
      and_from (are_siblings q.roots t.function.slot.bus r.function.slot.bus) (are_same_space (part_space t) (part_space r))
      (siblings_back q.roots r.function.slot.bus t.function.slot.bus parts.0) (space_back (part_space r) (part_space t) parts.1)

  module _ (nested : IsNested q.roots s) (r : FunctionPart) (listed : Contains (system_parts q s) r) (is : stands q s r ≡ true) where
    -- the sides of what stands
    record Sides : Type 0 where
      place : is_in_place q s (stands q s) r ≡ true
      free : list_all (λ t. not (takes_from q s t r && stands q s t)) (system_parts q s) ≡ true

    sides : Sides
    sides =
        let place = is_in_place q s (stands q s) r in
        let free = list_all (λ t. not (takes_from q s t r && stands q s t)) (system_parts q s) in
        let parts = and_parts (allowed q s r && is_part q s r.function r.part && place) free (sym (stands_is q s nested r listed) ∙ is) in
        record { place = (and_parts (allowed q s r && is_part q s r.function r.part) place parts.0).1; free = parts.1 }

    -- it shares no address with what stands before it
    apart_before : (t : FunctionPart) → Contains (system_parts q s) t → stands q s t ≡ true → are_beside q t r ≡ true → told_part_precedes q s t r ≡ true → ranges_are_apart (addresses t) (addresses r) ≡ true
    apart_before t in_t stands_t beside before = elim (cases_Bool (ranges_are_apart (addresses t) (addresses r))) [
      | inl fine ↦ fine
      | inr shares ↦
          let takes = and_from (are_beside q t r && told_part_precedes q s t r) (not (ranges_are_apart (addresses t) (addresses r))) (and_from (are_beside q t r) (told_part_precedes q s t r) beside before) (ap not shares) in
          absurd (both_ways (not (takes_from q s t r && stands q s t))
          (not_from_true (takes_from q s t r && stands q s t) (and_from (takes_from q s t r) (stands q s t) takes stands_t))
          (all_gives (λ t. not (takes_from q s t r && stands q s t)) (system_parts q s) sides.free t in_t))
    ]

    pub in_root_lists : is_root q.roots r.function.slot.bus ≡ true → is_in_lists q r.function.slot.bus (addresses r) (part_space r) ≡ true
    in_root_lists root =
        sym (ap (λ b. cond b (is_in_lists q r.function.slot.bus (addresses r) (part_space r)) (is_in_window (stands q s) (class_in q s r.function r.part) (addresses r) (bridge_over s r.function.slot.bus))) root)
        ∙ sides.place

    pub in_window_over : (b : Function) → IsSystem s → is_root q.roots r.function.slot.bus ≡ false → LeadsTo s b r.function.slot.bus
        → (lies_within (addresses r) (addresses (window_part (class_in q s r.function r.part) b)) ≡ true) × (stands q s (window_part (class_in q s r.function r.part) b) ≡ true)
    in_window_over b system off leads =
        let c = class_in q s r.function r.part in
        let over = over_is q.roots s system nested r.function.slot.bus b leads in
        and_parts (lies_within (addresses r) (addresses (window_part c b))) (stands q s (window_part c b))
        (sym (ap (is_in_window (stands q s) c (addresses r)) over)
        ∙ sym (ap (λ b. cond b (is_in_lists q r.function.slot.bus (addresses r) (part_space r)) (is_in_window (stands q s) c (addresses r) (bridge_over s r.function.slot.bus))) off)
        ∙ sides.place)

  pub apart_where_beside : (r t : FunctionPart) → IsNested q.roots s → Contains (system_parts q s) r → Contains (system_parts q s) t → stands q s r ≡ true → stands q s t ≡ true → are_beside q r t ≡ true → rank r ≢ rank t
      → ranges_are_apart (addresses r) (addresses t) ≡ true
  apart_where_beside r t nested in_r in_t stands_r stands_t beside differ = elim (cases_Bool (told_part_precedes q s r t)) [
    | inl before ↦ apart_before nested t in_t stands_t r in_r stands_r beside before
    | inr not_before ↦
        or_swap (nat_lt (addresses r).last (addresses t).first) (nat_lt (addresses t).last (addresses r).first)
        ∙ apart_before nested r in_r stands_r t in_t stands_t (beside_back r t beside) (precedes_else q s r t differ not_before)
  ]
