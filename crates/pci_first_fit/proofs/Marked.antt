-- What is placed and how large windows are where a table marks new windows of 2^64 addresses or more.
use Rattle.std.proofs.Common.{◌≡◌, ℕ, ◌+◌, ◌-◌, ◌^◌, ◌<◌, ◌≤◌, inl, inr, ◌⊎◌, List, [], ◌∷◌, ◌++◌, map, Bool, true, false, cond, ◌&&◌, not, arith, refl, sym, ◌∙◌, ap, subst, Option, Some, None}
use Rattle.std.specs.List.{Contains, filter, flat_map}
use Rattle.std.proofs.lemmas.Bool.{and_parts, cases_Bool, both_ways}
use Rattle.std.proofs.lemmas.List.Elements.{Contains-append_left, Contains-append_right}
use Rattle.std.proofs.lemmas.List.Sorted.{Contains-permutation}
use Rattle.pci_spec.specs.Decoded.{Range}
use Rattle.pci_spec.specs.Window.{WindowKind, IoWindow, MemoryWindow, PrefetchWindow, page_size}
use Rattle.pci_spec.specs.System.{System, Function, is_bridge}
use Rattle.pci_spec.specs.Bus.{are_siblings}
use Rattle.pci_spec.proofs.Members.{in_nil, in_cons_cases, in_head, in_tail}
use Rattle.plan_spec.specs.Plan.{raised_to}
use Rattle.plan_spec.specs.Place.{range_from}
use Rattle.plan_spec.proofs.Planning.Room.{raised}
use Rattle.settle_spec.specs.FirstPlace.{Extent as ExtentValue, first_spot, first_place}
use Rattle.settle_spec.specs.Lists.{Request}
use Rattle.settle_spec.specs.Parts.{FunctionPart, function_parts}
use Rattle.settle_spec.specs.Stands.{window_part}
use Rattle.settle_spec.specs.Items.{PlacingItem as ItemValue, Placing, AllPlaced, Lacks, and_placed, place_next, place_all, are_placed, taken_by, in_turn, own_item, is_own, has_of, items_of, bus_items, laid_out, end_of, extent_around}
use Rattle.settle_spec.proofs.InTurn.{turn_same}
use Rattle.settle_spec.proofs.LaidOut.{laid_keeps, end_behind}
use Rattle.pci_first_fit.specs.declared.extent.Extent.{Extent}
use Rattle.pci_first_fit.specs.Spots.{extent_value}
use Rattle.pci_first_fit.specs.Own.{IsWindowOf}
use Rattle.pci_first_fit.specs.NewWindows.{nowhere, IsMarkedOf, extent_or}

-- ---- what a table tells

pub told_is : (there : Bool) (e : ExtentValue) (o : Option Extent) → IsMarkedOf there e o → IsWindowOf there (extent_or o) o
told_is there e None off = off
told_is there e (Some x) (is, marking) = (is, refl)

pub marked_is : (there : Bool) (e : ExtentValue) (o : Option Extent) → IsWindowOf there e o → IsMarkedOf there e o
marked_is there e None off = off
marked_is there e (Some x) (is, same) = (is, inl same)

-- an extent is another one, or marks it
abbrev pub IsSameOrOver : ExtentValue → ExtentValue → Type 0
IsSameOrOver d e = (d ≡ e) ⊎ ((d ≡ extent_value nowhere) × (2 ^ 64 ≤ e.size))

pub told_fits : (there : Bool) (e : ExtentValue) (o : Option Extent) → IsMarkedOf there e o → there ≡ true → IsSameOrOver (extent_or o) e
told_fits there e None off is = absurd (both_ways there off is)
told_fits there e (Some x) (on, inl same) is = inl same
told_fits there e (Some x) (on, inr (mark, large)) is = inr (ap extent_value mark, large)

-- ---- items

module _ (q : Request) (s : System) (c : WindowKind) (keeps : FunctionPart → Bool) (d e : Function → ExtentValue) (bus : ℕ) where
  abbrev window : (Function → ExtentValue) → Function → ItemValue
  window x f = record { region = window_part c f; class = c; extent = x f }

  -- a window is marked among some items, and among others it has its extent
  pub record HasLarge (xs ys : List ItemValue) : Type 0 where
    pub of : Function
    pub listed : Contains s of
    pub bridge : is_bridge of ≡ true
    pub mark : d of ≡ extent_value nowhere
    pub large : 2 ^ 64 ≤ (e of).size
    pub in_low : Contains xs (window d of)
    pub in_high : Contains ys (window e of)

  abbrev pub AreSameOrLarge : List ItemValue → List ItemValue → Type 0
  AreSameOrLarge xs ys = (xs ≡ ys) ⊎ HasLarge xs ys

  abbrev own : Function → List ItemValue
  own f = map (own_item c) (filter (λ r. is_own q s c r && not (keeps r)) (function_parts q s f))

  abbrev opens : Function → Bool
  opens f = is_bridge f && has_of q s c f && not (keeps (window_part c f))

  abbrev on : (Function → ExtentValue) → Function → List ItemValue
  on x f = cond (are_siblings q.roots bus f.slot.bus) (items_of q s c keeps x f) []

  module _ (fits : (f : Function) → Contains s f → are_siblings q.roots bus f.slot.bus ≡ true → is_bridge f ≡ true → has_of q s c f ≡ true → IsSameOrOver (d f) (e f)) where
    of_function : (f : Function) → Contains s f → are_siblings q.roots bus f.slot.bus ≡ true → AreSameOrLarge (items_of q s c keeps d f) (items_of q s c keeps e f)
    of_function f listed beside = elim (cases_Bool (opens f)) [
      | inl is ↦
          let both = and_parts (is_bridge f && has_of q s c f) (not (keeps (window_part c f))) is in
          let bridge = and_parts (is_bridge f) (has_of q s c f) both.0 in
          by is bridge.0 (fits f listed beside bridge.0 bridge.1)
      | inr off ↦ inl (ap (λ b. own f ++ cond b (window d f ∷ []) []) off ∙ sym (ap (λ b. own f ++ cond b (window e f ∷ []) []) off))
    ]
      where
        last : (x : Function → ExtentValue) → opens f ≡ true → Contains (items_of q s c keeps x f) (window x f)
        last x is = Contains-append_right (own f) (cond (opens f) (window x f ∷ []) []) (window x f) (subst (λ b. Contains (cond b (window x f ∷ []) []) (window x f)) (sym is) (in_head (window x f) []))

        by : opens f ≡ true → is_bridge f ≡ true → IsSameOrOver (d f) (e f) → AreSameOrLarge (items_of q s c keeps d f) (items_of q s c keeps e f)
        by is bridge (inl same) = inl (ap (λ x. own f ++ cond (opens f) (record { region = window_part c f; class = c; extent = x } ∷ []) []) same)
        by is bridge (inr (mark, large)) = inr record { of = f; listed = listed; bridge = bridge; mark = mark; large = large; in_low = last d is; in_high = last e is }

    of_bus : (f : Function) → Contains s f → AreSameOrLarge (on d f) (on e f)
    of_bus f listed = elim (cases_Bool (are_siblings q.roots bus f.slot.bus)) [
      | inl is ↦ subst (λ b. AreSameOrLarge (cond b (items_of q s c keeps d f) []) (cond b (items_of q s c keeps e f) [])) (sym is) (of_function f listed is)
      | inr other ↦ subst (λ b. AreSameOrLarge (cond b (items_of q s c keeps d f) []) (cond b (items_of q s c keeps e f) [])) (sym other) (inl refl)
    ]

    joined : (xs ys us vs : List ItemValue) → AreSameOrLarge xs ys → AreSameOrLarge us vs → AreSameOrLarge (xs ++ us) (ys ++ vs)
    joined xs ys us vs (inl same) (inl more) = inl (ap (λ zs. zs ++ us) same ∙ ap (λ zs. ys ++ zs) more)
    joined xs ys us vs (inr has) more = inr record {
      of = has.of;
      listed = has.listed;
      bridge = has.bridge;
      mark = has.mark;
      large = has.large;
      in_low = Contains-append_left xs us (window d has.of) has.in_low;
      in_high = Contains-append_left ys vs (window e has.of) has.in_high;
    }
    joined xs ys us vs (inl same) (inr has) = inr record {
      of = has.of;
      listed = has.listed;
      bridge = has.bridge;
      mark = has.mark;
      large = has.large;
      in_low = Contains-append_right xs us (window d has.of) has.in_low;
      in_high = Contains-append_right ys vs (window e has.of) has.in_high;
    }

    of_functions : (fs : System) → ((f : Function) → Contains fs f → Contains s f) → AreSameOrLarge (flat_map (on d) fs) (flat_map (on e) fs)
    of_functions [] all = inl refl
    of_functions (f ∷ fs) all =
        joined (on d f) (on e f) (flat_map (on d) fs) (flat_map (on e) fs) (of_bus f (all f (in_head f fs))) (of_functions fs (λ g listed. all g (in_tail f fs g listed)))

    -- the items of the bus are the same, or a window is marked
    pub same_or_large : AreSameOrLarge (bus_items q s c keeps d bus) (bus_items q s c keeps e bus)
    same_or_large = elim (of_functions s (λ f listed. listed)) [
      | inl same ↦ inl (ap in_turn same)
      | inr has ↦ inr record {
        of = has.of;
        listed = has.listed;
        bridge = has.bridge;
        mark = has.mark;
        large = has.large;
        in_low = Contains-permutation (flat_map (on d) s) (in_turn (flat_map (on d) s)) (window d has.of) (turn_same (flat_map (on d) s)) has.in_low;
        in_high = Contains-permutation (flat_map (on e) s) (in_turn (flat_map (on e) s)) (window e has.of) (turn_same (flat_map (on e) s)) has.in_high;
      }
    ]

-- ---- what is around a large one

laid_has : (taken : List Range) (extents : List ExtentValue) (e : ExtentValue) → Contains extents e → (t : Range) × (Contains (laid_out taken extents) t × (e.size ≤ t.last + 1))
laid_has taken [] e listed = absurd (in_nil e listed)
laid_has taken (x ∷ extents) e listed =
    let here : Range = range_from (first_spot 0 taken x) x.size in
    elim (in_cons_cases x extents e listed) [
      | inl same ↦ (here, (laid_keeps (here ∷ taken) extents here (in_head here taken), subst (λ (y : ExtentValue). y.size ≤ here.last + 1) same (omega arith)))
      | inr later ↦ laid_has (here ∷ taken) extents e later
    ]

-- a window is as large as each of what is in it
pub around_large : (page highest n : ℕ) (extents : List ExtentValue) (e : ExtentValue) → 0 < page → Contains extents e → n ≤ e.size → n ≤ (extent_around page highest extents).size
around_large page highest n extents e pos listed least =
    let has = laid_has [] extents e listed in
    let end = end_behind (laid_out [] extents) has.0 has.1.0 in
    let more = has.1.1 in
    let from = (raised page (end_of (laid_out [] extents)) pos).from in
    omega (arith, least, end, more, from)

pub some_page : (c : WindowKind) → 0 < page_size c
some_page IoWindow = omega arith
some_page MemoryWindow = omega arith
some_page PrefetchWindow = omega arith

-- as whole pages it has one address more than a mark
whole_pages : (c : WindowKind) (n : ℕ) → 2 ^ 64 - 1 ≤ raised_to (page_size c) n → 2 ^ 64 ≤ raised_to (page_size c) n
whole_pages IoWindow n most = omega (arith, most)
whole_pages MemoryWindow n most = omega (arith, most)
whole_pages PrefetchWindow n most = omega (arith, most)

pub around_mark : (c : WindowKind) (highest : ℕ) (extents : List ExtentValue) → Contains extents (extent_value nowhere) → 2 ^ 64 ≤ (extent_around (page_size c) highest extents).size
around_mark c highest extents listed =
    whole_pages c (end_of (laid_out [] extents)) (around_large (page_size c) highest (2 ^ 64 - 1) extents (extent_value nowhere) (some_page c) listed (omega arith))

-- ---- what has no place

placed_less : (i : ItemValue) (a : ℕ) (p : Placing) → are_placed p ≡ false → are_placed (and_placed i a p) ≡ false
placed_less i a (AllPlaced placed) not = not
placed_less i a (Lacks j) not = refl

-- where one of some items has no place, whatever is taken, not all of them have one
pub none_placed : (ranges : ItemValue → List Range) (taken : List Range) (items : List ItemValue) (i : ItemValue) → Contains items i
    → ((now : List Range) → first_place (ranges i) now i.extent ≡ None) → are_placed (place_all ranges taken items) ≡ false
none_placed ranges taken [] i listed none = absurd (in_nil i listed)
none_placed ranges taken (j ∷ items) i listed none =
    by (first_place (ranges j) taken j.extent) refl (λ a later. none_placed ranges (taken_by j a ∷ taken) items i later none)
  where
    by : (o : Option ℕ) → first_place (ranges j) taken j.extent ≡ o → ((a : ℕ) → Contains items i → are_placed (place_all ranges (taken_by j a ∷ taken) items) ≡ false)
        → are_placed (place_next j o (λ a. place_all ranges (taken_by j a ∷ taken) items)) ≡ false
    by None is rest = refl
    by (Some a) is rest = elim (in_cons_cases j items i listed) [
      | inl here ↦ absurd (let none_here : first_place (ranges j) taken j.extent ≡ None = subst (λ (x : ItemValue). first_place (ranges x) taken x.extent ≡ None) (sym here) (none taken) in let no : Some a ≡ None = sym is ∙ none_here in cc)
      | inr later ↦ placed_less j a (place_all ranges (taken_by j a ∷ taken) items) (rest a later)
    ]
