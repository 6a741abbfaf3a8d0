-- The tables of what grows tell what is kept where windows grow.
use Rattle.std.proofs.Common.{◌≡◌, ℕ, ◌^◌, ◌<◌, ◌≤◌, inl, inr, List, [], ◌∷◌, length, get_or, Bool, true, false, cond, arith, refl, ap, sym, subst, ◌∙◌, Option, None, Some}
use Rattle.std.specs.Bool.{if◌then◌else◌}
use Rattle.std.specs.List.{Contains, slice_get, list_all}
use Rattle.std.specs.Option.{option_map, IfSome}
use Rattle.std.proofs.lemmas.Bool.{cases_Bool, cases_lt, and_parts, and_from, or_left}
use Rattle.std.proofs.lemmas.List.{get_or_past}
use Rattle.std.proofs.lemmas.List.Elements.{Contains-get_or}
use Rattle.std.proofs.lemmas.Option.{slice_get-get_or, slice_get_within, get_or_from_slice_get}
use Rattle.pci_spec.specs.Window.{WindowKind}
use Rattle.pci_spec.specs.Decoded.{Range as DecodedRange}
use Rattle.pci_spec.specs.System.{System, Function, Part, Bar, Rom, Window, IsSystem, window_space}
use Rattle.pci_spec.specs.Bus.{secondary, is_inside, IsNested}
use Rattle.pci_spec.specs.Sound.{IsInProfile}
use Rattle.pci_spec.proofs.BusRanges.{all_gives, all_from, within_of_behind, behind_of_within, inside_parts}
use Rattle.pci_spec.proofs.Members.{IsMade, in_map_to, in_nil, in_cons_cases}
use Rattle.plan_spec.specs.Plan.{bridges_above}
use Rattle.plan_spec.proofs.Planning.AboveBuses.{IsBridgeAbove, above_to, above_from}
use Rattle.settle_spec.specs.FirstPlace.{is_place}
use Rattle.settle_spec.specs.Lists.{Request}
use Rattle.settle_spec.specs.Parts.{FunctionPart, addresses, class_in}
use Rattle.settle_spec.specs.Stands.{window_part}
use Rattle.settle_spec.specs.Lines.{taken_for}
use Rattle.settle_spec.specs.Items.{PlacingItem, Placed, taken_by, bus_items, new_window, has_room_behind, place_in}
use Rattle.settle_spec.specs.Places.{placed_of, place_among}
use Rattle.settle_spec.specs.Growth.{taken_around, there, comes_to, takes_growth, has_grown}
use Rattle.settle_spec.specs.Kept.{is_kept, stays_growing, range_or, range_growing, address_of_placed, growing}
use Rattle.settle_spec.specs.Keeping.Places.{taken_at}
use Rattle.settle_spec.proofs.LastSpot.{place_gives}
use Rattle.settle_spec.proofs.Grown.{part_holds}
use Rattle.settle_spec.proofs.Reaching.{within_gives}
use Rattle.settle_laws.proofs.GrowingKept.{taking, grown_takes, growing_stands}
use Rattle.settle_laws.proofs.Standing.{window_listed, stands_by_itself}
use Rattle.settle_laws.proofs.There.{opened, IsFoundPlace, each_found}
use Rattle.settle_laws.specs.KeptLaws.{IsSoundKept, HavePlaces}
use Rattle.settle_laws.proofs.Keeping.Items.{IsItemIn, space_items_are}
use Rattle.settle_laws.proofs.KeptTaken.{items_aligned}
use Rattle.settle_laws.proofs.LowWindows.{windows_low}
use Rattle.settle_laws.proofs.SoundKept.{growing_is_sound}
use Rattle.pci_base.specs.declared.range.Range.{Range}
use Rattle.pci_base.specs.declared.window_kind.WindowKind.{WindowKind as CodeKind}
use Rattle.pci_base.specs.declared.window_kind.WindowKind.TheVariants as kinds
use Rattle.pci_base.specs.declared.window_kind.ByKind.{ByKind}
use Rattle.pci_base.specs.Ranges.{decoded_range_of}
use Rattle.pci_base.specs.WindowKinds.{kind_value, by_kind}
use Rattle.pci_place.specs.Items.{no_function}
use Rattle.pci_first_fit.specs.declared.over.Left.{Left}
use Rattle.pci_first_fit.specs.Keeping.{told_of_kind, grown_of, told_if_grown, IsInKept, TellsKept}
use Rattle.pci_first_fit.specs.PlaceTables.{placed}
use Rattle.pci_first_fit.specs.Kept.{kept_of, nothing_kept}
use Rattle.pci_first_fit.specs.Tables.{untold, told, AreForward}
use Rattle.pci_kept.proofs.Indexes.{index_at}
use Rattle.pci_grow.specs.Growing.{Grown, AreGrown}
use Rattle.pci_grow.specs.Telling.{IsUnder}
use Rattle.pci_grow.proofs.Grows.{code_kind, kind_back}
use Rattle.pci_grow.proofs.LowReaches.{highest_below}
use Rattle.pci_grow.proofs.Untold.{untold_is}

kind_told : (b : ByKind (Option Range)) (class : CodeKind) → option_map decoded_range_of (told_of_kind b (kind_value class)) ≡ option_map decoded_range_of (by_kind b class)
kind_told b kinds.Io = refl
kind_told b kinds.Memory = refl
kind_told b kinds.Prefetchable = refl

in_one : (r t : DecodedRange) → Contains (r ∷ []) t → t ≡ r
in_one r t has = elim (in_cons_cases r [] t has) [
  | inl here ↦ sym here
  | inr further ↦ absurd (in_nil t further)
]

if_some : {X : Type 0} {P : Type 0} (o : Option X) → P → IfSome o (λ _. P)
if_some None is = tt
if_some (Some x) is = is

module _ (q : Request) (s : System) (system : IsSystem s) (nested : IsNested q.roots s) (profile : IsInProfile q.roots s) (x : Grown) (are : AreGrown q s x) where
  abbrev keep_place : Function → PlacingItem → List DecodedRange → Option ℕ
  keep_place = (growing q s).place

  listed_at : (n : ℕ) (f : Function) → slice_get s n ≡ Some f → Contains s f
  listed_at n f at = (n, slice_get_within s n f at, get_or_from_slice_get s n f f at)

  -- ---- what is told of a window that grows

  grown_is : (n : ℕ) (f : Function) (c : WindowKind) → slice_get s n ≡ Some f → grown_of x.coming n (Window c) ≡ cond (has_grown q s (window_part c f)) (comes_to q s (window_part c f)) None
  grown_is n f c at =
      ap (λ d. grown_of x.coming n (Window d)) (sym (kind_back c))
      ∙ kind_told (get_or x.coming n untold) (code_kind c)
      ∙ are.come.each n f (code_kind c) at
      ∙ ap (λ d. cond (has_grown q s (window_part d f)) (comes_to q s (window_part d f)) None) (kind_back c)

  -- it has the addresses that it comes to
  range_told : (n : ℕ) (f : Function) (p : Part) → slice_get s n ≡ Some f → range_growing q s record { function = f; part = p } ≡ range_or (grown_of x.coming n p) (addresses record { function = f; part = p })
  range_told n f (Bar b) at = refl
  range_told n f Rom at = refl
  range_told n f (Window c) at = by (has_grown q s (window_part c f)) ∙ sym (ap (λ o. range_or o (addresses (window_part c f))) (grown_is n f c at))
    where
      by : (b : Bool) → (if b then range_or (comes_to q s (window_part c f)) (addresses (window_part c f)) else addresses (window_part c f)) ≡ range_or (cond b (comes_to q s (window_part c f)) None) (addresses (window_part c f))
      by true = refl
      by false = refl

  -- ---- what grows stays

  above_trans : (bus : ℕ) (b d : Function) → IsBridgeAbove s bus b → IsBridgeAbove s b.slot.bus d → IsBridgeAbove s bus d
  above_trans bus b d is up =
      let strict = nested.inside b d is.listed up.listed is.bridge up.bridge up.behind in
      let ends = inside_parts b d (and_parts (is_inside b d) _ strict).0 in
      let low = ends.0 in
      let high = ends.1 in
      let from = (within_of_behind b bus is.behind).low in
      let to = (within_of_behind b bus is.behind).high in
      record { listed = up.listed; bridge = up.bridge; behind = behind_of_within d bus record { low = omega (arith, low, from); high = omega (arith, high, to) } }

  grown_stays : (r : FunctionPart) → has_grown q s r ≡ true → stays_growing q s r ≡ true
  grown_stays r is =
      let c = class_in q s r.function r.part in
      let all = (and_parts (takes_growth q s r) _ is).1 in
      let takes_above : (d : Function) → IsBridgeAbove s r.function.slot.bus d → takes_growth q s (window_part c d) ≡ true =
      λ d up. all_gives (λ b. takes_growth q s (window_part c b)) (bridges_above s r.function.slot.bus) all d (above_from s r.function.slot.bus d up) in
      and_from (is_kept q s r) (list_all (λ b. is_kept q s (window_part c b)) (bridges_above s r.function.slot.bus))
      (or_left (has_grown q s r) (has_room_behind q s r) is)
      (all_from (λ b. is_kept q s (window_part c b)) (bridges_above s r.function.slot.bus) (λ b has.
      let up = above_to s r.function.slot.bus b has in
      or_left (has_grown q s (window_part c b)) (has_room_behind q s (window_part c b))
      (and_from (takes_growth q s (window_part c b)) (list_all (λ d. takes_growth q s (window_part c d)) (bridges_above s b.slot.bus)) (takes_above b up)
      (all_from (λ d. takes_growth q s (window_part c d)) (bridges_above s b.slot.bus) (λ d more. takes_above d (above_trans r.function.slot.bus b d up (above_to s b.slot.bus d more)))))))

  only_grown : (n : ℕ) (f : Function) (c : WindowKind) → slice_get s n ≡ Some f → IfSome (grown_of x.coming n (Window c)) (λ _. stays_growing q s (window_part c f) ≡ true)
  only_grown n f c at = elim (cases_Bool (has_grown q s (window_part c f))) [
    | inl grown ↦ if_some (grown_of x.coming n (Window c)) (grown_stays (window_part c f) grown)
    | inr off ↦ subst (λ o. IfSome o (λ _. stays_growing q s (window_part c f) ≡ true)) (sym (grown_is n f c at ∙ ap (λ b. cond b (comes_to q s (window_part c f)) None) off)) tt
  ]

  -- ---- ranges have addresses

  comes_forward : (c : WindowKind) (f : Function) (r : DecodedRange) → Contains s f → has_grown q s (window_part c f) ≡ true → comes_to q s (window_part c f) ≡ Some r → r.first ≤ r.last
  comes_forward c f r listed grown comes =
      let stand = growing_stands q s (window_part c f) (grown_stays (window_part c f) grown) in
      let part = window_listed q s c f listed ((stands_by_itself q s nested).only (window_part c f) listed stand) in
      let own = (opened q s system nested (windows_low q s system nested profile) (items_aligned q s (growing q s)) c f record { part = part; stands = stand }).forward in
      let around = within_gives (addresses (window_part c f)) r (part_holds q s f (Window c) r comes) in
      let first = around.first in
      let last = around.last in
      omega (arith, own, first, last)

  forward_at : (k : ℕ) (class : CodeKind) (o : Option Range) → told x.coming k class ≡ o → IfSome o (λ r. r.first ≤ r.last)
  forward_at k class None is = tt
  forward_at k class (Some r) is = elim (cases_lt k (length s)) [
    | inl less ↦
        let f = get_or s k no_function in
        let w = window_part (kind_value class) f in
        let each = are.come.each k f class (slice_get-get_or s k no_function less) in
        by f (has_grown q s w) (Contains-get_or s k no_function less) refl (sym each ∙ ap (option_map decoded_range_of) is)
    | inr past ↦
        let none : told x.coming k class ≡ None = ap (λ b. by_kind b class) (get_or_past x.coming k untold (let count = are.come.count in omega (arith, count, past))) ∙ untold_is class in
        (let no : ⊥ = cc in absurd no)
  ]
    where
      by : (f : Function) (b : Bool) → Contains s f → has_grown q s (window_part (kind_value class) f) ≡ b → cond b (comes_to q s (window_part (kind_value class) f)) None ≡ Some (decoded_range_of r) → r.first ≤ r.last
      by f true listed grown comes = comes_forward (kind_value class) f (decoded_range_of r) listed grown comes
      by f false listed off comes = (let no : ⊥ = cc in absurd no)

  -- ---- places in windows that grow

  module _ (n m : ℕ) (b : Function) (i : PlacingItem) (is : IsInKept q s (growing q s) n m b i) where
    abbrev w : FunctionPart
    w = window_part i.class b

    abbrev found : Option ℕ
    found = address_of_placed (place_among i.region (placed_of (taken_around q s (there q s) i.class b)))

    item : IsItemIn q s (growing q s) (window_space i.class) (secondary b) i
    item = space_items_are q s (growing q s) (window_space i.class) (secondary b) i is.listed

    under : IsUnder q s i.class b i.region
    under = subst (λ (j : PlacingItem). IsUnder q s j.class b j.region) item.of.is record { bridge = is.leads; listed = item.of.listed; part = item.of.there; beside = item.of.beside; class = item.of.class }

    at_place : takes_growth q s w ≡ true → placed x.places m i.region.part ≡ found
    at_place taken =
        ap (λ k. placed x.places k i.region.part) (sym (index_at s system m i.region.function is.function_is))
        ∙ are.are_placed.each i.class b i.region (listed_at n b is.bridge_is) under
        ∙ ap (λ t. if t then found else None) taken

    place_told : (taken : List DecodedRange) → keep_place b i taken ≡ told_if_grown (grown_of x.coming n (Window i.class)) (placed x.places m i.region.part) (place_in (addresses w) i taken)
    place_told taken = elim (cases_Bool (has_grown q s w)) [
      | inl grown ↦
          let takes_it = grown_takes q s w grown in
          let to = taking q s w takes_it in
          let some : grown_of x.coming n (Window i.class) ≡ Some to.range = grown_is n b i.class is.bridge_is ∙ ap (λ t. cond t (comes_to q s w) None) grown ∙ to.comes in
          ap (λ t. if t then found else place_in (addresses w) i taken) grown
          ∙ sym (at_place takes_it)
          ∙ sym (ap (λ o. told_if_grown o (placed x.places m i.region.part) (place_in (addresses w) i taken)) some)
      | inr off ↦
          let none : grown_of x.coming n (Window i.class) ≡ None = grown_is n b i.class is.bridge_is ∙ ap (λ t. cond t (comes_to q s w) None) off in
          ap (λ t. if t then found else place_in (addresses w) i taken) off
          ∙ sym (ap (λ o. told_if_grown o (placed x.places m i.region.part) (place_in (addresses w) i taken)) none)
    ]

    -- such a place is in the window, and that ends in 64 bits
    module _ (grown : has_grown q s w ≡ true) where
      abbrev taken_there : List DecodedRange
      taken_there = taken_at q s (growing q s) (window_space i.class) (secondary b)

      sound : IsSoundKept q s (growing q s)
      sound = growing_is_sound q s system nested profile

      keeps : stays_growing q s w ≡ true
      keeps = grown_stays w grown

      abbrev find_place : PlacingItem → List DecodedRange → Option ℕ
      find_place j xs = keep_place b j (taken_for q j.region xs)

      have : HavePlaces q (range_growing q s w) (keep_place b) taken_there (bus_items q s i.class (stays_growing q s) (new_window q s i.class) (secondary b))
      have = sound.places i.class b taken_there (listed_at n b is.bridge_is) is.leads keeps (λ t has. inl has) (λ t has. inl has)

      of_class : Contains (bus_items q s i.class (stays_growing q s) (new_window q s i.class) (secondary b)) i
      of_class = subst (λ c. Contains (bus_items q s c (stays_growing q s) (new_window q s c) (secondary b)) i) (ap (λ (j : PlacingItem). j.class) item.of.is) item.has

      ends_at : IfSome (placed x.places m i.region.part) (λ a. (taken_by i a).last < 2 ^ 64)
      ends_at =
          let made : IsMade (λ (p : Placed). p.item) have.placed i = in_map_to (λ (p : Placed). p.item) have.placed i (subst (λ xs. Contains xs i) (sym have.are.all) of_class) in
          let p = made.from in
          let of : IsFoundPlace find_place (bus_items q s i.class (stays_growing q s) (new_window q s i.class) (secondary b)) p = each_found find_place taken_there _ have.placed have.found p made.has in
          let takes_it = grown_takes q s w grown in
          let place : found ≡ Some p.at = sym (ap (λ t. if t then found else place_in (addresses w) i (taken_for q i.region of.taken)) grown) ∙ ap (λ (j : PlacingItem). keep_place b j (taken_for q j.region of.taken)) (sym made.is) ∙ of.found in
          let in_list = have.are.each p made.has in
          subst (λ o. IfSome o (λ a. (taken_by i a).last < 2 ^ 64)) (sym (at_place takes_it ∙ place))
          (within p made.is in_list)
        where
          most : (range_growing q s w).last < 2 ^ 64
          most = let low = (sound.grown i.class b (listed_at n b is.bridge_is) is.leads keeps).low in let top = highest_below i.class b.probe in omega (arith, low, top)

          within : (p : Placed) → p.item ≡ i → (r : DecodedRange) × Contains (range_growing q s w ∷ []) r × (is_place r taken_there p.item.extent p.at ≡ true) → (taken_by i p.at).last < 2 ^ 64
          within p same (r, has, at) =
              let one : r ≡ range_growing q s w = in_one (range_growing q s w) r has in
              let last = (place_gives r taken_there p.item.extent p.at at).last in
              let size : p.item.extent.size ≡ i.extent.size = ap (λ (j : PlacingItem). j.extent.size) same in
              let end : r.last ≡ (range_growing q s w).last = ap (λ (t : DecodedRange). t.last) one in
              let top = most in
              omega (arith, last, size, end, top)

  all_end : (n m : ℕ) (b : Function) (i : PlacingItem) → IsInKept q s (growing q s) n m b i
      → IfSome (grown_of x.coming n (Window i.class)) (λ _. IfSome (placed x.places m i.region.part) (λ a. (taken_by i a).last < 2 ^ 64))
  all_end n m b i is = elim (cases_Bool (has_grown q s (window_part i.class b))) [
    | inl grown ↦ if_some (grown_of x.coming n (Window i.class)) (ends_at n m b i is grown)
    | inr off ↦
        subst (λ o. IfSome o (λ _. IfSome (placed x.places m i.region.part) (λ a. (taken_by i a).last < 2 ^ 64)))
        (sym (grown_is n b i.class is.bridge_is ∙ ap (λ t. cond t (comes_to q s (window_part i.class b)) None) off)) tt
  ]

  -- ---- all of it

  pub tells_growing : (left : Left) → left.kept.now ≡ x.stays → left.grown.now ≡ x.coming → left.places.now ≡ x.places → TellsKept q s (growing q s) left
  tells_growing left kept grown places = record {
    standing = growing_stands q s;
    stays_are = λ k f p at there. ap (λ t. kept_of (get_or t k nothing_kept) p) kept ∙ are.stay.each k f p at there;
    ranges_are = λ n f p at there stay. range_told n f p at ∙ sym (ap (λ t. range_or (grown_of t n p) (addresses record { function = f; part = p })) grown);
    places_are = λ n m b i is taken.
        place_told n m b i is taken
        ∙ sym (ap (λ t. told_if_grown (grown_of t n (Window i.class)) (placed x.places m i.region.part) (place_in (addresses (window_part i.class b)) i taken)) grown)
        ∙ sym (ap (λ t. told_if_grown (grown_of left.grown.now n (Window i.class)) (placed t m i.region.part) (place_in (addresses (window_part i.class b)) i taken)) places);
    grown_stay = λ n f c at bridge. subst (λ t. IfSome (grown_of t n (Window c)) (λ _. stays_growing q s (window_part c f) ≡ true)) (sym grown) (only_grown n f c at);
    forward = subst AreForward (sym grown) (λ k class. forward_at k class (told x.coming k class) refl);
    ends = λ n m b i is.
        subst (λ t. IfSome (grown_of t n (Window i.class)) (λ _. IfSome (placed left.places.now m i.region.part) (λ a. (taken_by i a).last < 2 ^ 64))) (sym grown)
        (subst (λ t. IfSome (grown_of x.coming n (Window i.class)) (λ _. IfSome (placed t m i.region.part) (λ a. (taken_by i a).last < 2 ^ 64))) (sym places) (all_end n m b i is));
  }
