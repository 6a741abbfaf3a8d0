-- Where sorted items stand: each behind the one before it, or where its group starts.
use Rattle.std.proofs.Common.{◌≡◌, ℕ, ◌+◌, ◌^◌, ◌<◌, ◌≤◌, inl, inr, List, map, length, get_or, Bool, true, false, cond, arith, sym, ◌∙◌, ap, subst, Some}
use Rattle.std.specs.List.{Contains, slice_get}
use Rattle.std.proofs.lemmas.Bool.{cases_Bool, cases_order}
use Rattle.std.proofs.lemmas.List.{get_or-map, length-map}
use Rattle.std.proofs.lemmas.List.Elements.{Contains-get_or}
use Rattle.std.proofs.lemmas.List.Sorted.{IsPermutation-sym, Contains-permutation}
use Rattle.std.proofs.lemmas.Option.{slice_get_within, get_or_from_slice_get}
use Rattle.pci_spec.specs.Slot.{slot_number}
use Rattle.pci_spec.specs.Window.{WindowKind}
use Rattle.pci_spec.specs.System.{System, Function, IsSystem, Part, Window}
use Rattle.pci_spec.specs.Bus.{secondary, is_root}
use Rattle.plan_spec.specs.Plan.{pool_of, greatest_of_roots}
use Rattle.plan_spec.specs.Place.{Item, window_item, own_items, items_beside, start_of, place_of}
use Rattle.plan_spec.specs.Planning.Numbers.{item_of, place_at}
use Rattle.plan_spec.specs.Planning.Sorted.{all_items, item_group}
use Rattle.plan_spec.specs.Planning.Table.{Item as PlacedPart, is_placed, IsTable}
use Rattle.pci_spec.proofs.Members.{IsInPiece, in_map_from, in_filter_from, in_flat_map_to, in_flat_map_from}
use Rattle.plan_spec.proofs.Planning.AllItems.{slots_rise}
use Rattle.plan_spec.proofs.Planning.Starts.{start_of_window}
use Rattle.plan_spec.proofs.Planning.Greatest.{le_greatest, greatest_on_roots, start_by_greatest}
use Rattle.plan_spec.proofs.Planning.Sizes.{item_sizes}
use Rattle.plan_spec.proofs.Planning.OwnItems.{item_function}
use Rattle.plan_spec.proofs.Planning.PlacedItems.{IsOfPart, part_placed, own_part, part_owned}
use Rattle.plan_spec.proofs.Planning.Places.{items_on_roots, groups_rise, place_of_first, place_of_new_group, place_of_next}
use Rattle.plan_spec.proofs.Planning.Placings.{table_of_places}
use Rattle.plan_spec.proofs.Planning.Above.{HasWindowBefore, window_before}
use Rattle.plan_spec.proofs.Planning.InPool.{IsInPool, in_pool}
use Rattle.pci_place.specs.declared.item.Item.{Item as CodeItem}
use Rattle.pci_place.specs.declared.item.Part.{Part as CodePart}
use Rattle.pci_place.specs.declared.item.Part.TheVariants as parts
use Rattle.pci_place.specs.Items.{part_value, no_function, function_in, item_value, IsItemPartOf, IsItemIn}
use Rattle.pci_place.specs.Sorting.{SortedClass}

abbrev pub no_item : CodeItem
no_item = record { function = 0; group = 0; part = parts.Bar 0; size = 0 }

-- the code's part for a window is that of what is behind its bridge
window_part : (c : WindowKind) (f : Function) (p : CodePart) → IsItemPartOf f p → part_value c p ≡ Window c → p ≡ parts.Window (secondary f)
window_part c f (parts.Bar n) is e = cc
window_part c f parts.Rom is e = cc
window_part c f (parts.Window bus) is e = ap parts.Window (sym is.1)

-- a function stands once in a system
one_index : (s : System) → IsSystem s → (j k : ℕ) (d : Function) → j < length s → k < length s → get_or s j d ≡ get_or s k d → j ≡ k
one_index s system j k d in_j in_k same =
    let e = ap (λ (f : Function). slot_number f.slot) same in
    elim (cases_order j k) [
      | inl is ↦ is
      | inr (inl less) ↦ (let up = slots_rise s system j k d less in_k in omega (arith, up, e))
      | inr (inr more) ↦ (let up = slots_rise s system k j d more in_j in omega (arith, up, e))
    ]

module _ {c : WindowKind} {functions start : ℕ} {items : List CodeItem} (of : SortedClass c functions start items) where
  abbrev roots : List ℕ
  roots = of.roots

  abbrev s : System
  s = of.system

  abbrev value : CodeItem → Item
  value i = item_value s c i

  abbrev values : List Item
  values = map (item_value s c) items

  abbrev pub item : ℕ → CodeItem
  item k = get_or items k no_item

  abbrev bus : ℕ → ℕ
  bus k = (function_in s (item k).function).slot.bus

  abbrev pub place : CodeItem → ℕ
  place i = place_at roots s of.pools (function_in s i.function) (part_value c i.part)

  -- ---- one item

  table : IsTable roots s of.pools c (place_at roots s of.pools)
  table = table_of_places roots s of.pools c of.rooted.system of.rooted.nested of.rooted.rising of.room of.low

  value_at : (k : ℕ) (d : Item) → k < length items → get_or values k d ≡ value (item k)
  value_at k d l = get_or-map (item_value s c) items k no_item d l

  inside : (k : ℕ) → k < length items → k < length values
  inside k l = let e = length-map items (item_value s c) in omega (arith, e, l)

  found : (k : ℕ) → k < length items → Contains (all_items s of.pools c) (value (item k))
  found k l =
      Contains-permutation values (all_items s of.pools c) (value (item k)) (IsPermutation-sym (all_items s of.pools c) values of.sorted.same)
      (in_map_from (item_value s c) items (item k) (Contains-get_or items k no_item l))

  pub listed : (k : ℕ) → k < length items → Contains s (function_in s (item k).function)
  listed k l = item_function s of.pools c (value (item k)) (found k l)

  pub of_part : (k : ℕ) → k < length items → IsOfPart s of.pools c (value (item k))
  of_part k l =
      let piece : IsInPiece (own_items s of.pools c) s (value (item k)) = in_flat_map_to (own_items s of.pools c) s (value (item k)) (found k l) in
      own_part roots s of.pools c of.rooted.system of.rooted.nested table.small piece.of (value (item k)) piece.has piece.piece

  pub is_in : (k : ℕ) → k < length items → IsItemIn roots s (item k)
  is_in k l = of.sorted.each k no_item l

  place_is : (k : ℕ) → k < length items → place (item k) ≡ place_of roots s of.pools c (value (item k))
  place_is k l =
      let is = of_part k l in
      let v = value (item k) in
      ap (λ d. place_of roots s of.pools d (item_of s of.pools v.function v.part)) is.class ∙ ap (place_of roots s of.pools c) is.whole

  -- it lies in the pool
  in_pool_at : (k : ℕ) → k < length items → IsInPool (pool_of of.pools c) (place (item k)) (item k).size
  in_pool_at k l =
      let is = of_part k l in
      let i = item k in
      subst (IsInPool (pool_of of.pools c) (place i)) is.size
      (in_pool roots s of.pools of.rooted.system of.rooted.nested (place_at roots s of.pools) c table (function_in s i.function) (part_value c i.part) (listed k l) is.placed)

  pub in_numbers : (k : ℕ) → k < length items → (place (item k) < 2 ^ 64) × (place (item k) + (item k).size ≤ 2 ^ 64)
  in_numbers k l =
      let lies = in_pool_at k l in
      let some = lies.some in
      let high = lies.high in
      let low = of.low in
      (omega (arith, some, high, low), omega (arith, high, low))

  -- ---- where it stands

  group_is : (k : ℕ) (b : Bool) → k < length items → is_root roots (bus k) ≡ b → (item k).group ≡ cond b 0 (bus k)
  group_is k b l root = (is_in k l).group ∙ ap (λ t. cond t 0 (bus k)) root

  group_at : (k : ℕ) → k < length items → item_group roots (get_or values k (value no_item)) ≡ (item k).group
  group_at k l = ap (item_group roots) (value_at k (value no_item) l) ∙ sym (is_in k l).group

  window_at : (k : ℕ) → k < length items → is_root roots (bus k) ≡ false → HasWindowBefore roots s of.pools c values k (bus k)
  window_at k l off =
      let at = value_at k (value no_item) l in
      subst (λ (v : Item). HasWindowBefore roots s of.pools c values k v.function.slot.bus) at
      (window_before roots s of.pools c of.rooted.system of.rooted.nested values of.sorted.same of.sorted.ordered k (value no_item) (inside k l)
      (ap (λ (v : Item). is_root roots v.function.slot.bus) at ∙ off))

  at_start : (k : ℕ) → k < length items
      → place_of roots s of.pools c (get_or values k (value no_item)) ≡ start_of roots s of.pools c (get_or values k (value no_item)).function.slot.bus
      → place (item k) ≡ start_of roots s of.pools c (bus k)
  at_start k l starts =
      place_is k l
      ∙ subst (λ (v : Item). place_of roots s of.pools c v ≡ start_of roots s of.pools c v.function.slot.bus) (value_at k (value no_item) l) starts

  first_root : 0 < length items → is_root roots (bus 0) ≡ true
  first_root l = elim (cases_Bool (is_root roots (bus 0))) [
    | inl root ↦ root
    | inr off ↦ (let before = (window_at 0 l off).before in absurd (let impossible : ⊥ = omega (arith, before) in impossible))
  ]

  pub first_group : 0 < length items → (item 0).group ≡ 0
  first_group l = group_is 0 true l (first_root l)

  pub first_place : 0 < length items → place (item 0) ≡ start
  first_place l =
      at_start 0 l (place_of_first roots s of.rooted.nested of.pools c values of.sorted.same of.sorted.ordered (value no_item) (inside 0 l))
      ∙ start_by_greatest roots s of.pools c of.rooted.system of.rooted.nested (bus 0) (first_root l) ∙ sym of.starts

  pub some_greatest : 0 < length items → 0 < greatest_of_roots roots s of.pools c
  some_greatest l =
      let v = value (item 0) in
      let on_roots = items_beside roots s of.pools c (bus 0) in
      let beside : Contains on_roots v =
      subst (λ xs. Contains xs v) (sym (items_on_roots roots s of.pools c (bus 0) (first_root l)))
      (in_filter_from (λ (i : Item). is_root roots i.function.slot.bus) (all_items s of.pools c) v (found 0 l) (first_root l)) in
      let least = le_greatest (item_sizes on_roots) v.size (in_map_from (λ (i : Item). i.size) on_roots v beside) in
      let all = greatest_on_roots roots s of.pools c of.rooted.system of.rooted.nested (bus 0) (first_root l) in
      let some = (in_pool_at 0 l).some in
      omega (arith, least, some, all)

  pub window_start : (k n : ℕ) → k < length items → (item k).part ≡ parts.Window n → place (item k) ≡ start_of roots s of.pools c n
  window_start k n l window =
      let f = function_in s (item k).function in
      let is = subst (IsItemPartOf f) window (is_in k l).part in
      ap (λ p. place_at roots s of.pools f (part_value c p)) window
      ∙ sym (start_of_window roots s of.pools c of.rooted.nested of.rooted.system f (listed k l) is.0)
      ∙ ap (start_of roots s of.pools c) is.1

  -- the k-th item stands at `next` in the group of the item before it, and else where the window around its own group does
  pub record IsNext (starts : List ℕ) (group next k : ℕ) : Type 0 where
    pub same : group ≡ (item k).group → next ≡ place (item k)
    pub other : (group ≡ (item k).group → ⊥) → get_or starts (item k).group 0 ≡ place (item k)

  pub next_place : (starts : List ℕ) (k : ℕ) → k + 1 < length items
      → ((j n : ℕ) → j < k + 1 → (item j).part ≡ parts.Window n → get_or starts n 0 ≡ start_of roots s of.pools c n)
      → IsNext starts (item k).group (place (item k) + (item k).size) (k + 1)
  next_place starts k l opened =
      let l_k : k < length items = omega (arith, l) in
      let here = group_at k l_k in
      let there = group_at (k + 1) l in
      let none = value no_item in
      record {
        same = λ e.
            ap (λ n. n + (item k).size) (place_is k l_k)
            ∙ sym (ap (λ (v : Item). place_of roots s of.pools c v + v.size) (value_at k none l_k))
            ∙ sym (place_of_next roots s of.rooted.nested of.pools c values of.sorted.same of.sorted.ordered k none (inside (k + 1) l) (here ∙ e ∙ sym there))
            ∙ ap (place_of roots s of.pools c) (value_at (k + 1) none l) ∙ sym (place_is (k + 1) l);
        other = λ ne. elim (cases_Bool (is_root roots (bus (k + 1)))) [
          | inl root ↦
              let rise = groups_rise roots s of.rooted.nested of.pools c values of.sorted.same of.sorted.ordered k (k + 1) none none (omega arith) (inside (k + 1) l) in
              let zero = group_is (k + 1) true l root in
              absurd (ne (omega (arith, rise, here, there, zero)))
          | inr off ↦
              let window = window_at (k + 1) l off in
              let before = window.before in
              let l_j : window.j < length items = omega (arith, before, l) in
              let j = item window.j in
              let is : value j ≡ window_item s of.pools c window.bridge = sym (value_at window.j none l_j) ∙ window.window none in
              ap (λ n. get_or starts n 0) (group_is (k + 1) false l off)
              ∙ opened window.j (bus (k + 1)) before
              (window_part c (function_in s j.function) j.part (is_in window.j l_j).part (ap (λ (v : Item). v.part) is)
              ∙ ap (λ (v : Item). parts.Window (secondary v.function)) is ∙ ap parts.Window window.leads)
              ∙ sym (at_start (k + 1) l (place_of_new_group roots s of.rooted.nested of.pools c values of.sorted.same of.sorted.ordered k none (inside (k + 1) l)
              (λ e. ne (sym here ∙ e ∙ there))))
        ];
      }

  -- ---- the item of a part

  pub has_item : (k : ℕ) (f : Function) (part : Part) → slice_get s k ≡ Some f → is_placed s of.pools c f part ≡ true
      → (j : ℕ) × (j < length items) × ((item j).function ≡ k) × (part_value c (item j).part ≡ part)
  has_item k f part at there =
      let v = item_of s of.pools f part in
      let within = slice_get_within s k f at in
      let here : Contains s f = (k, within, get_or_from_slice_get s k f f at) in
      let own = part_owned roots s of.pools c of.rooted.system of.rooted.nested table.small f part here there in
      let among = Contains-permutation (all_items s of.pools c) values v of.sorted.same (in_flat_map_from (own_items s of.pools c) s f v here own) in
      let inside_values = among.1 in
      let e = length-map items (item_value s c) in
      let l : among.0 < length items = omega (arith, e, inside_values) in
      let is : value (item among.0) ≡ v = sym (value_at among.0 v l) ∙ among.2 in
      let is_of = part_placed s of.pools f part in (
        among.0,
        l,
        one_index s of.rooted.system (item among.0).function k no_function (is_in among.0 l).within within
            (ap (λ (i : Item). i.function) is ∙ ap (λ (p : PlacedPart). p.function) is_of ∙ sym (get_or_from_slice_get s k f no_function at)),
        ap (λ (i : Item). i.part) is ∙ ap (λ (p : PlacedPart). p.part) is_of,
      )
