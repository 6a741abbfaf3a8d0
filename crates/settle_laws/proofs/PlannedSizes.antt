-- What planning takes for the items of a bus holds what settling takes for them, and no item of settling is without one of planning.
use Rattle.std.proofs.Common.{◌≡◌, ◌&&◌, ℕ, ◌^◌, ◌≤◌, inl, inr, List, [], ◌∷◌, ◌++◌, map, cond, ◌⊎◌, true, false, Bool, not, refl, arith, sym, ◌∙◌, ap, subst}
use Rattle.std.specs.Bool.{nat_lt}
use Rattle.std.specs.List.{Contains, filter, flat_map, list_any, sum, sum_by}
use Rattle.std.proofs.lemmas.Bool.{cases_Bool, and_parts, and_from, both_ways, not-true}
use Rattle.std.proofs.lemmas.List.Elements.{Contains-append_left, Contains-append_right, Contains-append_cases}
use Rattle.std.proofs.lemmas.List.Sorted.{sum_by-IsPermutation}
use Rattle.std.proofs.lemmas.List.Sums.{sum_by-cons, sum_by-append, sum-map}
use Rattle.pci_spec.specs.Bar.{has_bar}
use Rattle.pci_spec.specs.Rom.{has_rom, rom_is_on}
use Rattle.pci_spec.specs.Window.{WindowKind, IoWindow, MemoryWindow, PrefetchWindow}
use Rattle.pci_spec.specs.System.{System, Function, IsSystem, Part, Bar, Rom, Window, is_bridge, is_window, is_implemented, bars_and_rom}
use Rattle.pci_spec.specs.Bus.{is_behind, are_siblings, IsNested}
use Rattle.pci_spec.proofs.Members.{in_nil, in_cons_cases, in_head, in_tail, in_filter_to, in_filter_from, in_map_to, IsMade}
use Rattle.plan_spec.specs.Plan.{Pools, class_of, same_class, size_of, sizes_in, window_size, limited, has_behind}
use Rattle.plan_spec.specs.Place.{Item as PlannedItem, own_items, items_beside}
use Rattle.plan_spec.specs.Planning.BusNeeds.{window_need}
use Rattle.plan_spec.specs.Planning.Table.{need_behind, size_in}
use Rattle.plan_spec.proofs.Planning.Behind.{Passes, any_gives, any_from, behind_by_test}
use Rattle.plan_spec.proofs.Planning.Order.{sum_filter}
use Rattle.plan_spec.proofs.Planning.Sizes.{item_sizes, own_sum}
use Rattle.settle_spec.specs.FirstPlace.{Extent}
use Rattle.settle_spec.specs.Lists.{Request}
use Rattle.settle_spec.specs.Parts.{FunctionPart, is_left, is_part, header_bars, header_parts, parts_of, function_parts, class_in}
use Rattle.settle_spec.specs.Stands.{window_part}
use Rattle.settle_spec.specs.Items.{PlacingItem, in_turn, own_item, is_own, has_of, items_of, bus_items}
use Rattle.settle_spec.proofs.InTurn.{turn_same}

-- what planning takes for an item of settling
abbrev pub planned : System → Pools → WindowKind → PlacingItem → ℕ
planned s pools c i = size_in s pools c i.region.function i.region.part

-- sums of lists that are made of the same elements, each of which makes no more
flat_below : {X Y : Type 0} (v : X → ℕ) (w : Y → ℕ) (f : Function → List X) (g : Function → List Y) (s : System)
    → ((x : Function) → Contains s x → sum_by v (f x) ≤ sum_by w (g x)) → sum_by v (flat_map f s) ≤ sum_by w (flat_map g s)
flat_below v w f g [] each = omega arith
flat_below v w f g (x ∷ s) each =
    let a = sum_by-append v (f x) (flat_map f s) in
    let b = sum_by-append w (g x) (flat_map g s) in
    let here = each x (in_head x s) in
    let rest = flat_below v w f g s (λ y listed. each y (in_tail x s y listed)) in
    omega (arith, a, b, here, rest)

cond_below : {X Y : Type 0} (v : X → ℕ) (w : Y → ℕ) (b : Bool) (xs : List X) (ys : List Y) → sum_by v xs ≤ sum_by w ys → sum_by v (cond b xs []) ≤ sum_by w (cond b ys [])
cond_below v w true xs ys less = less
cond_below v w false xs ys less = omega arith

nothing_twice : (b d : Bool) → ◌≡◌ {A = ℕ} (cond b (cond d 0 0) 0) 0
nothing_twice true true = refl
nothing_twice true false = refl
nothing_twice false d = refl

module _ (q : Request) (s : System) (pools : Pools) (c : WindowKind) (classes : (f : Function) (p : Part) → class_in q s f p ≡ class_of s pools f p) where
  abbrev size : PlacingItem → ℕ
  size i = planned s pools c i

  pub size_plain : (f : Function) (p : Part) → is_window p ≡ false → size_in s pools c f p ≡ size_of f p
  size_plain f (Bar n) plain = refl
  size_plain f Rom plain = refl
  size_plain f (Window kind) plain = absurd (both_ways true plain refl)

  implemented : (f : Function) (p : Part) → is_window p ≡ false → is_part q s f p ≡ true → is_implemented f p ≡ true
  implemented f (Bar n) plain part = (and_parts (has_bar f.probe n) (not (is_left q s f (Bar n))) part).0
  implemented f Rom plain part = (and_parts (has_rom f.image f.probe) (rom_is_on f.image) part).0
  implemented f (Window kind) plain part = absurd (both_ways true plain refl)

  plain_in_header : (f : Function) (p : Part) → Contains (header_parts f) p → is_window p ≡ false → Contains (header_bars f) p ⊎ (Rom ≡ p)
  plain_in_header f p has plain = elim (Contains-append_cases (header_bars f) (Window IoWindow ∷ Window MemoryWindow ∷ Window PrefetchWindow ∷ Rom ∷ []) p has) [
    | inl bar ↦ inl bar
    | inr other ↦ inr (elim (in_cons_cases (Window IoWindow) (Window MemoryWindow ∷ Window PrefetchWindow ∷ Rom ∷ []) p other) [
      | inl io ↦ absurd (both_ways true (ap is_window io ∙ plain) refl)
      | inr more ↦ elim (in_cons_cases (Window MemoryWindow) (Window PrefetchWindow ∷ Rom ∷ []) p more) [
        | inl memory ↦ absurd (both_ways true (ap is_window memory ∙ plain) refl)
        | inr still ↦ elim (in_cons_cases (Window PrefetchWindow) (Rom ∷ []) p still) [
          | inl prefetch ↦ absurd (both_ways true (ap is_window prefetch ∙ plain) refl)
          | inr rom ↦ elim (in_cons_cases Rom [] p rom) [ inl is ↦ is | inr none ↦ absurd (in_nil p none) ]
        ]
      ]
    ])
  ]

  -- what settling looks at is among the BARs and ROM of planning
  pub part_is_planned : (f : Function) (p : Part) → Contains (header_parts f) p → is_window p ≡ false → is_part q s f p ≡ true → Contains (bars_and_rom f) p
  part_is_planned f p there plain part =
      in_filter_from (is_implemented f) (header_bars f ++ Rom ∷ []) p (elim (plain_in_header f p there plain) [
        | inl bar ↦ Contains-append_left (header_bars f) (Rom ∷ []) p bar
        | inr rom ↦ Contains-append_right (header_bars f) (Rom ∷ []) p (subst (Contains (Rom ∷ [])) rom (in_head Rom []))
      ]) (implemented f p plain part)

  pub record IsPlannedBehind (b : Function) : Type 0 where
    pub f : Function
    pub p : Part
    pub listed : Contains s f
    pub behind : is_behind b f.slot.bus ≡ true
    pub part : Contains (bars_and_rom f) p
    pub class : same_class c (class_of s pools f p) ≡ true

  pub planned_behind : (b : Function) → has_of q s c b ≡ true → IsPlannedBehind b
  planned_behind b has =
      let found : Passes (λ f. is_behind b f.slot.bus && list_any (is_own q s c) (function_parts q s f)) s = any_gives (λ f. is_behind b f.slot.bus && list_any (is_own q s c) (function_parts q s f)) s has in
      let f = found.x in
      let is = and_parts (is_behind b f.slot.bus) (list_any (is_own q s c) (function_parts q s f)) found.is in
      let r : Passes (is_own q s c) (function_parts q s f) = any_gives (is_own q s c) (function_parts q s f) is.1 in
      let made : IsMade (λ p. record { function = f; part = p }) (parts_of q s f) r.x = in_map_to (λ p. record { function = f; part = p }) (parts_of q s f) r.x r.listed in
      let p = made.from in
      let part = in_filter_to (is_part q s f) (header_parts f) p made.has in
      let own : is_own q s c record { function = f; part = p } ≡ true = ap (is_own q s c) made.is ∙ r.is in
      let split = and_parts (not (is_window p)) (same_class c (class_in q s f p)) own in
      record {
        f = f;
        p = p;
        listed = found.listed;
        behind = is.0;
        part = part_is_planned f p part.0 (not-true (is_window p) split.0) part.1;
        class = sym (ap (same_class c) (classes f p)) ∙ split.1;
      }

  pub has_planned_behind : (b : Function) → has_of q s c b ≡ true → has_behind s pools c b ≡ true
  has_planned_behind b has =
      let is = planned_behind b has in
      any_from (λ f. is_behind b f.slot.bus && list_any (λ part. same_class c (class_of s pools f part)) (bars_and_rom f)) s is.f is.listed
      (and_from (is_behind b is.f.slot.bus) (list_any (λ part. same_class c (class_of s pools is.f part)) (bars_and_rom is.f)) is.behind
      (any_from (λ part. same_class c (class_of s pools is.f part)) (bars_and_rom is.f) is.p is.part is.class))

  -- ---- sums

  module _ (system : IsSystem s) (nested : IsNested q.roots s) (small : (b : Function) → Contains s b → is_bridge b ≡ true → need_behind s pools c b ≤ 2 ^ 65) where
    module _ (keeps : FunctionPart → Bool) (extent : Function → Extent) where
      abbrev kept : FunctionPart → Bool
      kept r = is_own q s c r && not (keeps r)

      abbrev opens : Function → Bool
      opens f = is_bridge f && has_of q s c f && not (keeps (window_part c f))

      abbrev window : Function → PlacingItem
      window f = record { region = window_part c f; class = c; extent = extent f }

      module _ (f : Function) where
        abbrev region : Part → FunctionPart
        region p = record { function = f; part = p }

        abbrev own_list : List Part → List PlacingItem
        own_list parts = map (own_item c) (filter kept (map region (filter (is_part q s f) parts)))

        abbrev of_class : Part → Bool
        of_class p = same_class c (class_of s pools f p)

        -- what a part makes in planning
        abbrev term : Part → ℕ
        term p = cond (is_implemented f p) (cond (of_class p) (size_of f p) 0) 0

        own_term : (p : Part) → is_part q s f p ≡ true → kept (region p) ≡ true → size_in s pools c f p ≡ term p
        own_term p part keep =
            let own = and_parts (not (is_window p)) (same_class c (class_in q s f p)) (and_parts (is_own q s c (region p)) (not (keeps (region p))) keep).0 in
            let plain = not-true (is_window p) own.0 in
            let same : of_class p ≡ true = sym (ap (same_class c) (classes f p)) ∙ own.1 in
            size_plain f p plain
            ∙ sym (ap (λ b. cond b (size_of f p) 0) same)
            ∙ sym (ap (λ b. cond b (cond (of_class p) (size_of f p) 0) 0) (implemented f p plain part))

        own_below : (parts : List Part) → sum_by size (own_list parts) ≤ sum_by term parts
        own_below [] = omega arith
        own_below (p ∷ parts) =
            let rest = own_below parts in
            let step = sum_by-cons term p parts in
            let kept_later = filter kept (map region (filter (is_part q s f) parts)) in
            elim (cases_Bool (is_part q s f p)) [
              | inr off ↦
                  let e : sum_by size (own_list (p ∷ parts)) ≡ sum_by size (own_list parts) =
                  ap (λ b. sum_by size (map (own_item c) (filter kept (map region (cond b (p ∷ filter (is_part q s f) parts) (filter (is_part q s f) parts)))))) off in
                  omega (arith, e, step, rest)
              | inl on ↦
                  let there : sum_by size (own_list (p ∷ parts)) ≡ sum_by size (map (own_item c) (cond (kept (region p)) (region p ∷ kept_later) kept_later)) =
                  ap (λ b. sum_by size (map (own_item c) (filter kept (map region (cond b (p ∷ filter (is_part q s f) parts) (filter (is_part q s f) parts)))))) on in
                  elim (cases_Bool (kept (region p))) [
                    | inr off ↦
                        let e : sum_by size (own_list (p ∷ parts)) ≡ sum_by size (own_list parts) =
                        there ∙ ap (λ b. sum_by size (map (own_item c) (cond b (region p ∷ kept_later) kept_later))) off in
                        omega (arith, e, step, rest)
                    | inl keep ↦
                        let e : sum_by size (own_list (p ∷ parts)) ≡ sum_by size (own_item c (region p) ∷ own_list parts) =
                        there ∙ ap (λ b. sum_by size (map (own_item c) (cond b (region p ∷ kept_later) kept_later))) keep in
                        let more = sum_by-cons size (own_item c (region p)) (own_list parts) in
                        let is = own_term p on keep in
                        omega (arith, e, more, is, step, rest)
                  ]
            ]

        window_term : (kind : WindowKind) → term (Window kind) ≡ 0
        window_term kind = nothing_twice (is_implemented f (Window kind)) (of_class (Window kind))

        terms_are : sum_by term (header_parts f) ≡ sum (sizes_in s pools c f)
        terms_are =
            let all = header_bars f ++ Rom ∷ [] in
            let one = sum-map (size_of f) (filter of_class (filter (is_implemented f) all)) in
            let two = sum_filter (size_of f) of_class (filter (is_implemented f) all) in
            let three = sum_filter (λ p. cond (of_class p) (size_of f p) 0) (is_implemented f) all in
            let split = sum_by-append term (header_bars f) (Window IoWindow ∷ Window MemoryWindow ∷ Window PrefetchWindow ∷ Rom ∷ []) in
            let other = sum_by-append term (header_bars f) (Rom ∷ []) in
            let a = sum_by-cons term (Window IoWindow) (Window MemoryWindow ∷ Window PrefetchWindow ∷ Rom ∷ []) in
            let b = sum_by-cons term (Window MemoryWindow) (Window PrefetchWindow ∷ Rom ∷ []) in
            let d = sum_by-cons term (Window PrefetchWindow) (Rom ∷ []) in
            let io = window_term IoWindow in
            let memory = window_term MemoryWindow in
            let prefetch = window_term PrefetchWindow in
            omega (arith, one, two, three, split, other, a, b, d, io, memory, prefetch)

        window_below : Contains s f → sum_by size (cond (opens f) (window f ∷ []) []) ≤ window_need c f (need_behind s pools c f)
        window_below listed = elim (cases_Bool (opens f)) [
          | inr off ↦ (let e : sum_by size (cond (opens f) (window f ∷ []) []) ≡ 0 = ap (λ b. sum_by size (cond b (window f ∷ []) [])) off in omega (arith, e))
          | inl on ↦
              let n = need_behind s pools c f in
              let is = and_parts (is_bridge f) (has_of q s c f) (and_parts (is_bridge f && has_of q s c f) (not (keeps (window_part c f))) on).0 in
              let some : nat_lt 0 n ≡ true = sym (behind_by_test q.roots s pools c system nested f listed is.0) ∙ has_planned_behind f is.1 in
              let both : (is_bridge f && nat_lt 0 n) ≡ true = and_from (is_bridge f) (nat_lt 0 n) is.0 some in
              let less = small f listed is.0 in
              let whole : limited n ≡ n = omega (arith, less) in
              let to : window_need c f n ≡ window_size c n = ap (λ b. cond b (window_size c (limited n)) 0) both ∙ ap (window_size c) whole in
              let e : sum_by size (cond (opens f) (window f ∷ []) []) ≡ sum_by size (window f ∷ []) = ap (λ b. sum_by size (cond b (window f ∷ []) [])) on in
              let one = sum_by-cons size (window f) [] in
              omega (arith, e, one, to)
        ]

        function_below : Contains s f → sum_by size (items_of q s c keeps extent f) ≤ sum_by (λ (i : PlannedItem). i.size) (own_items s pools c f)
        function_below listed =
            let split = sum_by-append size (own_list (header_parts f)) (cond (opens f) (window f ∷ []) []) in
            let own = own_below (header_parts f) in
            let is = terms_are in
            let more = window_below listed in
            let to = own_sum s pools c q.roots system nested f listed in
            omega (arith, split, own, is, more, to)

      -- all items of a bus
      pub items_below : (bus : ℕ) → sum_by size (bus_items q s c keeps extent bus) ≤ sum (item_sizes (items_beside q.roots s pools c bus))
      items_below bus =
          let on : Function → List PlacingItem = λ f. cond (are_siblings q.roots bus f.slot.bus) (items_of q s c keeps extent f) [] in
          let all = flat_map on s in
          let turned = sum_by-IsPermutation size all (in_turn all) (turn_same all) in
          let to = sum-map (λ (i : PlannedItem). i.size) (items_beside q.roots s pools c bus) in
          let below = flat_below size (λ (i : PlannedItem). i.size) on (λ f. cond (are_siblings q.roots bus f.slot.bus) (own_items s pools c f) []) s
          (λ f listed. cond_below size (λ (i : PlannedItem). i.size) (are_siblings q.roots bus f.slot.bus) (items_of q s c keeps extent f) (own_items s pools c f) (function_below f listed)) in
          omega (arith, turned, to, below)
