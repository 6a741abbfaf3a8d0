-- The sizes of the items of a bus are those that its need is the sum of.
use Rattle.std.proofs.Common.{◌≡◌, ℕ, ◌+◌, ◌<◌, inl, inr, List, [], ◌∷◌, ◌++◌, refl, Bool, true, false, cond, ◌&&◌, ◌||◌, arith, sym, ◌∙◌, ap, subst, map, append_assoc}
use Rattle.std.specs.Bool.{nat_lt, ◌==◌, if◌then◌else◌}
use Rattle.std.specs.List.{Contains, AllPairs, filter, flat_map, sum, sum_by}
use Rattle.std.specs.List.Sorted.{IsPermutation, IsStrictlyIncreasing}
use Rattle.std.proofs.lemmas.Bool.{cases_Bool, both_ways, eqb-true, eq-eqb, ne_eqb, false_from_ne_true}
use Rattle.std.proofs.lemmas.List.{map-append}
use Rattle.std.proofs.lemmas.List.Elements.{filter-append}
use Rattle.std.proofs.lemmas.List.Sums.{sum_by-cons, sum_by-append, sum-map}
use Rattle.std.proofs.lemmas.List.Sorted.{sum_by-IsPermutation, IsPermutation-append_comm, IsPermutation-append_right}
use Rattle.pci_spec.specs.Window.{WindowKind}
use Rattle.pci_spec.specs.System.{System, Function, IsSystem, Part, Rom, is_bridge, is_implemented}
use Rattle.pci_spec.specs.Bus.{is_root, are_siblings, IsNested}
use Rattle.plan_spec.specs.Plan.{Pools, class_of, same_class, size_of, sizes_in, window_size, limited, items_on, has_behind}
use Rattle.plan_spec.specs.Place.{Item, part_item, window_item, items_among, own_items, items_beside}
use Rattle.plan_spec.specs.Planning.Room.{root_items}
use Rattle.plan_spec.specs.Planning.Table.{need_behind}
use Rattle.plan_spec.specs.Planning.BusNeeds.{added}
use Rattle.pci_spec.proofs.Members.{pairs_head, pairs_tail}
use Rattle.pci_spec.proofs.Rising.{pairs_of_rising}
use Rattle.pci_spec.proofs.BusRanges.{root_means}
use Rattle.plan_spec.proofs.Planning.Sums.{need_added}
use Rattle.plan_spec.proofs.Planning.Behind.{behind_by_test}
use Rattle.plan_spec.proofs.Planning.Order.{sum_same}
use Rattle.plan_spec.proofs.Planning.OwnItems.{bar_parts, window_items}
use Rattle.plan_spec.proofs.Planning.Places.{beside_root}

-- ---- lists

map_map : {X Y Z : Type 0} (f : X → Y) (g : Y → Z) (xs : List X) → map g (map f xs) ≡ map (λ x. g (f x)) xs
map_map f g [] = refl
map_map f g (x ∷ xs) = ap (λ zs. g (f x) ∷ zs) (map_map f g xs)

sum_flat_map : {X Y : Type 0} (w : Y → ℕ) (f : X → List Y) (xs : List X) → sum_by w (flat_map f xs) ≡ sum_by (λ x. sum_by w (f x)) xs
sum_flat_map w f [] = refl
sum_flat_map w f (x ∷ xs) =
    let a = sum_by-append w (f x) (flat_map f xs) in
    let c = sum_by-cons (λ y. sum_by w (f y)) x xs in
    let rest = sum_flat_map w f xs in
    omega (arith, a, c, rest)

sum_split : {X : Type 0} (h f g : X → ℕ) (xs : List X) → ((x : X) → h x ≡ f x + g x) → sum_by h xs ≡ sum_by f xs + sum_by g xs
sum_split h f g [] each = refl
sum_split h f g (x ∷ xs) each =
    let a = sum_by-cons h x xs in
    let b = sum_by-cons f x xs in
    let e = sum_by-cons g x xs in
    let here = each x in
    let rest = sum_split h f g xs each in
    omega (arith, a, b, e, here, rest)

-- ---- the items of a function

abbrev pub item_sizes : List Item → List ℕ
item_sizes items = map (λ (i : Item). i.size) items

abbrev pub window_sizes : System → Pools → WindowKind → Function → List ℕ
window_sizes s pools c f = if is_bridge f && nat_lt 0 (need_behind s pools c f) then window_size c (limited (need_behind s pools c f)) ∷ [] else []

module _ (s : System) (pools : Pools) (c : WindowKind) where
  among_sizes : (f : Function) (parts : List Part) → item_sizes (items_among s pools c f parts) ≡ map (size_of f) (filter (λ part. same_class c (class_of s pools f part)) (filter (is_implemented f) parts))
  among_sizes f parts = map_map (part_item f) (λ (i : Item). i.size) (filter (λ part. same_class c (class_of s pools f part)) (filter (is_implemented f) parts))

  part_sizes : (f : Function) → sizes_in s pools c f ≡ item_sizes (items_among s pools c f (bar_parts f)) ++ item_sizes (items_among s pools c f (Rom ∷ []))
  part_sizes f =
      let same : Part → Bool = λ part. same_class c (class_of s pools f part) in
      ap (λ parts. map (size_of f) (filter same parts)) (filter-append (is_implemented f) (bar_parts f) (Rom ∷ []))
      ∙ ap (map (size_of f)) (filter-append same (filter (is_implemented f) (bar_parts f)) (filter (is_implemented f) (Rom ∷ [])))
      ∙ map-append (size_of f) (filter same (filter (is_implemented f) (bar_parts f))) (filter same (filter (is_implemented f) (Rom ∷ [])))
      ∙ ap (λ xs. xs ++ map (size_of f) (filter same (filter (is_implemented f) (Rom ∷ [])))) (sym (among_sizes f (bar_parts f)))
      ∙ ap (λ xs. item_sizes (items_among s pools c f (bar_parts f)) ++ xs) (sym (among_sizes f (Rom ∷ [])))

  module _ (roots : List ℕ) (system : IsSystem s) (nested : IsNested roots s) where
    window_test : (f : Function) → Contains s f → (is_bridge f && has_behind s pools c f) ≡ (is_bridge f && nat_lt 0 (need_behind s pools c f))
    window_test f listed = elim (cases_Bool (is_bridge f)) [
      | inl bridge ↦ ap (λ b. is_bridge f && b) (behind_by_test roots s pools c system nested f listed bridge)
      | inr device ↦ ap (λ b. b && has_behind s pools c f) device ∙ sym (ap (λ b. b && nat_lt 0 (need_behind s pools c f)) device)
    ]

    one_size : (b : Bool) (i : Item) → item_sizes (cond b (i ∷ []) []) ≡ cond b (i.size ∷ []) []
    one_size true i = refl
    one_size false i = refl

    own_window : (f : Function) → Contains s f → item_sizes (window_items s pools c f) ≡ window_sizes s pools c f
    own_window f listed =
        one_size (is_bridge f && has_behind s pools c f) (window_item s pools c f)
        ∙ ap (λ b. cond b (window_size c (limited (need_behind s pools c f)) ∷ []) []) (window_test f listed)

    own_split : (f : Function) → item_sizes (own_items s pools c f)
        ≡ item_sizes (items_among s pools c f (bar_parts f)) ++ (item_sizes (window_items s pools c f) ++ item_sizes (items_among s pools c f (Rom ∷ [])))
    own_split f =
        map-append (λ (i : Item). i.size) (items_among s pools c f (bar_parts f)) (window_items s pools c f ++ items_among s pools c f (Rom ∷ []))
        ∙ ap (λ xs. item_sizes (items_among s pools c f (bar_parts f)) ++ xs) (map-append (λ (i : Item). i.size) (window_items s pools c f) (items_among s pools c f (Rom ∷ [])))

    -- a function's items have the sizes of its BARs and ROM, and of its window
    pub own_permutes : (f : Function) → Contains s f → IsPermutation (sizes_in s pools c f ++ window_sizes s pools c f) (item_sizes (own_items s pools c f))
    own_permutes f listed =
        let bars = item_sizes (items_among s pools c f (bar_parts f)) in
        let rom = item_sizes (items_among s pools c f (Rom ∷ [])) in
        let window = window_sizes s pools c f in
        let from : sizes_in s pools c f ++ window ≡ bars ++ (rom ++ window) = ap (λ xs. xs ++ window) (part_sizes f) ∙ append_assoc bars rom window in
        let to : item_sizes (own_items s pools c f) ≡ bars ++ (window ++ rom) = own_split f ∙ ap (λ xs. bars ++ (xs ++ rom)) (own_window f listed) in
        subst (λ xs. IsPermutation xs (item_sizes (own_items s pools c f))) (sym from)
        (subst (λ ys. IsPermutation (bars ++ (rom ++ window)) ys) (sym to)
        (IsPermutation-append_right bars (rom ++ window) (window ++ rom) (IsPermutation-append_comm rom window)))

    window_sum : (b : Bool) (size : ℕ) → sum (cond b (size ∷ []) []) ≡ cond b size 0
    window_sum true size = let e : 0 + size ≡ size = omega arith in e
    window_sum false size = refl

    pub own_sum : (f : Function) → Contains s f → sum_by (λ (i : Item). i.size) (own_items s pools c f) ≡ added s pools c f (need_behind s pools c f)
    own_sum f listed =
        let n = need_behind s pools c f in
        let m = sum-map (λ (i : Item). i.size) (own_items s pools c f) in
        let p : sum (item_sizes (own_items s pools c f)) ≡ sum (sizes_in s pools c f ++ window_sizes s pools c f) =
        sum_by-IsPermutation (λ n. n) (sizes_in s pools c f ++ window_sizes s pools c f) (item_sizes (own_items s pools c f)) (own_permutes f listed) in
        let a : sum (sizes_in s pools c f ++ window_sizes s pools c f) ≡ sum (sizes_in s pools c f) + sum (window_sizes s pools c f) =
        sum_by-append (λ n. n) (sizes_in s pools c f) (window_sizes s pools c f) in
        let w = window_sum (is_bridge f && nat_lt 0 n) (window_size c (limited n)) in
        omega (arith, m, p, a, w)

    -- ---- the items of a bus

    cond_sum : (b : Bool) (items : List Item) (n : ℕ) → sum_by (λ (i : Item). i.size) items ≡ n → sum_by (λ (i : Item). i.size) (cond b items []) ≡ cond b n 0
    cond_sum true items n e = e
    cond_sum false items n e = refl

    beside_sum : (bus : ℕ) → sum (item_sizes (items_beside roots s pools c bus))
        ≡ sum_by (λ f. if are_siblings roots bus f.slot.bus then added s pools c f (need_behind s pools c f) else 0) s
    beside_sum bus =
        sum-map (λ (i : Item). i.size) (items_beside roots s pools c bus)
        ∙ sum_flat_map (λ (i : Item). i.size) (λ f. if are_siblings roots bus f.slot.bus then own_items s pools c f else []) s
        ∙ sum_same (λ f. sum_by (λ (i : Item). i.size) (if are_siblings roots bus f.slot.bus then own_items s pools c f else []))
        (λ f. if are_siblings roots bus f.slot.bus then added s pools c f (need_behind s pools c f) else 0) s
        (λ f listed. cond_sum (are_siblings roots bus f.slot.bus) (own_items s pools c f) (added s pools c f (need_behind s pools c f)) (own_sum f listed))

    or_false : (x y z : Bool) → z ≡ false → (x || (z && y)) ≡ x
    or_false true y z off = refl
    or_false false y z off = ap (λ b. b && y) off

    other_way : (a b : ℕ) → (a == b) ≡ (b == a)
    other_way a b = elim (cases_Bool (a == b)) [
      | inl same ↦ same ∙ sym (eq-eqb b a (sym (eqb-true a b same)))
      | inr differ ↦ differ ∙ sym (ne_eqb b a (λ e. both_ways (a == b) differ (eq-eqb a b (sym e))))
    ]

    -- what is on a bus that is no root
    pub sum_on_bus : (bus : ℕ) → is_root roots bus ≡ false → sum (item_sizes (items_beside roots s pools c bus)) ≡ sum (items_on s pools c bus)
    sum_on_bus bus off =
        beside_sum bus
        ∙ sum_same (λ f. if are_siblings roots bus f.slot.bus then added s pools c f (need_behind s pools c f) else 0)
        (λ f. if f.slot.bus == bus then added s pools c f (need_behind s pools c f) else 0) s
        (λ f listed. ap (λ b. cond b (added s pools c f (need_behind s pools c f)) 0) (or_false (bus == f.slot.bus) (is_root roots f.slot.bus) (is_root roots bus) off ∙ other_way bus f.slot.bus))
        ∙ sym (need_added s pools c bus roots system nested)

    -- ---- the items of all roots

    abbrev on_some : List ℕ → Function → ℕ
    on_some some f = if is_root some f.slot.bus then added s pools c f (need_behind s pools c f) else 0

    abbrev on_one : ℕ → Function → ℕ
    on_one bus f = if f.slot.bus == bus then added s pools c f (need_behind s pools c f) else 0

    one_or_more : (here more : Bool) (n : ℕ) → (here ≡ true → more ≡ false) → cond (here || more) n 0 ≡ cond here n 0 + cond more n 0
    one_or_more true true n apart = absurd (both_ways true (apart refl) refl)
    one_or_more true false n apart = omega arith
    one_or_more false more n apart = omega arith

    none_sum : (xs : List Function) → sum_by (on_some []) xs ≡ 0
    none_sum [] = refl
    none_sum (f ∷ xs) = none_sum xs

    some_sum : (some : List ℕ) → AllPairs (λ x y. x < y) some → sum_by (on_some some) s ≡ sum (flat_map (items_on s pools c) some)
    some_sum [] rise = none_sum s
    some_sum (r ∷ some) rise =
        let split : sum_by (on_some (r ∷ some)) s ≡ sum_by (on_one r) s + sum_by (on_some some) s =
        sum_split (on_some (r ∷ some)) (on_one r) (on_some some) s
        (λ f. ap (λ b. cond (b || is_root some f.slot.bus) (added s pools c f (need_behind s pools c f)) 0) (other_way r f.slot.bus)
        ∙ one_or_more (f.slot.bus == r) (is_root some f.slot.bus) (added s pools c f (need_behind s pools c f))
        (λ here. false_from_ne_true (is_root some f.slot.bus) (λ later.
        let at = eqb-true f.slot.bus r here in
        let up = pairs_head (λ x y. x < y) r some f.slot.bus rise ((root_means some f.slot.bus).0 later) in
        let impossible : ⊥ = omega (arith, at, up) in impossible))) in
        let one = need_added s pools c r roots system nested in
        let rest = some_sum some (pairs_tail (λ x y. x < y) r some rise) in
        let a : sum (items_on s pools c r ++ flat_map (items_on s pools c) some) ≡ sum (items_on s pools c r) + sum (flat_map (items_on s pools c) some) =
        sum_by-append (λ n. n) (items_on s pools c r) (flat_map (items_on s pools c) some) in
        omega (arith, split, one, rest, a)

    pub sum_on_roots : (bus : ℕ) → is_root roots bus ≡ true → IsStrictlyIncreasing roots → sum (item_sizes (items_beside roots s pools c bus)) ≡ sum (root_items roots s pools c)
    sum_on_roots bus root rising =
        beside_sum bus
        ∙ sum_same (λ f. if are_siblings roots bus f.slot.bus then added s pools c f (need_behind s pools c f) else 0) (on_some roots) s
        (λ f listed. ap (λ b. cond b (added s pools c f (need_behind s pools c f)) 0) (beside_root roots bus f.slot.bus root))
        ∙ some_sum roots (pairs_of_rising roots rising)
