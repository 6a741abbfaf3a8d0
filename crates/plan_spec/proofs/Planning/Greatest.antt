-- Where the roots start: the greatest item on them is the greatest size of their needs.
use Rattle.std.proofs.Common.{◌≡◌, ℕ, ◌≤◌, ◌⊎◌, inl, inr, List, [], ◌∷◌, ◌++◌, refl, Bool, true, cond, ◌&&◌, max, arith, sym, ◌∙◌, ap, subst}
use Rattle.std.specs.Bool.{nat_lt, ◌==◌, if◌then◌else◌}
use Rattle.std.specs.List.{Contains, flat_map, fold}
use Rattle.std.proofs.lemmas.Bool.{and_parts, and_from, eqb-true, eq-eqb}
use Rattle.std.proofs.lemmas.List.Elements.{Contains-append_cases, Contains-append_left, Contains-append_right}
use Rattle.std.proofs.lemmas.List.Sorted.{IsPermutation-sym, Contains-permutation}
use Rattle.pci_spec.specs.Window.{WindowKind}
use Rattle.pci_spec.specs.System.{System, Function, IsSystem, is_bridge}
use Rattle.pci_spec.specs.Bus.{is_root, are_siblings, IsNested}
use Rattle.plan_spec.specs.Plan.{Pools, pool_of, sizes_in, window_size, limited, items_on, greatest, greatest_of_roots, raised_to, own_sizes, window_over}
use Rattle.plan_spec.specs.Place.{Item, own_items, items_beside, start_of}
use Rattle.plan_spec.specs.Planning.Room.{root_items}
use Rattle.plan_spec.specs.Planning.Table.{need_behind}
use Rattle.pci_spec.proofs.Members.{IsMade, IsInPiece, in_nil, in_head, in_tail, in_cons_cases, in_map_to, in_map_from, in_flat_map_to, in_flat_map_from}
use Rattle.pci_spec.proofs.BusRanges.{root_means}
use Rattle.plan_spec.proofs.Planning.Needs.{items_by_behind}
use Rattle.plan_spec.proofs.Planning.Safe.{slots_of, order_of}
use Rattle.plan_spec.proofs.Planning.Starts.{start_of_root}
use Rattle.plan_spec.proofs.Planning.OwnItems.{in_cond}
use Rattle.plan_spec.proofs.Planning.Places.{beside_root}
use Rattle.plan_spec.proofs.Planning.Sizes.{item_sizes, window_sizes, own_permutes}

-- ---- the greatest of some numbers

max_covers : (m : ℕ) (xs : List ℕ) (n : ℕ) → (n ≤ m) ⊎ Contains xs n → n ≤ fold max m xs
max_covers m [] n (inl le) = le
max_covers m [] n (inr listed) = absurd (in_nil n listed)
max_covers m (x ∷ xs) n (inl le) = max_covers (max m x) xs n (inl (omega (arith, le)))
max_covers m (x ∷ xs) n (inr listed) = elim (in_cons_cases x xs n listed) [
  | inl here ↦ max_covers (max m x) xs n (inl (omega (arith, here)))
  | inr later ↦ max_covers (max m x) xs n (inr later)
]

max_least : (m : ℕ) (xs : List ℕ) (most : ℕ) → m ≤ most → ((n : ℕ) → Contains xs n → n ≤ most) → fold max m xs ≤ most
max_least m [] most le each = le
max_least m (x ∷ xs) most le each = max_least (max m x) xs most (let l = each x (in_head x xs) in omega (arith, l, le)) (λ n listed. each n (in_tail x xs n listed))

pub le_greatest : (xs : List ℕ) (n : ℕ) → Contains xs n → n ≤ greatest xs
le_greatest xs n listed = max_covers 0 xs n (inr listed)

-- lists of the same numbers have the same greatest
pub greatest_same : (xs ys : List ℕ) → ((n : ℕ) → Contains xs n → Contains ys n) → ((n : ℕ) → Contains ys n → Contains xs n) → greatest xs ≡ greatest ys
greatest_same xs ys to from =
    let a : greatest xs ≤ greatest ys = max_least 0 xs (greatest ys) (omega arith) (λ n listed. le_greatest ys n (to n listed)) in
    let b : greatest ys ≤ greatest xs = max_least 0 ys (greatest xs) (omega arith) (λ n listed. le_greatest xs n (from n listed)) in
    omega (arith, a, b)

-- ---- the sizes on a bus

-- a size that a function has on its own bus
pub record IsSizeOn (s : System) (pools : Pools) (c : WindowKind) (bus n : ℕ) : Type 0 where
  pub of : Function
  pub listed : Contains s of
  pub at : of.slot.bus ≡ bus
  pub size : Contains (sizes_in s pools c of ++ window_sizes s pools c of) n

in_cond_from : (b : Bool) (xs : List ℕ) (n : ℕ) → b ≡ true → Contains xs n → Contains (cond b xs []) n
in_cond_from b xs n is listed = subst (λ t. Contains (cond t xs []) n) (sym is) listed

module _ (roots : List ℕ) (s : System) (pools : Pools) (c : WindowKind) (system : IsSystem s) (nested : IsNested roots s) where
  abbrev windows_over : ℕ → Function → List ℕ
  windows_over bus b = window_over c bus b (need_behind s pools c b)

  by_behind : (bus : ℕ) → items_on s pools c bus ≡ flat_map (own_sizes s pools c bus) s ++ flat_map (windows_over bus) s
  by_behind bus = items_by_behind s pools c (slots_of s system) (order_of roots s nested) bus

  pub size_on_to : (bus n : ℕ) → Contains (items_on s pools c bus) n → IsSizeOn s pools c bus n
  size_on_to bus n listed =
      elim (Contains-append_cases (flat_map (own_sizes s pools c bus) s) (flat_map (windows_over bus) s) n (subst (λ xs. Contains xs n) (by_behind bus) listed)) [
        | inl own ↦
            let piece : IsInPiece (own_sizes s pools c bus) s n = in_flat_map_to (own_sizes s pools c bus) s n own in
            let f = piece.of in
            let has = in_cond (f.slot.bus == bus) (sizes_in s pools c f) n piece.piece in
            record { of = f; listed = piece.has; at = eqb-true f.slot.bus bus has.0; size = Contains-append_left (sizes_in s pools c f) (window_sizes s pools c f) n has.1 }
        | inr window ↦
            let piece : IsInPiece (windows_over bus) s n = in_flat_map_to (windows_over bus) s n window in
            let b = piece.of in
            let need = need_behind s pools c b in
            let has = in_cond (is_bridge b && b.slot.bus == bus && nat_lt 0 need) (window_size c (limited need) ∷ []) n piece.piece in
            let outer = and_parts (is_bridge b && b.slot.bus == bus) (nat_lt 0 need) has.0 in
            let inner = and_parts (is_bridge b) (b.slot.bus == bus) outer.0 in
            record {
              of = b;
              listed = piece.has;
              at = eqb-true b.slot.bus bus inner.1;
              size = Contains-append_right (sizes_in s pools c b) (window_sizes s pools c b) n
                  (in_cond_from (is_bridge b && nat_lt 0 need) (window_size c (limited need) ∷ []) n (and_from (is_bridge b) (nat_lt 0 need) inner.0 outer.1) has.1);
            }
      ]

  pub size_on_from : (f : Function) (n : ℕ) → Contains s f → Contains (sizes_in s pools c f ++ window_sizes s pools c f) n → Contains (items_on s pools c f.slot.bus) n
  size_on_from f n listed size =
      let bus = f.slot.bus in
      subst (λ xs. Contains xs n) (sym (by_behind bus))
      (elim (Contains-append_cases (sizes_in s pools c f) (window_sizes s pools c f) n size) [
        | inl own ↦
            Contains-append_left (flat_map (own_sizes s pools c bus) s) (flat_map (windows_over bus) s) n
            (in_flat_map_from (own_sizes s pools c bus) s f n listed (in_cond_from (f.slot.bus == bus) (sizes_in s pools c f) n (eq-eqb f.slot.bus bus refl) own))
        | inr window ↦
            let need = need_behind s pools c f in
            let has = in_cond (is_bridge f && nat_lt 0 need) (window_size c (limited need) ∷ []) n window in
            let parts = and_parts (is_bridge f) (nat_lt 0 need) has.0 in
            Contains-append_right (flat_map (own_sizes s pools c bus) s) (flat_map (windows_over bus) s) n
            (in_flat_map_from (windows_over bus) s f n listed
            (in_cond_from (is_bridge f && f.slot.bus == bus && nat_lt 0 need) (window_size c (limited need) ∷ []) n
            (and_from (is_bridge f && f.slot.bus == bus) (nat_lt 0 need) (and_from (is_bridge f) (f.slot.bus == bus) parts.0 (eq-eqb f.slot.bus bus refl)) parts.1) has.1))
      ])

  -- ---- on the roots

  pub on_roots_to : (bus n : ℕ) → is_root roots bus ≡ true → Contains (item_sizes (items_beside roots s pools c bus)) n → Contains (root_items roots s pools c) n
  on_roots_to bus n root listed =
      let made : IsMade (λ (i : Item). i.size) (items_beside roots s pools c bus) n = in_map_to (λ (i : Item). i.size) (items_beside roots s pools c bus) n listed in
      let piece : IsInPiece (λ f. if are_siblings roots bus f.slot.bus then own_items s pools c f else []) s made.from =
      in_flat_map_to (λ f. if are_siblings roots bus f.slot.bus then own_items s pools c f else []) s made.from made.has in
      let f = piece.of in
      let has = in_cond (are_siblings roots bus f.slot.bus) (own_items s pools c f) made.from piece.piece in
      let own : Contains (item_sizes (own_items s pools c f)) n = subst (Contains (item_sizes (own_items s pools c f))) made.is (in_map_from (λ (i : Item). i.size) (own_items s pools c f) made.from has.1) in
      let sizes = sizes_in s pools c f ++ window_sizes s pools c f in
      let size = Contains-permutation (item_sizes (own_items s pools c f)) sizes n (IsPermutation-sym sizes (item_sizes (own_items s pools c f)) (own_permutes s pools c roots system nested f piece.has)) own in
      in_flat_map_from (items_on s pools c) roots f.slot.bus n ((root_means roots f.slot.bus).0 (sym (beside_root roots bus f.slot.bus root) ∙ has.0)) (size_on_from f n piece.has size)

  pub on_roots_from : (bus n : ℕ) → is_root roots bus ≡ true → Contains (root_items roots s pools c) n → Contains (item_sizes (items_beside roots s pools c bus)) n
  on_roots_from bus n root listed =
      let piece : IsInPiece (items_on s pools c) roots n = in_flat_map_to (items_on s pools c) roots n listed in
      let on = size_on_to piece.of n piece.piece in
      let f = on.of in
      let sizes = sizes_in s pools c f ++ window_sizes s pools c f in
      let own = Contains-permutation sizes (item_sizes (own_items s pools c f)) n (own_permutes s pools c roots system nested f on.listed) on.size in
      let made : IsMade (λ (i : Item). i.size) (own_items s pools c f) n = in_map_to (λ (i : Item). i.size) (own_items s pools c f) n own in
      let beside : are_siblings roots bus f.slot.bus ≡ true = beside_root roots bus f.slot.bus root ∙ (root_means roots f.slot.bus).1 (subst (Contains roots) (sym on.at) piece.has) in
      subst (Contains (item_sizes (items_beside roots s pools c bus))) made.is
      (in_map_from (λ (i : Item). i.size) (items_beside roots s pools c bus) made.from
      (in_flat_map_from (λ g. if are_siblings roots bus g.slot.bus then own_items s pools c g else []) s f made.from on.listed
      (subst (λ t. Contains (cond t (own_items s pools c f) []) made.from) (sym beside) made.has)))

  pub greatest_on_roots : (bus : ℕ) → is_root roots bus ≡ true → greatest (item_sizes (items_beside roots s pools c bus)) ≡ greatest_of_roots roots s pools c
  greatest_on_roots bus root =
      greatest_same (item_sizes (items_beside roots s pools c bus)) (root_items roots s pools c) (λ n listed. on_roots_to bus n root listed) (λ n listed. on_roots_from bus n root listed)

  -- what is on a root starts at the pool's first address, raised to a multiple of the greatest size
  pub start_by_greatest : (bus : ℕ) → is_root roots bus ≡ true → start_of roots s pools c bus ≡ raised_to (greatest_of_roots roots s pools c) (pool_of pools c).first
  start_by_greatest bus root = start_of_root roots s pools c bus root ∙ ap (λ size. raised_to size (pool_of pools c).first) (greatest_on_roots bus root)
