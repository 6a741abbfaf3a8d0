-- What a bus needs, function by function: sums and greatest sizes, in any order.
use Rattle.std.proofs.Common.{◌≡◌, ℕ, zero, suc, ◌+◌, ◌^◌, ◌-◌, ◌≤◌, inl, inr, List, [], ◌∷◌, ◌++◌, map, take, drop, get_or, refl, Bool, true, false, cond, ◌&&◌, max, min, arith, sym, ◌∙◌, ap, subst, Some, lit≤}
use Rattle.std.specs.Bool.{nat_lt, ◌==◌, if◌then◌else◌}
use Rattle.std.specs.List.{Contains, All, filter, flat_map, fold, sum, sum_by, slice_get, find, range_with_len}
use Rattle.std.specs.Option.{unwrap_or}
use Rattle.std.proofs.lemmas.Bool.{cases_lt, and_parts, and_from, eqb-true, eq-eqb, ne_eqb}
use Rattle.std.proofs.lemmas.List.Elements.{Contains-append_cases, Contains-append_left, Contains-append_right, Contains-get_or}
use Rattle.std.proofs.lemmas.Option.{get_or_from_slice_get}
use Rattle.std.proofs.lemmas.List.Sums.{fold-append, sum_by-append, sum_by-cons, sum_by-le, sum_by-take-drop}
use Rattle.pci_spec.specs.Slot.{slot_number}
use Rattle.pci_spec.specs.Number.{has_bit, lowest_one}
use Rattle.pci_spec.specs.Bar.{bar_at, is_io, whole_bar}
use Rattle.pci_spec.specs.Window.{WindowKind, IoWindow, MemoryWindow, PrefetchWindow, page_size}
use Rattle.pci_spec.specs.Rom.{rom_at}
use Rattle.pci_spec.specs.System.{System, Function, IsSystem, Part, Bar, Rom, Window, bars_and_rom, is_bridge}
use Rattle.pci_spec.specs.Bus.{secondary, is_root, IsNested}
use Rattle.plan_spec.specs.Plan.{Pools, class_of, same_class, size_of, sizes_in, window_size, limited, greatest, items_on, need_of, need_of_roots, greatest_of_roots, own_sizes, window_over}
use Rattle.plan_spec.specs.Planning.Table.{need_behind}
use Rattle.plan_spec.specs.Planning.BusNeeds.{added, added_on}
use Rattle.pci_spec.proofs.Members.{in_nil, in_cons_cases, in_head, in_tail, in_flat_map_to, in_flat_map_from, IsInPiece, in_map_to, IsMade}
use Rattle.pci_spec.proofs.BusRanges.{root_means}
use Rattle.std.proofs.Math.Nat.{pow-le-pow_right}
use Rattle.plan_spec.proofs.Planning.Placement.{window_least}
use Rattle.plan_spec.proofs.Planning.Needs.{items_by_behind}
use Rattle.plan_spec.proofs.Planning.Sums.{need_added}
use Rattle.plan_spec.proofs.Planning.Safe.{slots_of, order_of}
use Rattle.plan_spec.proofs.Planning.Passed.{IsBefore, in_front_to, at_place}
use Rattle.pci_spec.proofs.Nesting.{earlier_is_lower}

-- ---- sums and greatest of sizes

-- a cut sum of cut sums is the cut sum
pub limited_add : (a b : ℕ) → min (2 ^ 65) (limited a + limited b) ≡ limited (a + b)
limited_add a b = omega arith

pub sum_append : (xs ys : List ℕ) → sum (xs ++ ys) ≡ sum xs + sum ys
sum_append xs ys = sum_by-append (λ n. n) xs ys

-- a greatest from a number on
max_from : (a : ℕ) (xs : List ℕ) → fold max a xs ≡ max a (greatest xs)
max_from a [] = omega arith
max_from a (x ∷ xs) =
    let here : fold max (max a x) xs ≡ max (max a x) (greatest xs) = max_from (max a x) xs in
    let there : fold max (max 0 x) xs ≡ max (max 0 x) (greatest xs) = max_from (max 0 x) xs in
    omega (arith, here, there)

pub greatest_append : (xs ys : List ℕ) → greatest (xs ++ ys) ≡ max (greatest xs) (greatest ys)
greatest_append xs ys = fold-append max 0 xs ys ∙ max_from (greatest xs) ys

greatest_cons : (x : ℕ) (xs : List ℕ) → greatest (x ∷ xs) ≡ max x (greatest xs)
greatest_cons x xs = let e : fold max (max 0 x) xs ≡ max (max 0 x) (greatest xs) = max_from (max 0 x) xs in omega (arith, e)

pub greatest_bounds : (xs : List ℕ) (x : ℕ) → Contains xs x → x ≤ greatest xs
greatest_bounds [] x has = absurd (in_nil x has)
greatest_bounds (y ∷ xs) x has =
    let e = greatest_cons y xs in
    elim (in_cons_cases y xs x has) [
      | inl here ↦ omega (arith, e, here)
      | inr later ↦ let rest = greatest_bounds xs x later in omega (arith, e, rest)
    ]

pub greatest_least : (m : ℕ) (xs : List ℕ) → ((x : ℕ) → Contains xs x → x ≤ m) → greatest xs ≤ m
greatest_least m [] each = omega arith
greatest_least m (y ∷ xs) each =
    let e = greatest_cons y xs in
    let here = each y (in_head y xs) in
    let rest = greatest_least m xs (λ x has. each x (in_tail y xs x has)) in
    omega (arith, e, here, rest)

-- the order of sizes and how often each comes don't matter
greatest_same : (xs ys : List ℕ) → ((x : ℕ) → Contains xs x → Contains ys x) → ((x : ℕ) → Contains ys x → Contains xs x) → greatest xs ≡ greatest ys
greatest_same xs ys to from =
    let up = greatest_least (greatest ys) xs (λ x has. greatest_bounds ys x (to x has)) in
    let down = greatest_least (greatest xs) ys (λ x has. greatest_bounds xs x (from x has)) in
    omega (arith, up, down)

-- sizes whose greatest is 0 have no sum
sum_of_none : (xs : List ℕ) → greatest xs ≡ 0 → sum xs ≡ 0
sum_of_none [] none = refl
sum_of_none (x ∷ xs) none =
    let e = greatest_cons x xs in
    let rest : sum xs ≡ 0 = sum_of_none xs (omega (arith, e, none)) in
    let s : sum (x ∷ xs) ≡ x + sum xs = sum_by-cons (λ n. n) x xs in
    omega (arith, e, none, rest, s)

-- ---- what a function adds to its bus

-- the window of a bridge with something behind it
abbrev pub behind_sizes : System → Pools → WindowKind → Function → List ℕ
behind_sizes s pools c f =
    if is_bridge f && nat_lt 0 (need_behind s pools c f) then window_size c (limited (need_behind s pools c f)) ∷ [] else []

-- a function's own BARs and ROM, and that window
abbrev pub function_sizes : System → Pools → WindowKind → Function → List ℕ
function_sizes s pools c f = sizes_in s pools c f ++ behind_sizes s pools c f

one_or_none : (b : Bool) (size : ℕ) → sum (cond b (size ∷ []) []) ≡ cond b size 0
one_or_none true size = let e : 0 + size ≡ size = omega arith in e
one_or_none false size = refl

pub sum_of_function : (s : System) (pools : Pools) (c : WindowKind) (f : Function) → sum (function_sizes s pools c f) ≡ added s pools c f (need_behind s pools c f)
sum_of_function s pools c f =
    let n = need_behind s pools c f in
    sum_append (sizes_in s pools c f) (behind_sizes s pools c f)
    ∙ ap (λ x. sum (sizes_in s pools c f) + x) (one_or_none (is_bridge f && nat_lt 0 n) (window_size c (limited n)))

-- what a function adds to a bus
abbrev pub part_of : System → Pools → WindowKind → ℕ → Function → ℕ
part_of s pools c bus f = if f.slot.bus == bus then added s pools c f (need_behind s pools c f) else 0

no_sum : {X : Type 0} (f : X → ℕ) (xs : List X) → ((x : X) → Contains xs x → f x ≡ 0) → sum_by f xs ≡ 0
no_sum f xs none =
    let all : All (λ x. f x ≤ 0) xs = λ k d l. (let z = none (get_or xs k d) (Contains-get_or xs k d l) in omega (arith, z)) in
    let e = sum_by-le f 0 xs all in
    omega (arith, e)

-- ---- the pass from the highest slot down

-- where the function that comes next is passed too, a bus has what it adds
pub added_more : (s : System) (pools : Pools) (c : WindowKind) (bus k : ℕ) (f : Function) (rest : List Function) → drop k s ≡ f ∷ rest
    → added_on s pools c bus (drop k s) ≡ part_of s pools c bus f + added_on s pools c bus rest
added_more s pools c bus k f rest e = ap (λ xs. added_on s pools c bus xs) e ∙ sum_by-cons (part_of s pools c bus) f rest

-- what a function adds to the roots
abbrev pub root_sizes : List ℕ → System → Pools → WindowKind → Function → List ℕ
root_sizes roots s pools c f = if is_root roots f.slot.bus then function_sizes s pools c f else []

-- a size on a bus is one of a function that stands there
pub record IsSizeOn (s : System) (pools : Pools) (c : WindowKind) (bus x : ℕ) : Type 0 where
  pub f : Function
  pub listed : Contains s f
  pub on_bus : f.slot.bus ≡ bus
  pub has : Contains (function_sizes s pools c f) x

-- ---- how large sizes are

find_small : (test : ℕ → Bool) (low count : ℕ) → low + count ≤ 64 → unwrap_or (find test (range_with_len low count)) 64 ≤ 64
find_small test low zero h = omega arith
find_small test low (suc count) h =
    elim (test low) as (λ b. unwrap_or (cond b (Some low) (find test (range_with_len (low + 1) count))) 64 ≤ 64) [
      | true ↦ let l : low ≤ 64 = omega (arith, h) in l
      | false ↦ find_small test (low + 1) count (omega (arith, h))
    ]

power_small : (from mask : ℕ) → from ≤ 64 → 2 ^ lowest_one from mask ≤ 2 ^ 65
power_small from mask h =
    let k : lowest_one from mask ≤ 64 = find_small (has_bit mask) from (64 - from) (omega (arith, h)) in
    let up : lowest_one from mask ≤ 65 = omega (arith, k) in
    pow-le-pow_right {n = 2} (omega arith) up

part_small : (f : Function) (part : Part) → size_of f part ≤ 2 ^ 65
part_small f (Bar n) = power_small (if is_io (bar_at f.probe n) then 2 else 4) (whole_bar f.probe f.probe n)
    (elim (is_io (bar_at f.probe n)) as (λ b. cond b 2 4 ≤ 64) [ true ↦ lit≤ tt | false ↦ lit≤ tt ])
part_small f Rom = power_small 0 (rom_at f.image f.probe) (omega arith)
part_small f (Window kind) = omega arith

one_small : (b : Bool) (size x : ℕ) → size ≤ 2 ^ 65 → Contains (cond b (size ∷ []) []) x → x ≤ 2 ^ 65
one_small true size x small has = elim (in_cons_cases size [] x has) [ inl here ↦ subst (λ n. n ≤ 2 ^ 65) here small | inr none ↦ absurd (in_nil x none) ]
one_small false size x small has = absurd (in_nil x has)

step_small : (c : WindowKind) → page_size c ≤ 2 ^ 65
step_small IoWindow = lit≤ tt
step_small MemoryWindow = lit≤ tt
step_small PrefetchWindow = lit≤ tt

pub window_small : (c : WindowKind) (need : ℕ) → need ≤ 2 ^ 65 → window_size c need ≤ 2 ^ 65
window_small c need h = (window_least c need h).least (2 ^ 65) (65, refl) h (step_small c)

pub function_small : (s : System) (pools : Pools) (c : WindowKind) (f : Function) (x : ℕ) → Contains (function_sizes s pools c f) x → x ≤ 2 ^ 65
function_small s pools c f x has = elim (Contains-append_cases (sizes_in s pools c f) (behind_sizes s pools c f) x has) [
  | inl own ↦
      let kept = filter (λ part. same_class c (class_of s pools f part)) (bars_and_rom f) in
      let made : IsMade (size_of f) kept x = in_map_to (size_of f) kept x own in
      subst (λ n. n ≤ 2 ^ 65) made.is (part_small f made.from)
  | inr window ↦ one_small (is_bridge f && nat_lt 0 (need_behind s pools c f)) (window_size c (limited (need_behind s pools c f))) x
      (window_small c (limited (need_behind s pools c f)) (omega arith)) window
]

module _ (roots : List ℕ) (s : System) (pools : Pools) (c : WindowKind) (system : IsSystem s) (nested : IsNested roots s) where
  -- The need behind a bridge is whole when the bridge is met: what is behind it has higher slots.
  pub whole_behind : (k : ℕ) (b : Function) → slice_get s k ≡ Some b → is_bridge b ≡ true → added_on s pools c (secondary b) (drop (k + 1) s) ≡ need_behind s pools c b
  whole_behind k b at bridge =
      let bus = secondary b in
      let listed = at_place s k b at in
      let up = order_of roots s nested b listed bridge in
      let front : sum_by (part_of s pools c bus) (take (k + 1) s) ≡ 0 = no_sum (part_of s pools c bus) (take (k + 1) s) (λ g passed.
      let is : IsBefore (k + 1) s g = in_front_to (k + 1) s g passed in
      let low : slot_number g.slot ≤ slot_number b.slot = elim (cases_lt is.listed.0 k) [
        | inl below ↦ let l = earlier_is_lower s system g b is.listed listed below in
            omega (arith, l)
        | inr above ↦
            let here = is.before in
            let same : is.listed.0 ≡ k = omega (arith, here, above) in
            let e : g ≡ b = sym is.listed.2 ∙ ap (λ n. get_or s n g) same ∙ get_or_from_slice_get s k b g at in
            let n : slot_number g.slot ≡ slot_number b.slot = ap (λ (h : Function). slot_number h.slot) e in
            omega (arith, n)
      ] in
      let slot_g = slots_of s system g is.listed in
      let slot_b = slots_of s system b listed in
      let device = slot_b.1 in
      let function = slot_b.2 in
      ap (λ t. cond t (added s pools c g (need_behind s pools c g)) 0) (ne_eqb g.slot.bus bus (λ e. let impossible : ⊥ = omega (arith, e, low, up, device, function) in impossible))) in
      let split = sum_by-take-drop (part_of s pools c bus) s (k + 1) in
      let all = need_added s pools c bus roots system nested in
      let behind : sum_by (part_of s pools c bus) (drop (k + 1) s) ≡ sum_by (part_of s pools c bus) s = omega (arith, front, split) in
      behind ∙ sym all

  -- ---- what is on a bus comes of a function there

  in_cond : (b : Bool) (xs : List ℕ) (x : ℕ) → Contains (cond b xs []) x → (b ≡ true) × Contains xs x
  in_cond true xs x has = (refl, has)
  in_cond false xs x has = absurd (in_nil x has)

  in_kept : (b : Bool) (xs : List ℕ) (x : ℕ) → b ≡ true → Contains xs x → Contains (cond b xs []) x
  in_kept b xs x kept has = subst (λ t. Contains (cond t xs []) x) (sym kept) has

  abbrev windows_on : ℕ → Function → List ℕ
  windows_on bus b = window_over c bus b (sum (items_on s pools c (secondary b)))

  parts_on : (bus : ℕ) → items_on s pools c bus ≡ flat_map (own_sizes s pools c bus) s ++ flat_map (windows_on bus) s
  parts_on bus = items_by_behind s pools c (slots_of s system) (order_of roots s nested) bus

  size_to : (bus x : ℕ) → Contains (items_on s pools c bus) x → IsSizeOn s pools c bus x
  size_to bus x has =
      elim (Contains-append_cases (flat_map (own_sizes s pools c bus) s) (flat_map (windows_on bus) s) x (subst (λ xs. Contains xs x) (parts_on bus) has)) [
        | inl own ↦
            let piece : IsInPiece (own_sizes s pools c bus) s x = in_flat_map_to (own_sizes s pools c bus) s x own in
            let f = piece.of in
            let split = in_cond (f.slot.bus == bus) (sizes_in s pools c f) x piece.piece in
            record { f = f; listed = piece.has; on_bus = eqb-true f.slot.bus bus split.0; has = Contains-append_left (sizes_in s pools c f) (behind_sizes s pools c f) x split.1 }
        | inr window ↦
            let piece : IsInPiece (windows_on bus) s x = in_flat_map_to (windows_on bus) s x window in
            let f = piece.of in
            let n = need_behind s pools c f in
            let split = in_cond (is_bridge f && f.slot.bus == bus && nat_lt 0 n) (window_size c (limited n) ∷ []) x piece.piece in
            let outer = and_parts (is_bridge f && f.slot.bus == bus) (nat_lt 0 n) split.0 in
            let inner = and_parts (is_bridge f) (f.slot.bus == bus) outer.0 in
            record {
              f = f;
              listed = piece.has;
              on_bus = eqb-true f.slot.bus bus inner.1;
              has = Contains-append_right (sizes_in s pools c f) (behind_sizes s pools c f) x
                  (in_kept (is_bridge f && nat_lt 0 n) (window_size c (limited n) ∷ []) x (and_from (is_bridge f) (nat_lt 0 n) inner.0 outer.1) split.1);
            }
      ]

  size_from : (bus x : ℕ) → IsSizeOn s pools c bus x → Contains (items_on s pools c bus) x
  size_from bus x is =
      let f = is.f in
      let n = need_behind s pools c f in
      let here : (f.slot.bus == bus) ≡ true = eq-eqb f.slot.bus bus is.on_bus in
      subst (λ xs. Contains xs x) (sym (parts_on bus)) (elim (Contains-append_cases (sizes_in s pools c f) (behind_sizes s pools c f) x is.has) [
        | inl own ↦ Contains-append_left (flat_map (own_sizes s pools c bus) s) (flat_map (windows_on bus) s) x
            (in_flat_map_from (own_sizes s pools c bus) s f x is.listed (in_kept (f.slot.bus == bus) (sizes_in s pools c f) x here own))
        | inr window ↦
            let split = in_cond (is_bridge f && nat_lt 0 n) (window_size c (limited n) ∷ []) x window in
            let parts = and_parts (is_bridge f) (nat_lt 0 n) split.0 in
            Contains-append_right (flat_map (own_sizes s pools c bus) s) (flat_map (windows_on bus) s) x
            (in_flat_map_from (windows_on bus) s f x is.listed
            (in_kept (is_bridge f && f.slot.bus == bus && nat_lt 0 n) (window_size c (limited n) ∷ []) x
            (and_from (is_bridge f && f.slot.bus == bus) (nat_lt 0 n) (and_from (is_bridge f) (f.slot.bus == bus) parts.0 here) parts.1) split.1))
      ])

  -- the greatest size on the roots, function by function
  pub greatest_by_slots : greatest (flat_map (root_sizes roots s pools c) s) ≡ greatest_of_roots roots s pools c
  greatest_by_slots =
      greatest_same (flat_map (root_sizes roots s pools c) s) (flat_map (items_on s pools c) roots)
      (λ x has.
      let piece : IsInPiece (root_sizes roots s pools c) s x = in_flat_map_to (root_sizes roots s pools c) s x has in
      let f = piece.of in
      let split = in_cond (is_root roots f.slot.bus) (function_sizes s pools c f) x piece.piece in
      in_flat_map_from (items_on s pools c) roots f.slot.bus x ((root_means roots f.slot.bus).0 split.0)
      (size_from f.slot.bus x record { f = f; listed = piece.has; on_bus = refl; has = split.1 }))
      (λ x has.
      let piece : IsInPiece (items_on s pools c) roots x = in_flat_map_to (items_on s pools c) roots x has in
      let is = size_to piece.of x piece.piece in
      let root : Contains roots is.f.slot.bus = subst (λ bus. Contains roots bus) (sym is.on_bus) piece.has in
      in_flat_map_from (root_sizes roots s pools c) s is.f x is.listed
      (in_kept (is_root roots is.f.slot.bus) (function_sizes s pools c is.f) x ((root_means roots is.f.slot.bus).1 root) is.has))

  -- no item is larger than what is told apart
  pub greatest_small : greatest_of_roots roots s pools c ≤ 2 ^ 65
  greatest_small =
      greatest_least (2 ^ 65) (flat_map (items_on s pools c) roots) (λ x has.
      let piece : IsInPiece (items_on s pools c) roots x = in_flat_map_to (items_on s pools c) roots x has in
      let is = size_to piece.of x piece.piece in
      function_small s pools c is.f x is.has)

-- where nothing has a size, nothing is needed
pub none_needed : (buses : List ℕ) (s : System) (pools : Pools) (c : WindowKind) → greatest_of_roots buses s pools c ≡ 0 → need_of_roots buses s pools c ≡ 0
none_needed [] s pools c none = refl
none_needed (bus ∷ buses) s pools c none =
    let e = greatest_append (items_on s pools c bus) (flat_map (items_on s pools c) buses) in
    let here : sum (items_on s pools c bus) ≡ 0 = sum_of_none (items_on s pools c bus) (omega (arith, e, none)) in
    let rest = none_needed buses s pools c (omega (arith, e, none)) in
    let n : need_of s pools c bus ≡ 0 = ap limited here in
    let all : sum (map (need_of s pools c) (bus ∷ buses)) ≡ need_of s pools c bus + sum (map (need_of s pools c) buses) = sum_by-cons (λ n. n) (need_of s pools c bus) (map (need_of s pools c) buses) in
    omega (arith, n, rest, all)
