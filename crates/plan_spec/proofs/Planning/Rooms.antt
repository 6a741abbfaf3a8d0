-- What fits its pool is a table: no need is cut, and everything is in the pool.
use Rattle.std.proofs.Common.{◌≡◌, ℕ, zero, suc, ◌+◌, ◌^◌, ◌<◌, ◌≤◌, inl, inr, List, [], ◌∷◌, ◌++◌, true, max, arith, ap, map, length, get_or}
use Rattle.std.specs.List.{Contains, flat_map, fold, sum}
use Rattle.std.proofs.lemmas.Bool.{cases_Bool, cases_lt}
use Rattle.std.proofs.lemmas.List.{length-map}
use Rattle.std.proofs.lemmas.List.Sums.{sum_by-append}
use Rattle.std.proofs.lemmas.List.Elements.{Contains-get_or}
use Rattle.pci_spec.specs.Window.{WindowKind}
use Rattle.pci_spec.specs.System.{System, Function, IsSystem, Part, is_bridge}
use Rattle.pci_spec.specs.Bus.{is_root, IsNested}
use Rattle.plan_spec.specs.Plan.{Pools, pool_of, limited, items_on, fits, raised_to, greatest}
use Rattle.pci_spec.proofs.Members.{in_nil, in_cons_cases}
use Rattle.pci_spec.proofs.BusRanges.{root_means}
use Rattle.plan_spec.specs.Planning.Room.{root_items}
use Rattle.plan_spec.specs.Planning.Table.{need_behind, size_at, IsPlacing, IsTable}
use Rattle.plan_spec.proofs.Planning.Needed.{contained_le_sum, window_among}
use Rattle.plan_spec.proofs.Planning.Placement.{window_least, power_pos, sum_cons}
use Rattle.plan_spec.proofs.Planning.Room.{raised, room_of_fit}
use Rattle.plan_spec.proofs.Planning.Safe.{order_of}

piece_le_sum : (f : ℕ → List ℕ) (xs : List ℕ) (x : ℕ) → Contains xs x → sum (f x) ≤ sum (flat_map f xs)
piece_le_sum f [] x listed = absurd (in_nil x listed)
piece_le_sum f (y ∷ xs) x listed =
    let e : sum (f y ++ flat_map f xs) ≡ sum (f y) + sum (flat_map f xs) = sum_by-append (λ n. n) (f y) (flat_map f xs) in
    elim (in_cons_cases y xs x listed) [
      | inl here ↦ (let z : sum (f y) ≡ sum (f x) = ap (λ n. sum (f n)) here in omega (arith, e, z))
      | inr later ↦ (let r = piece_le_sum f xs x later in omega (arith, e, r))
    ]

max_from : (m : ℕ) (xs : List ℕ) → m ≤ fold max m xs
max_from m [] = omega arith
max_from m (x ∷ xs) = let r = max_from (max m x) xs in omega (arith, r)

-- a sum of something has a greatest term that isn't 0
greatest_some : (m : ℕ) (xs : List ℕ) → 0 < m + sum xs → 0 < fold max m xs
greatest_some m [] some = omega (arith, some)
greatest_some m (x ∷ xs) some = elim (cases_lt 0 (max m x)) [
  | inl up ↦ (let r = max_from (max m x) xs in omega (arith, r, up))
  | inr none ↦ greatest_some (max m x) xs (let e = sum_cons x xs in omega (arith, e, some, none))
]

module _ (roots : List ℕ) (s : System) (pools : Pools) (c : WindowKind) (system : IsSystem s) (nested : IsNested roots s) where
  window_le : (b : Function) → Contains s b → is_bridge b ≡ true → limited (need_behind s pools c b) ≤ sum (items_on s pools c b.slot.bus)
  window_le b listed bridge = elim (cases_lt 0 (need_behind s pools c b)) [
    | inr none ↦ omega (arith, none)
    | inl some ↦
        let below = window_among s pools c roots system nested b listed bridge some in
        let enough = (window_least c (limited (need_behind s pools c b)) (omega arith)).enough in
        omega (arith, below, enough)
  ]

  pub need_le : (n : ℕ) (b : Function) → b.slot.bus < n → Contains s b → is_bridge b ≡ true → limited (need_behind s pools c b) ≤ sum (root_items roots s pools c)
  need_le zero b less listed bridge = absurd (let impossible : ⊥ = omega (arith, less) in impossible)
  need_le (suc n) b less listed bridge =
      let up = window_le b listed bridge in
      elim (cases_Bool (is_root roots b.slot.bus)) [
        | inl root ↦ (let r = piece_le_sum (items_on s pools c) roots b.slot.bus ((root_means roots b.slot.bus).0 root) in omega (arith, up, r))
        | inr off ↦
            let one = nested.one b listed off in
            let d = one.0 in
            let leads = one.1 in
            let to = leads.2 in
            let rises = order_of roots s nested d leads.0 leads.1 in
            let more = need_le n d (omega (arith, less, rises, to)) leads.0 leads.1 in
            let same : need_behind s pools c d ≡ sum (items_on s pools c b.slot.bus) = ap (λ bus. sum (items_on s pools c bus)) to in
            omega (arith, up, more, same)
      ]

  pub table_by_fit : (first : Function → Part → ℕ) → fits roots s pools c ≡ true → (pool_of pools c).last < 2 ^ 64 → IsPlacing roots s pools c first → IsTable roots s pools c first
  table_by_fit first fit low placing =
      let total = sum (root_items roots s pools c) in
      let some_total : 0 < length placing.placed_roots → 0 < total = λ some.
      let on = placing.on_roots in
      let l = length-map placing.placed_roots (size_at s pools c) in
      let long : 0 < length (map (size_at s pools c) placing.placed_roots) = omega (arith, l, some) in
      let power = power_pos (get_or (map (size_at s pools c) placing.placed_roots) 0 0) (on.falling.powers 0 long) in
      let below = contained_le_sum (map (size_at s pools c) placing.placed_roots) (get_or (map (size_at s pools c) placing.placed_roots) 0 0) (Contains-get_or (map (size_at s pools c) placing.placed_roots) 0 0 long) in
      let sums = on.sums in
      omega (arith, power, below, sums) in
      record {
        start = raised_to (greatest (root_items roots s pools c)) (pool_of pools c).first;
        placed_roots = placing.placed_roots;
        on_roots = placing.on_roots;
        low = λ some. (raised (greatest (root_items roots s pools c)) (pool_of pools c).first (greatest_some 0 (root_items roots s pools c) (let t = some_total some in omega (arith, t)))).from;
        high = λ some. room_of_fit roots s pools c fit low (some_total some);
        behind_items = placing.behind_items;
        behind = placing.behind;
        small = λ b listed bridge.
            let chain = need_le (suc b.slot.bus) b (omega arith) listed bridge in
            elim (cases_lt 0 total) [
              | inl some ↦ (let room = room_of_fit roots s pools c fit low some in omega (arith, chain, room, low))
              | inr none ↦ omega (arith, chain, none)
            ];
      }
