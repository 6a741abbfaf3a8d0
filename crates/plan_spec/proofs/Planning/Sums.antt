-- The need of a bus as a sum over functions, in any order.
use Rattle.std.proofs.Common.{◌≡◌, ℕ, ◌+◌, List, [], ◌∷◌, ◌++◌, refl, Bool, true, false, cond, ◌&&◌, arith, ◌∙◌, ap}
use Rattle.std.specs.Bool.{nat_lt, ◌==◌, if◌then◌else◌}
use Rattle.std.specs.List.{flat_map, sum, sum_by}
use Rattle.std.proofs.lemmas.List.Sums.{sum_by-append, sum_by-cons}
use Rattle.pci_spec.specs.Window.{WindowKind}
use Rattle.pci_spec.specs.System.{System, Function, IsSystem, is_bridge}
use Rattle.pci_spec.specs.Bus.{secondary, IsNested}
use Rattle.plan_spec.specs.Plan.{Pools, sizes_in, window_size, limited, items_on, own_sizes, window_over}
use Rattle.plan_spec.specs.Planning.Table.{need_behind}
use Rattle.plan_spec.specs.Planning.BusNeeds.{added, added_on}
use Rattle.plan_spec.proofs.Planning.Needs.{items_by_behind}
use Rattle.plan_spec.proofs.Planning.Safe.{slots_of, order_of}

by_test : (bridge here need : Bool) (sizes : List ℕ) (size : ℕ) → sum (if here then sizes else []) + cond (bridge && here && need) size 0 ≡ (if here then sum sizes + (if bridge && need then size else 0) else 0)
by_test true true true sizes size = refl
by_test true true false sizes size = refl
by_test true false need sizes size = refl
by_test false true need sizes size = refl
by_test false false need sizes size = refl

module _ (s : System) (pools : Pools) (c : WindowKind) (bus : ℕ) where
  abbrev window_sizes : Function → List ℕ
  window_sizes b = window_over c bus b (sum (items_on s pools c (secondary b)))

  abbrev term : Function → ℕ
  term f = if f.slot.bus == bus then added s pools c f (need_behind s pools c f) else 0

  window_sum : (b : Bool) (size : ℕ) → sum (cond b (size ∷ []) []) ≡ cond b size 0
  window_sum true size = let e : 0 + size ≡ size = omega arith in e
  window_sum false size = refl

  of_one : (f : Function) → sum (own_sizes s pools c bus f) + sum (window_sizes f) ≡ term f
  of_one f =
      let n = need_behind s pools c f in
      let size = window_size c (limited n) in
      ap (λ x. sum (own_sizes s pools c bus f) + x) (window_sum (is_bridge f && f.slot.bus == bus && nat_lt 0 n) size)
      ∙ by_test (is_bridge f) (f.slot.bus == bus) (nat_lt 0 n) (sizes_in s pools c f) size

  sums_added : (xs : List Function) → sum (flat_map (own_sizes s pools c bus) xs) + sum (flat_map window_sizes xs) ≡ sum_by term xs
  sums_added [] = refl
  sums_added (f ∷ xs) =
      let a : sum (own_sizes s pools c bus f ++ flat_map (own_sizes s pools c bus) xs) ≡ sum (own_sizes s pools c bus f) + sum (flat_map (own_sizes s pools c bus) xs) =
      sum_by-append (λ n. n) (own_sizes s pools c bus f) (flat_map (own_sizes s pools c bus) xs) in
      let b : sum (window_sizes f ++ flat_map window_sizes xs) ≡ sum (window_sizes f) + sum (flat_map window_sizes xs) = sum_by-append (λ n. n) (window_sizes f) (flat_map window_sizes xs) in
      let e = of_one f in
      let r = sums_added xs in
      let t = sum_by-cons term f xs in
      omega (arith, a, b, e, r, t)

  pub need_added : (roots : List ℕ) → IsSystem s → IsNested roots s → sum (items_on s pools c bus) ≡ added_on s pools c bus s
  need_added roots system nested =
      let e = ap sum (items_by_behind s pools c (slots_of s system) (order_of roots s nested) bus) in
      let a : sum (flat_map (own_sizes s pools c bus) s ++ flat_map window_sizes s) ≡ sum (flat_map (own_sizes s pools c bus) s) + sum (flat_map window_sizes s) =
      sum_by-append (λ n. n) (flat_map (own_sizes s pools c bus) s) (flat_map window_sizes s) in
      e ∙ a ∙ sums_added s
