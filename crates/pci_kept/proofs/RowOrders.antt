-- Rows that are sorted by a number.
use Rattle.std.proofs.Common.{◌≤◌, List, arith, inl, inr}
use Rattle.std.specs.Ordering.{is_lt, nat_cmp}
use Rattle.std.specs.List.{AllPairs}
use Rattle.std.specs.List.Sorted.{IsSortedBy, IsStableBy}
use Rattle.pci_place.proofs.StableSorts.{rises_by_sort}
use Rattle.pci_kept.specs.declared.rows.Row.{Row}

-- no first address is below one before it
pub firsts_rise : (xs ys : List Row) → IsSortedBy (λ (x y : Row). is_lt (nat_cmp x.range.first y.range.first)) ys → IsStableBy (λ (x y : Row). is_lt (nat_cmp x.range.first y.range.first)) xs ys
    → AllPairs (λ (r t : Row). r.range.first ≤ t.range.first) ys
firsts_rise xs ys sorted stable i j d up inside = elim (rises_by_sort (λ (r : Row). r.range.first) (λ (r t : Row). 0 ≤ 0) xs ys (λ i j d up inside. omega arith) sorted stable i j d up inside) [
  | inl less ↦ omega (arith, less)
  | inr both ↦ (let e = both.0 in omega (arith, e))
]
