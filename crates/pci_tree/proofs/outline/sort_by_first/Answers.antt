use Rattle.std.proofs.Common.{◌≡◌, ◌+◌, ◌≤◌, ℕ, rules, arith, false, get_or, inl, inr, sym, ap}
use Rattle.std.specs.declared.cmp.Ordering.TheVariants.{Equal, Greater}
use Rattle.std.specs.Cmp.{nat_cmp_is}
use Rattle.std.proofs.lemmas.Bool.{cases_eq}
use Rattle.std.specs.Ordering.{is_lt, nat_cmp}
use Rattle.std.specs.List.Sorted.{IsSortedByKey}
use Rattle.std.proofs.lemmas.List.Sorted.{answers_always, ties_still_rise, IsNonDecreasingBy-from_sort}
use Rattle.pci_tree.specs.Regions.{region_number}
use Rattle.pci_tree.proofs.Orders.{own_numbers, in_order, own_of_rising}
use Rattle.pci_tree.proofs.outline.sort_by_first.Goals as goal

not_less : (a b : ℕ) → b ≤ a → is_lt (nat_cmp a b) ≡ false
not_less a b le = elim (cases_eq a b) [
  | inl e ↦ sym (ap is_lt (nat_cmp_is a b Equal e))
  | inr ne ↦ sym (ap is_lt (nat_cmp_is a b Greater (omega arith)))
]

pub returns-in-Ok-clause-sorted : goal.returns-in-Ok-clause-sorted
returns-in-Ok-clause-sorted g c = λ rise.
    let up : IsSortedByKey region_number nat_cmp c.args.regions.now.items =
    λ k d low lt. not_less (region_number (get_or c.args.regions.now.items (k + 1) d)) (region_number (get_or c.args.regions.now.items k d))
    (let less = rise k (k + 1) d (omega arith) lt in omega (arith, less)) in
    in_order _ (own_numbers region_number c.args.regions.now.items _ c.in-Ok.ensures.permutation (own_of_rising c.args.regions.now.items rise))
    (IsNonDecreasingBy-from_sort (λ q. q.first) _ (c.in-Ok.ensures.sorted (λ q. q.first) (answers_always _ _ _ (λ f a r h k. search rules))))
    (ties_still_rise region_number (λ q. q.first) _ _ up (c.in-Ok.ensures.stable (λ q. q.first) (answers_always _ _ _ (λ f a r h k. search rules))))
