use Rattle.std.proofs.Common.{◌<◌, sym, subst}
use Rattle.std.specs.List.{AllPairs}
use Rattle.std.specs.List.Sorted.{IsPermutation}
use Rattle.std.proofs.lemmas.List.Kept.{AllPairs-filter}
use Rattle.std.proofs.lemmas.List.Sorted.{IsPermutation-trans}
use Rattle.pci_kept.specs.Held.{is_region_kept}
use Rattle.pci_grow.proofs.beside.standing_in_rows.Goals as goal

pub returns-clause-rows : goal.returns-clause-rows
returns-clause-rows g c = record {
  same = subst (λ xs. IsPermutation xs c.sort_by_row.new.regions.items) c.in_ok-rows.ensures
      (IsPermutation-trans _ _ _ c.sort_by_address.ensures.permutation c.sort_by_row.ensures.permutation);
  order = λ number rise.
      c.in_ok-sort_by_row.ensures.sorted number (c.in_ok-sort_by_address.ensures.sorted number
      (subst (λ xs. AllPairs (λ r t. number r < number t) xs) (sym c.in_ok-rows.ensures) (AllPairs-filter (λ r t. number r < number t) (is_region_kept c.args.standing.now) c.args.regions.now rise)));
}
