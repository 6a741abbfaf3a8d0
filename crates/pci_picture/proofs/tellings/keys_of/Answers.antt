use Rattle.std.proofs.Common.{◌∙◌, ap, map, rules, subst, arith}
use Rattle.std.specs.List.Sorted.{IsPermutation}
use Rattle.std.proofs.lemmas.List.{take_all}
use Rattle.std.proofs.lemmas.List.Sorted.{IsNonDecreasingBy-from_sort_by_key, IsPermutation-map}
use Rattle.pci_picture.specs.declared.region.Region.{Region}
use Rattle.pci_picture.specs.declared.tellings.Index.{Index}
use Rattle.pci_picture.proofs.tellings.keys_of.Goals as goal

pub returns : goal.returns
returns g c some = record {
  sorted = IsNonDecreasingBy-from_sort_by_key (λ one. one.key) _ c.in_ok-sort_by_key.ensures.sorted (λ a r q k. search rules);
  all =
      subst (λ l. IsPermutation l (map (λ (one : Index). one.key) c.sort_by_key.new.self.items))
      (c.loop-index.invariant ∙ ap (map (λ (region : Region). region.key)) (take_all c.loop-index.index c.args.regions.now (omega (arith, c.loop-index-test.false))))
      (IsPermutation-map (λ (one : Index). one.key) c.loop-index.keys.items c.sort_by_key.new.self.items c.in_ok-sort_by_key.ensures.permutation);
}
