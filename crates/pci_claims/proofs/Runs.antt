-- Lists of ranges with a gap between two are the greatest runs of the addresses that they have.
use Rattle.std.proofs.Common.{◌≡◌, ℕ, ◌+◌, ◌<◌, List, length, get_or, map, sym, ap, subst, arith}
use Rattle.std.specs.Prelude.{◌↔◌}
use Rattle.std.specs.List.{Contains}
use Rattle.std.proofs.Math.ListN.{get_or-map}
use Rattle.std.proofs.lemmas.List.{get_or_default, length-map}
use Rattle.pci_spec.specs.Decoded as decoded
use Rattle.pci_spec.specs.Why.{IsRun, AreRuns}
use Rattle.pci_spec.proofs.Members.{in_map_from, pairs_map}
use Rattle.pci_base.specs.declared.range.Range.{Range}
use Rattle.pci_base.specs.Ranges.{decoded_range_of, range_of_decoded}
use Rattle.pci_tree.specs.Ranges.{Covers, IsCanonical}
use Rattle.pci_tree.proofs.RangeLists.{covers_at, not_between, not_after}

module _ (P : ℕ → Type 0) (out : List Range) (can : IsCanonical out) (exact : (a : ℕ) → Covers out a ↔ P a) where
  run_at : (k : ℕ) (z : Range) → k < length out → IsRun P (decoded_range_of (get_or out k z))
  run_at k z within = record {
    some = can.each k z within;
    each = λ a held. (exact a).0 (covers_at out k a z within held);
    before = λ a e p. not_between out k a z can within (omega (arith, e)) (λ i d low lt. (
        let apart = can.apart i k d lt within in
        let same : (get_or out k d).first ≡ (get_or out k z).first = ap (λ (x : Range). x.first) (get_or_default out k d z within) in
        omega (arith, apart, same, e))) ((exact a).1 p);
    behind = λ p. not_after out k z can within ((exact ((get_or out k z).last + 1)).1 p);
  }

  pub runs_of : AreRuns P (map decoded_range_of out)
  runs_of = record {
    each = λ k d within. (
        let small : k < length out = omega (arith, within, length-map out decoded_range_of) in
        let same : get_or (map decoded_range_of out) k d ≡ decoded_range_of (get_or out k (range_of_decoded d)) = get_or-map decoded_range_of out k (range_of_decoded d) in
        subst (IsRun P) (sym same) (run_at k (range_of_decoded d) small));
    complete = λ a p. (
        let covered = (exact a).1 p in
        let has : Contains (map decoded_range_of out) (decoded_range_of covered.1) = in_map_from decoded_range_of out covered.1 (covered.0, covered.2, covered.3) in
        (has.0, decoded_range_of covered.1, has.1, has.2, covered.4));
    rising = pairs_map (λ (r t : decoded.Range). r.last < t.first) decoded_range_of out (λ i j d lt within. (let apart = can.apart i j d lt within in omega (arith, apart)));
  }
