-- The least place among ranges.
use Rattle.std.proofs.Common.{◌≡◌, ℕ, ◌+◌, ◌%◌, ◌<◌, ◌≤◌, List, length, get_or, take, sym, subst, inl, inr, arith, max, min}
use Rattle.std.proofs.lemmas.Bool.{cases_lt, cases_order}
use Rattle.std.proofs.lemmas.List.{take_more, take_all, get_or-take, length-take-le}
use Rattle.pci_base.specs.declared.range.Range.{Range}
use Rattle.pci_tree.specs.Ranges.{Holds, Covers, IsCanonical}
use Rattle.pci_tree.proofs.RangeLists.{found_at, covers_at, not_after}
use Rattle.pci_tree.proofs.Passing.{covers_push}
use Rattle.pci_why.specs.Places.{IsPlaceReached, IsLeastPlaceFrom}

-- no place from a number on begins in these ranges
abbrev pub NoneBeginsIn : List Range → ℕ → ℕ → ℕ → List Range → Type 0
NoneBeginsIn ranges count end from part = (p : ℕ) → from ≤ p → IsPlaceReached ranges count end p → Covers part p → ⊥

-- a place that begins in a range ends there
within_range : (ranges : List Range) (k : ℕ) (z : Range) (count end p : ℕ) → IsCanonical ranges → k < length ranges → IsPlaceReached ranges count end p → Holds (get_or ranges k z) p
    → p + count ≤ (get_or ranges k z).last + 1
within_range ranges k z count end p can within at held = elim (cases_lt ((get_or ranges k z).last + 1) (p + count)) [
  | inl past ↦ absurd (not_after ranges k z can within (at.covered ((get_or ranges k z).last + 1) (let high = held.1 in omega (arith, high)) past))
  | inr le ↦ le
]

module _ (ranges : List Range) (count end from k : ℕ) (z : Range) (low high first : ℕ) (can : IsCanonical ranges) (within : k < length ranges)
    (is_low : low ≡ (get_or ranges k z).first) (is_high : high ≡ (get_or ranges k z).last) (some : 0 < count)
    (start : max from low ≤ first) (least : (n : ℕ) → max from low ≤ n → n % count ≡ 0 → first ≤ n)
    (none : NoneBeginsIn ranges count end from (take k ranges)) where
  from_first : (p : ℕ) → from ≤ p → IsPlaceReached ranges count end p → Holds (get_or ranges k z) p → first ≤ p
  from_first p le at held = least p (let at_least = held.0 in omega (arith, le, at_least, is_low)) at.multiple

  -- the first place in the range is the least
  pub found_in_range : first % count ≡ 0 → first + count ≤ min end (high + 1) → IsLeastPlaceFrom ranges count end from first
  found_in_range multiple fits = record {
    from_on = omega (arith, start);
    is = record {
      multiple = multiple;
      below = omega (arith, fits);
      covered = λ a at_least less. covers_at ranges k a z within (omega (arith, at_least, start, is_low), omega (arith, less, fits, is_high));
    };
    least = λ n le at. (
        let here = at.covered n (omega arith) (omega (arith, some)) in
        let held : Holds (get_or ranges here.0 z) n = found_at ranges n here.0 here.1 z here.2 here.3 here.4 in
        elim (cases_order here.0 k) [
          | inl same ↦ from_first n le at (subst (λ j. Holds (get_or ranges j z) n) same held)
          | inr (inl before) ↦ (let size : length (take k ranges) ≡ k = length-take-le k ranges (omega (arith, within)) in
              absurd (none n le at (covers_at (take k ranges) here.0 n z (omega (arith, before, size)) (subst (λ (r : Range). Holds r n) (sym (get_or-take k ranges here.0 z before)) held))))
          | inr (inr after) ↦ (let apart = can.apart k here.0 z after here.2 in let low_n = held.0 in omega (arith, apart, low_n, fits, is_high))
        ]);
  }

  -- where it has no room, none begins there
  pub none_in_range : min end (high + 1) < first + count → NoneBeginsIn ranges count end from (take (k + 1) ranges)
  none_in_range full p le at covered = elim ((covers_push (take k ranges) (get_or ranges k z) p).0 (subst (λ xs. Covers xs p) (take_more ranges k z within) covered)) [
    | inl before ↦ none p le at before
    | inr held ↦ (let up = from_first p le at held in let inside = within_range ranges k z count end p can within at held in let below = at.below in
        omega (arith, up, inside, below, full, is_high))
  ]

-- where none begins in any range, there is none
pub none_at_all : (ranges : List Range) (count end from k : ℕ) → length ranges ≤ k → 0 < count → NoneBeginsIn ranges count end from (take k ranges) → (p : ℕ) → from ≤ p → IsPlaceReached ranges count end p → ⊥
none_at_all ranges count end from k all some none p le at =
    none p le at (subst (λ xs. Covers xs p) (sym (take_all k ranges all)) (at.covered p (omega arith) (omega (arith, some))))
