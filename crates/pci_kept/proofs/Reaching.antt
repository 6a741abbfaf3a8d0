-- The told ranges that aren't held are listed by their indexes, and found among these by halving.
use Rattle.std.proofs.Common.{◌≡◌, ℕ, ◌<◌, inl, inr, List, length, get_or, Bool, false, ltb, arith, sym, ◌∙◌, ap}
use Rattle.std.specs.List.{All, AllPairs, Contains}
use Rattle.std.specs.List.Sorted.{IsNonDecreasingBy, IsPartitionedBy}
use Rattle.std.proofs.lemmas.Bool.{cases_lt}
use Rattle.std.proofs.lemmas.List.{get_or_default}
use Rattle.std.proofs.lemmas.List.Sorted.{IsPartitionedBy-ltb}
use Rattle.judge_spec.specs.Told.{ToldRange}
use Rattle.judge_spec.specs.ToldClaims.{is_marked_held}
use Rattle.pci_kept.specs.declared.region.Region.{Region}
use Rattle.pci_kept.specs.declared.told_line.ToldLine.{ToldLine}
use Rattle.pci_kept.specs.RangePass.{no_told_line}
use Rattle.pci_kept.specs.ToldLines.{leads_to_line}

-- those of the first ranges
pub record AreReachableBelow (ranges : List ToldRange) (count : ℕ) (indexes : List ℕ) : Type 0 where
  pub rising : AllPairs (λ (j k : ℕ). j < k) indexes
  pub below : All (λ (k : ℕ). k < count) indexes
  pub within : All (λ (k : ℕ). k < length ranges) indexes
  pub all : (k : ℕ) (t : ToldRange) → k < count → is_marked_held (get_or ranges k t).mark ≡ false → Contains indexes k

pub never_fall : (indexes : List ℕ) → AllPairs (λ (j k : ℕ). j < k) indexes → IsNonDecreasingBy (λ k. k) indexes
never_fall indexes rising i j d le low = elim (cases_lt i j) [
  | inl less ↦ (let up = rising i j d less low in omega (arith, up))
  | inr past ↦ (
      let same : i ≡ j = omega (arith, le, past) in
      let e = ap (λ n. get_or indexes n d) same in
      omega (arith, e))
]

pub parted_indexes : (indexes : List ℕ) (end : ℕ) → AllPairs (λ (j k : ℕ). j < k) indexes → IsPartitionedBy (λ k. ltb k end) indexes
parted_indexes indexes end rising = IsPartitionedBy-ltb (λ (k : ℕ). k) indexes end (never_fall indexes rising)

-- what one look at an index tells
pub leads_by_look : (any : Bool) (r : Region) (ranges : List ToldRange) (lines : List ToldLine) → length lines ≡ length ranges → (index : ℕ) → index < length ranges → (range : ToldRange) → range ≡ get_or ranges index range
    → (result : Bool) → result ≡ leads_to_line any r range (get_or lines index no_told_line) → (t : ToldRange) (d : ToldLine) → leads_to_line any r (get_or ranges index t) (get_or lines index d) ≡ result
leads_by_look any r ranges lines count index within range range_is result is t d =
    ap (λ (x : ToldRange). leads_to_line any r x (get_or lines index d)) (get_or_default ranges index t range within ∙ sym range_is)
    ∙ ap (λ (l : ToldLine). leads_to_line any r range l) (get_or_default lines index d no_told_line (omega (arith, within, count)))
    ∙ sym is
