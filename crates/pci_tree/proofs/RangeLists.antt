-- Lists of ranges.
use Rattle.std.proofs.Common.{◌≡◌, ℕ, ◌+◌, ◌<◌, ◌≤◌, List, length, get_or, ap, ◌∙◌, inl, inr, arith, ltb}
use Rattle.std.specs.List.{AllWithin}
use Rattle.std.specs.List.Sorted.{IsPartitionedBy, IsNonDecreasingBy}
use Rattle.std.proofs.lemmas.Bool.{cases_order}
use Rattle.std.proofs.lemmas.List.{get_or_default}
use Rattle.std.proofs.lemmas.List.Sorted.{IsPartitionedBy-ltb}
use Rattle.pci_base.specs.declared.range.Range.{Range}
use Rattle.pci_tree.specs.Ranges.{Holds, Covers, IsCanonical, IsLeastOutside, IsLeastFrom}

-- what is known of the one range that covers an address, at any default
pub found_at : (rs : List Range) (a j : ℕ) (r z : Range) → j < length rs → get_or rs j r ≡ r → Holds r a → Holds (get_or rs j z) a
found_at rs a j r z inside at held =
    let e : get_or rs j z ≡ r = get_or_default rs j z r inside ∙ at in
    let f : (get_or rs j z).first ≡ r.first = ap (λ x. x.first) e in
    let l : (get_or rs j z).last ≡ r.last = ap (λ x. x.last) e in (omega arith, omega arith)

-- the range at an index covers what it holds
pub covers_at : (rs : List Range) (k a : ℕ) (z : Range) → k < length rs → Holds (get_or rs k z) a → Covers rs a
covers_at rs k a z within h = (k, get_or rs k z, within, get_or_default rs k (get_or rs k z) z within, h)

pub last_rises : (rs : List Range) → IsCanonical rs → IsNonDecreasingBy (λ r. r.last) rs
last_rises rs can i j d le within =
    elim (cases_order i j) [
      | inl e ↦ (let f : (get_or rs i d).last ≡ (get_or rs j d).last = ap (λ n. (get_or rs n d).last) e in omega arith)
      | inr n ↦ elim n [
        | inl lt ↦ (let e : (get_or rs j d).first ≤ (get_or rs j d).last = can.each j d within in
            let p : (get_or rs i d).last + 1 < (get_or rs j d).first = can.apart i j d lt within in omega arith)
        | inr gt ↦ absurd (omega arith)
      ]
    ]

pub parted : (rs : List Range) (a : ℕ) → IsCanonical rs → IsPartitionedBy (λ r. ltb r.last a) rs
parted rs a can = IsPartitionedBy-ltb (λ r. r.last) rs a (last_rises rs can)

-- what is below the range at k, and above all before it, isn't covered
pub not_between : (rs : List Range) (k a : ℕ) (z : Range) → IsCanonical rs → k < length rs → a < (get_or rs k z).first
    → AllWithin (λ r. r.last < a) rs 0 k → Covers rs a → ⊥
not_between rs k a z can within low before (j, r, inside, at, held) =
    let h : Holds (get_or rs j z) a = found_at rs a j r z inside at held in
    elim (cases_order j k) [
      | inl e ↦ (let f : (get_or rs j z).first ≡ (get_or rs k z).first = ap (λ n. (get_or rs n z).first) e in omega arith)
      | inr n ↦ elim n [
        | inl lt ↦ (let b : (get_or rs j z).last < a = before j z (omega arith) lt in omega arith)
        | inr gt ↦ (let b : (get_or rs k z).last + 1 < (get_or rs j z).first = can.apart k j z gt inside in
            let e : (get_or rs k z).first ≤ (get_or rs k z).last = can.each k z within in omega arith)
      ]
    ]

pub none_past : (rs : List Range) (a b k : ℕ) → length rs ≤ k → a ≤ b → AllWithin (λ r. r.last < a) rs 0 k → Covers rs b → ⊥
none_past rs a b k all up before (j, r, inside, at, held) =
    let h : Holds (get_or rs j r) b = found_at rs b j r r inside at held in
    let e : (get_or rs j r).last < a = before j r (omega arith) (omega arith) in omega arith

-- the address after a range isn't covered
pub not_after : (rs : List Range) (k : ℕ) (z : Range) → IsCanonical rs → k < length rs → Covers rs ((get_or rs k z).last + 1) → ⊥
not_after rs k z can within (j, r, inside, at, held) =
    let h : Holds (get_or rs j z) ((get_or rs k z).last + 1) = found_at rs _ j r z inside at held in
    let el : (get_or rs k z).first ≤ (get_or rs k z).last = can.each k z within in
    elim (cases_order j k) [
      | inl e ↦ (let same : (get_or rs j z).last ≡ (get_or rs k z).last = ap (λ n. (get_or rs n z).last) e in omega arith)
      | inr n ↦ elim n [
        | inl lt ↦ (let b : (get_or rs j z).last + 1 < (get_or rs k z).first = can.apart j k z lt within in omega arith)
        | inr gt ↦ (let b : (get_or rs k z).last + 1 < (get_or rs j z).first = can.apart k j z gt inside in omega arith)
      ]
    ]

-- the answers of the two searches
pub outside_before : (r : Range) (rs : List Range) (k : ℕ) (z : Range) → IsCanonical rs → r.first ≤ r.last → k < length rs → r.first < (get_or rs k z).first
    → AllWithin (λ s. s.last < r.first) rs 0 k → IsLeastOutside r rs r.first
outside_before r rs k z can lawful within low before = record {
  held = (omega arith, lawful);
  outside = not_between rs k r.first z can within low before;
  least = λ b lt h. absurd (omega arith);
}

pub outside_past : (r : Range) (rs : List Range) (k : ℕ) → r.first ≤ r.last → length rs ≤ k
    → AllWithin (λ s. s.last < r.first) rs 0 k → IsLeastOutside r rs r.first
outside_past r rs k lawful all before = record {
  held = (omega arith, lawful);
  outside = none_past rs r.first r.first k all (omega arith) before;
  least = λ b lt h. absurd (omega arith);
}

pub outside_after : (r : Range) (rs : List Range) (k : ℕ) (z : Range) → IsCanonical rs → k < length rs → (get_or rs k z).first ≤ r.first
    → r.first ≤ (get_or rs k z).last → (get_or rs k z).last < r.last → IsLeastOutside r rs ((get_or rs k z).last + 1)
outside_after r rs k z can within low in' high = record {
  held = (omega arith, omega arith);
  outside = not_after rs k z can within;
  least = λ b lt h. covers_at rs k b z within (omega arith, omega arith);
}

pub from_inside : (rs : List Range) (k from : ℕ) (z : Range) → k < length rs → (get_or rs k z).first ≤ from → from ≤ (get_or rs k z).last → IsLeastFrom rs from from
from_inside rs k from z within low high = record {
  from_on = omega arith;
  covered = covers_at rs k from z within (low, high);
  least = λ b up lt h. omega arith;
}

within_weaker : (rs : List Range) (k a b : ℕ) → a ≤ b → AllWithin (λ r. r.last < a) rs 0 k → AllWithin (λ r. r.last < b) rs 0 k
within_weaker rs k a b le h j d low high = let e : (get_or rs j d).last < a = h j d low high in omega arith

pub from_next : (rs : List Range) (k from : ℕ) (z : Range) → IsCanonical rs → k < length rs → from ≤ (get_or rs k z).first
    → AllWithin (λ r. r.last < from) rs 0 k → IsLeastFrom rs from (get_or rs k z).first
from_next rs k from z can within low before = record {
  from_on = low;
  covered = covers_at rs k (get_or rs k z).first z within (let e : (get_or rs k z).first ≤ (get_or rs k z).last = can.each k z within in (omega arith, e));
  least = λ b up lt. not_between rs k b z can within lt (within_weaker rs k from b up before);
}
