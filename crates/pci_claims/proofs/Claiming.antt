-- The least address of two lists, and of two claims.
use Rattle.std.proofs.Common.{◌≡◌, ℕ, ◌+◌, ◌<◌, ◌≤◌, List, Option, None, Some, length, get_or, take, true, false, inl, inr, arith, subst, sym, ap}
use Rattle.std.specs.Prelude.{MatchOption}
use Rattle.std.proofs.lemmas.Bool.{cases_order, cases_lt, both_ways}
use Rattle.std.proofs.lemmas.List.{take_more, take_all}
use Rattle.pci_base.specs.declared.range.Range.{Range}
use Rattle.pci_tree.specs.Ranges.{Holds, Covers, IsCanonical, IsLeastFrom}
use Rattle.pci_tree.proofs.Passing.{covers_push}
use Rattle.pci_tree.proofs.RangeLists.{found_at, covers_at}
use Rattle.pci_claims.specs.Claim.{Claimed, may_both_claim, AreAtOdds, IsLeastAtOdds, IsLeastCommon}
use Rattle.pci_claims.proofs.Gathering.{covers_take}

-- the first so many ranges of a list have no address of the other
abbrev pub NoneCommon : List Range → List Range → Type 0
NoneCommon rs ss = (a : ℕ) → Covers rs a → Covers ss a → ⊥

pub none_more : (rs ss : List Range) (i : ℕ) (z : Range) → i < length rs → NoneCommon (take i rs) ss
    → ((a : ℕ) → Holds (get_or rs i z) a → Covers ss a → ⊥) → NoneCommon (take (i + 1) rs) ss
none_more rs ss i z within none here a h both =
    elim ((covers_push (take i rs) (get_or rs i z) a).0 (subst (λ xs. Covers xs a) (take_more rs i z within) h)) [
      | inl before ↦ none a before both
      | inr held ↦ here a held both
    ]

pub none_at_all : (rs ss : List Range) (n : ℕ) → length rs ≤ n → NoneCommon (take n rs) ss → NoneCommon rs ss
none_at_all rs ss n end none a h both = none a (subst (λ xs. Covers xs a) (sym (take_all n rs end)) h) both

-- no address of the range at a place, where the least one of the other list from its first is behind it
pub none_here : (ss : List Range) (r : Range) (a : ℕ) → IsLeastFrom ss r.first a → r.last < a → (b : ℕ) → Holds r b → Covers ss b → ⊥
none_here ss r a is past b held = is.least b held.0 (omega (arith, held, past))

pub none_from : (ss : List Range) (r : Range) → ((a : ℕ) → r.first ≤ a → Covers ss a → ⊥) → (b : ℕ) → Holds r b → Covers ss b → ⊥
none_from ss r none b held = none b held.0

pub common_here : (rs ss : List Range) (i a : ℕ) (z : Range) → IsCanonical rs → i < length rs → NoneCommon (take i rs) ss
    → IsLeastFrom ss (get_or rs i z).first a → a ≤ (get_or rs i z).last → IsLeastCommon rs ss a
common_here rs ss i a z can within none is low = record {
  first = covers_at rs i a z within (is.from_on, low);
  second = is.covered;
  least = λ b less h both. (
      let (j, x, inside, at, has) = h in
      let held : Holds (get_or rs j z) b = found_at rs b j x z inside at has in
      elim (cases_order j i) [
        | inl e ↦ is.least b (let first : (get_or rs j z).first ≡ (get_or rs i z).first = ap (λ n. (get_or rs n z).first) e in omega (arith, held, first)) less both
        | inr n ↦ elim n [
          | inl lt ↦ none b (covers_take rs i j b x lt inside (omega (arith, within)) at has) both
          | inr gt ↦ (let gap = can.apart i j z gt inside in omega (arith, gap, held, less, low))
        ]
      ]);
}

-- ---- one list below another

pub up_to_the_last : (rs : List Range) (m j : ℕ) (z : Range) → IsCanonical rs → m + 1 ≡ length rs → j < length rs → (get_or rs j z).last ≤ (get_or rs m z).last
up_to_the_last rs m j z can end inside = elim (cases_order j m) [
  | inl e ↦ (let same : (get_or rs j z).last ≡ (get_or rs m z).last = ap (λ n. (get_or rs n z).last) e in omega (arith, same))
  | inr n ↦ elim n [
    | inl lt ↦ (let gap = can.apart j m z lt (omega (arith, end)) in let own = can.each m z (omega (arith, end)) in omega (arith, gap, own))
    | inr gt ↦ absurd (let no : ⊥ = omega (arith, gt, inside, end) in no)
  ]
]

from_the_first : (ss : List Range) (k : ℕ) (z : Range) → IsCanonical ss → k < length ss → (get_or ss 0 z).first ≤ (get_or ss k z).first
from_the_first ss k z can inside = elim (cases_order 0 k) [
  | inl e ↦ (let same : (get_or ss 0 z).first ≡ (get_or ss k z).first = ap (λ n. (get_or ss n z).first) e in omega (arith, same))
  | inr n ↦ elim n [
    | inl lt ↦ (let gap = can.apart 0 k z lt inside in let own = can.each 0 z (omega (arith, inside)) in omega (arith, gap, own))
    | inr gt ↦ absurd (let no : ⊥ = omega (arith, gt) in no)
  ]
]

pub apart_by_ends : (rs ss : List Range) (m : ℕ) (y z : Range) → IsCanonical rs → IsCanonical ss → m + 1 ≡ length rs → (get_or rs m y).last < (get_or ss 0 z).first → NoneCommon rs ss
apart_by_ends rs ss m y z can_rs can_ss end less a (j, x, in_rs, at_j, has_j) (k, w, in_ss, at_k, has_k) =
    let held : Holds (get_or rs j y) a = found_at rs a j x y in_rs at_j has_j in
    let other : Holds (get_or ss k z) a = found_at ss a k w z in_ss at_k has_k in
    let high = up_to_the_last rs m j y can_rs end in_rs in
    let low = from_the_first ss k z can_ss in_ss in
    let no : ⊥ = omega (arith, held, other, high, low, less) in no

pub apart_around : (rs ss : List Range) → NoneCommon ss rs → NoneCommon rs ss
apart_around rs ss apart a h both = apart a both h

-- ---- two claims

pub never_at_odds : (c d : Claimed) → may_both_claim c d ≡ true → (a : ℕ) → AreAtOdds c d a → ⊥
never_at_odds c d share a odds = both_ways _ odds.apart share

pub odds_answer : (c d : Claimed) → may_both_claim c d ≡ false → (o : Option ℕ)
    → MatchOption o ((a : ℕ) → Covers c.pieces a → Covers d.pieces a → ⊥) (λ a. IsLeastCommon c.pieces d.pieces a)
    → MatchOption o ((a : ℕ) → AreAtOdds c d a → ⊥) (λ a. IsLeastAtOdds c d a)
odds_answer c d apart None none = λ a odds. none a odds.first odds.second
odds_answer c d apart (Some a) is = record {
  there = record { first = is.first; second = is.second; apart = apart };
  least = λ b odds. elim (cases_lt b a) [ inl less ↦ absurd (is.least b less odds.first odds.second) | inr le ↦ le ];
}
