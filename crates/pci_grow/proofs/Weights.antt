-- A row that has the ranges of a list has each of them, and no other.
use Rattle.std.proofs.Common.{◌≡◌, ℕ, ◌<◌, List, [], ◌∷◌, map, cond, true, Bool, ◌&&◌, arith, ap, sym, subst, refl, ◌∙◌, inl, inr}
use Rattle.std.specs.Bool.{◌==◌}
use Rattle.std.specs.List.{Contains, sum_by, list_all}
use Rattle.std.proofs.lemmas.Bool.{cases_Bool, and_parts, and_from, eqb-true, eq-eqb, false_from_ne_true, true≢false}
use Rattle.std.proofs.lemmas.List.Sums.{sum_by-cons}
use Rattle.pci_spec.specs.Decoded.{Range as DecodedRange}
use Rattle.pci_spec.proofs.Members.{in_nil, in_head, in_tail, in_cons_cases, in_map_to, in_map_from}
use Rattle.pci_spec.proofs.BusRanges.{all_gives, all_from}
use Rattle.settle_spec.proofs.SameTaken.{HaveSame}
use Rattle.pci_base.specs.declared.range.Range.{Range}
use Rattle.pci_base.specs.Ranges.{decoded_range_of}
use Rattle.pci_grow.specs.RoomRows.{HasRanges}

-- whether two ranges are one
unfoldable is_same : DecodedRange → DecodedRange → Bool
is_same t u = t.first == u.first && t.last == u.last

one_is : (t u : DecodedRange) → is_same t u ≡ true → t ≡ u
unfolding is_same
one_is t u is =
    let parts = and_parts (t.first == u.first) (t.last == u.last) is in
    let first = eqb-true t.first u.first parts.0 in
    let last = eqb-true t.last u.last parts.1 in
    ap (λ n. let x : DecodedRange = record { first = n; last = t.last } in x) first
    ∙ ap (λ n. let x : DecodedRange = record { first = u.first; last = n } in x) last

one_self : (t : DecodedRange) → is_same t t ≡ true
unfolding is_same
one_self t = and_from (t.first == t.first) (t.last == t.last) (eq-eqb t.first t.first refl) (eq-eqb t.last t.last refl)

-- 1 for a range, and 0 for all others
abbrev count_of : DecodedRange → DecodedRange → ℕ
count_of t u = cond (is_same t u) 1 0

module _ {X : Type 0} (value : X → DecodedRange) (t : DecodedRange) where
  abbrev counted : List X → ℕ
  counted xs = sum_by (λ x. count_of t (value x)) xs

  -- what is in a list is counted
  counts : (xs : List X) (x : X) → Contains xs x → value x ≡ t → 0 < counted xs
  counts [] x listed is = absurd (in_nil x listed)
  counts (y ∷ xs) x listed is =
      let sums = sum_by-cons (λ x. count_of t (value x)) y xs in
      elim (in_cons_cases y xs x listed) [
        | inl here ↦
            let same : is_same t (value y) ≡ true = subst (λ u. is_same t u ≡ true) (sym is ∙ sym (ap value here)) (one_self t) in
            let one = ap {B = ℕ} (λ b. cond b 1 0) same in
            omega (arith, sums, one)
        | inr later ↦ (let rest = counts xs x later is in omega (arith, sums, rest))
      ]

  -- and what is counted is in it
  has_counted : (xs : List X) → 0 < counted xs → (x : X) × Contains xs x × (value x ≡ t)
  has_counted [] some = absurd (let no : ⊥ = omega (arith, some) in no)
  has_counted (y ∷ xs) some = elim (cases_Bool (is_same t (value y))) [
    | inl same ↦ (y, in_head y xs, sym (one_is t (value y) same))
    | inr other ↦
        let sums = sum_by-cons (λ x. count_of t (value x)) y xs in
        let none = ap {B = ℕ} (λ b. cond b 1 0) other in
        let rest : (x : X) × Contains xs x × (value x ≡ t) = has_counted xs (omega (arith, sums, none, some)) in
        (rest.0, in_tail y xs rest.0 rest.1, rest.2)
  ]

module _ (row : List Range) (ranges : List DecodedRange) (same : HasRanges row ranges) where
  -- a range of the list is in the row
  pub in_row : (r : Range) → Contains ranges (decoded_range_of r) → Contains row r
  in_row r listed =
      let t = decoded_range_of r in
      let counted_there = counts (λ (u : DecodedRange). u) t ranges t listed refl in
      let sums = same (count_of t) in
      let found : (x : Range) × Contains row x × (decoded_range_of x ≡ t) = has_counted decoded_range_of t row (omega (arith, counted_there, sums)) in
      let one : found.0 ≡ r = ap (λ (u : DecodedRange). let x : Range = record { first = u.first; last = u.last } in x) found.2 in
      subst (Contains row) one found.1

  pub to_list : (r : Range) → Contains row r → Contains ranges (decoded_range_of r)
  to_list r listed =
      let t = decoded_range_of r in
      let counted_there = counts decoded_range_of t row r listed refl in
      let sums = same (count_of t) in
      let found : (u : DecodedRange) × Contains ranges u × (u ≡ t) = has_counted (λ (u : DecodedRange). u) t ranges (omega (arith, counted_there, sums)) in
      subst (Contains ranges) found.2 found.1

  pub have_same : HaveSame (map decoded_range_of row) ranges
  have_same = record {
    to = λ t listed. let made = in_map_to decoded_range_of row t listed in subst (Contains ranges) made.is (to_list made.from made.has);
    back = λ t listed. let r : Range = record { first = t.first; last = t.last } in in_map_from decoded_range_of row r (in_row r listed);
  }

  -- what all in the row pass, all in the list do
  pub all_same : (test : DecodedRange → Bool) → list_all (λ (r : Range). test (decoded_range_of r)) row ≡ list_all test ranges
  all_same test = elim (cases_Bool (list_all test ranges)) [
    | inl all ↦ all_from (λ (r : Range). test (decoded_range_of r)) row (λ r listed. all_gives test ranges all (decoded_range_of r) (to_list r listed)) ∙ sym all
    | inr not ↦ false_from_ne_true (list_all (λ (r : Range). test (decoded_range_of r)) row) (λ all.
        true≢false (sym (all_from test ranges (λ t listed. let r : Range = record { first = t.first; last = t.last } in all_gives (λ (r : Range). test (decoded_range_of r)) row all r (in_row r listed))) ∙ not)) ∙ sym not
  ]
