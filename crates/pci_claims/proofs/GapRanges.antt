-- The gaps between ranges that stand by first address are just what none of them has.
use Rattle.std.proofs.Common.{◌≡◌, ℕ, suc, ◌+◌, ◌-◌, ◌<◌, ◌≤◌, List, [], ◌∷◌, ◌++◌, max, min, inl, inr, ◌⊎◌, sym, subst, arith, true, if◌then◌else◌, append-nil}
use Rattle.std.specs.Prelude.{nat_lt}
use Rattle.std.specs.List.{All, AllPairs, Contains}
use Rattle.std.proofs.lemmas.Bool.{cases_Bool, cases_lt, ltb-true, lt-ltb}
use Rattle.std.proofs.lemmas.List.Elements.{All-cons, All-contains, Contains-append_cases, Contains-append_left, Contains-append_right}
use Rattle.pci_spec.proofs.Members.{in_nil, in_cons_cases, in_head, in_tail, pairs_nil, pairs_cons, pairs_head, pairs_tail}
use Rattle.pci_base.specs.declared.range.Range.{Range}
use Rattle.pci_tree.specs.Ranges.{Holds, Covers, IsCanonical}
use Rattle.pci_claims.specs.Gaps.{piece, between, gaps}

-- ---- covering, by what a list has

pub covers_has : (rs : List Range) (a : ℕ) → Covers rs a → (r : Range) × Contains rs r × Holds r a
covers_has rs a h = (h.1, (h.0, h.2, h.3), h.4)

pub covers_from : (rs : List Range) (a : ℕ) (r : Range) → Contains rs r → Holds r a → Covers rs a
covers_from rs a r has held = (has.0, r, has.1, has.2, held)

pub covers_nil : (a : ℕ) → Covers [] a → ⊥
covers_nil a h = in_nil h.1 (h.0, h.2, h.3)

covers_cons : (r : Range) (rs : List Range) (a : ℕ) → Covers (r ∷ rs) a → Holds r a ⊎ Covers rs a
covers_cons r rs a h = let c = covers_has (r ∷ rs) a h in elim (in_cons_cases r rs c.0 c.1) [
  | inl here ↦ inl (subst (λ x. Holds x a) (sym here) c.2)
  | inr later ↦ inr (covers_from rs a c.0 later c.2)
]

pub covers_append : (rs ts : List Range) (a : ℕ) → Covers (rs ++ ts) a → Covers rs a ⊎ Covers ts a
covers_append rs ts a h = let c = covers_has (rs ++ ts) a h in elim (Contains-append_cases rs ts c.0 c.1) [
  | inl left ↦ inl (covers_from rs a c.0 left c.2)
  | inr right ↦ inr (covers_from ts a c.0 right c.2)
]

pub covers_left : (rs ts : List Range) (a : ℕ) → Covers rs a → Covers (rs ++ ts) a
covers_left rs ts a h = let c = covers_has rs a h in covers_from (rs ++ ts) a c.0 (Contains-append_left rs ts c.0 c.1) c.2

pub covers_right : (rs ts : List Range) (a : ℕ) → Covers ts a → Covers (rs ++ ts) a
covers_right rs ts a h = let c = covers_has ts a h in covers_from (rs ++ ts) a c.0 (Contains-append_right rs ts c.0 c.1) c.2

-- ---- pieces

abbrev whole : ℕ → ℕ → Range
whole first end = record { first = first; last = end - 1 }

piece_to : (first end a : ℕ) → Covers (piece first end) a → (first ≤ a) × (a < end)
piece_to first end a h = elim (cases_Bool (nat_lt first end)) [
  | inl some ↦ (
      let less = ltb-true first end some in
      elim (covers_cons (whole first end) [] a (subst (λ b. Covers (if b then whole first end ∷ [] else []) a) some h)) [
        | inl held ↦ (let low = held.0 in let high = held.1 in (low, omega (arith, less, high)))
        | inr none ↦ absurd (covers_nil a none)
      ])
  | inr none ↦ absurd (covers_nil a (subst (λ b. Covers (if b then whole first end ∷ [] else []) a) none h))
]

piece_from : (first end a : ℕ) → first ≤ a → a < end → Covers (piece first end) a
piece_from first end a low high =
    let some : nat_lt first end ≡ true = lt-ltb first end (omega (arith, low, high)) in
    subst (λ b. Covers (if b then whole first end ∷ [] else []) a) (sym some)
    (covers_from (whole first end ∷ []) a (whole first end) (in_head (whole first end) []) (low, omega (arith, high)))

piece_before : (first end : ℕ) (ts : List Range) → IsCanonical ts → ((t : Range) → Contains ts t → end < t.first) → IsCanonical (piece first end ++ ts)
piece_before first end ts can after = elim (cases_Bool (nat_lt first end)) [
  | inl some ↦ (
      let less = ltb-true first end some in
      subst (λ b. IsCanonical ((if b then whole first end ∷ [] else []) ++ ts)) (sym some) record {
        each = All-cons (λ (r : Range). r.first ≤ r.last) (whole first end) ts (omega (arith, less)) can.each;
        apart = pairs_cons (λ (r t : Range). r.last + 1 < t.first) (whole first end) ts (λ t has. (let up = after t has in omega (arith, less, up))) can.apart;
      })
  | inr none ↦ subst (λ b. IsCanonical ((if b then whole first end ∷ [] else []) ++ ts)) (sym none) can
]

none_canonical : IsCanonical []
none_canonical = record { each = λ k d within. absurd (let no : ⊥ = omega (arith, within) in no); apart = pairs_nil (λ (r t : Range). r.last + 1 < t.first) }

-- ---- gaps

module _ (range : Range) where
  pub gaps_to : (from : ℕ) (rs : List Range) (a : ℕ) → AllPairs (λ r t. r.first ≤ t.first) rs → All (λ r. r.first ≤ r.last) rs
      → Covers (gaps range from rs) a → Holds range a × (from ≤ a) × (Covers rs a → ⊥)
  unfolding gaps
  gaps_to from [] a sorted some h =
      let at = piece_to (max from range.first) (min (range.last + 1) (range.last + 1)) a h in
      let low = at.0 in let high = at.1 in
      ((omega (arith, low), omega (arith, high)), omega (arith, low), covers_nil a)
  gaps_to from (r ∷ rs) a sorted some h = elim (covers_append (between range from r.first) (gaps range (max from (r.last + 1)) rs) a h) [
    | inl here ↦ (
        let at = piece_to (max from range.first) (min r.first (range.last + 1)) a here in
        let low = at.0 in let high = at.1 in (
          (omega (arith, low), omega (arith, high)),
          omega (arith, low),
          (λ covered. elim (covers_cons r rs a covered) [
            | inl held ↦ (let start = held.0 in omega (arith, start, high))
            | inr later ↦ (
                let c = covers_has rs a later in
                let up = pairs_head (λ (x t : Range). x.first ≤ t.first) r rs c.0 sorted c.1 in
                let start = c.2.0 in omega (arith, up, start, high))
          ]),
        ))
    | inr behind ↦ (
        let rest = gaps_to (max from (r.last + 1)) rs a (pairs_tail (λ (x t : Range). x.first ≤ t.first) r rs sorted) (λ k d within. some (suc k) d (omega (arith, within))) behind in
        let low = rest.1 in (
          rest.0,
          omega (arith, low),
          (λ covered. elim (covers_cons r rs a covered) [
            | inl held ↦ (let high = held.1 in omega (arith, high, low))
            | inr later ↦ rest.2 later
          ]),
        ))
  ]

  pub gaps_from : (from : ℕ) (rs : List Range) (a : ℕ) → Holds range a → from ≤ a → (Covers rs a → ⊥) → Covers (gaps range from rs) a
  unfolding gaps
  gaps_from from [] a held low out =
      let start = held.0 in let high = held.1 in
      piece_from (max from range.first) (min (range.last + 1) (range.last + 1)) a (omega (arith, low, start)) (omega (arith, high))
  gaps_from from (r ∷ rs) a held low out =
      let start = held.0 in let high = held.1 in
      elim (cases_lt a r.first) [
        | inl before ↦ covers_left (between range from r.first) (gaps range (max from (r.last + 1)) rs) a
            (piece_from (max from range.first) (min r.first (range.last + 1)) a (omega (arith, low, start)) (omega (arith, high, before)))
        | inr behind ↦ elim (cases_lt r.last a) [
          | inl past ↦ covers_right (between range from r.first) (gaps range (max from (r.last + 1)) rs) a
              (gaps_from (max from (r.last + 1)) rs a held (omega (arith, low, past)) (λ c. (let x = covers_has rs a c in out (covers_from (r ∷ rs) a x.0 (in_tail r rs x.0 x.1) x.2))))
          | inr within ↦ absurd (out (covers_from (r ∷ rs) a r (in_head r rs) (behind, within)))
        ]
      ]

  pub gaps_canonical : (from : ℕ) (rs : List Range) → AllPairs (λ r t. r.first ≤ t.first) rs → All (λ r. r.first ≤ r.last) rs → IsCanonical (gaps range from rs)
  unfolding gaps
  gaps_canonical from [] sorted some = subst IsCanonical (append-nil (between range from (range.last + 1))) (piece_before (max from range.first) (min (range.last + 1) (range.last + 1)) [] none_canonical (λ t has. absurd (in_nil t has)))
  gaps_canonical from (r ∷ rs) sorted some =
      let tail = pairs_tail (λ (x t : Range). x.first ≤ t.first) r rs sorted in
      let rest : All (λ (x : Range). x.first ≤ x.last) rs = λ k d within. some (suc k) d (omega (arith, within)) in
      let can : IsCanonical (gaps range (max from (r.last + 1)) rs) = gaps_canonical (max from (r.last + 1)) rs tail rest in
      piece_before (max from range.first) (min r.first (range.last + 1)) (gaps range (max from (r.last + 1)) rs) can (λ t has. (
      let own : t.first ≤ t.last = All-contains (λ (x : Range). x.first ≤ x.last) (gaps range (max from (r.last + 1)) rs) t can.each has in
      let at = (gaps_to (max from (r.last + 1)) rs t.first tail rest (covers_from (gaps range (max from (r.last + 1)) rs) t.first t has (omega arith, own))).1 in
      let here : r.first ≤ r.last = some 0 r (omega arith) in
      omega (arith, at, here)))
