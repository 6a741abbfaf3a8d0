-- Lists of ranges that are made of others.
use Rattle.std.proofs.Common.{◌≡◌, ℕ, zero, suc, Bool, false, ◌+◌, ◌<◌, ◌≤◌, ◌⊎◌, List, [], ◌∷◌, ◌++◌, length, get_or, take, inl, inr, arith, subst, sym, ◌∙◌, ap, refl}
use Rattle.std.specs.Prelude.{◌↔◌, ◌==◌}
use Rattle.std.specs.List.{All, AllWithin}
use Rattle.std.specs.List.Sorted.{IsNonDecreasingBy, IsPermutation}
use Rattle.std.proofs.lemmas.List.Sorted.{Contains-permutation, IsPermutation-sym}
use Rattle.std.proofs.lemmas.Bool.{cases_lt, both_ways}
use Rattle.std.proofs.lemmas.List.{get_or-take, take_more, length-take-le, take_all}
use Rattle.std.proofs.lemmas.List.{get_or_default}
use Rattle.pci_base.specs.declared.range.Range.{Range}
use Rattle.pci_tree.specs.Ranges.{Holds, Covers, IsCanonical}
use Rattle.pci_tree.specs.Passing.{IsPush}
use Rattle.pci_tree.proofs.Passing.{covers_push, canonical_push, push_meet, below_next}
use Rattle.pci_tree.proofs.RangeLists.{found_at}
use Rattle.pci_claims.specs.Gathered.{IsGathered, IsCommon, IsJoined}

pub none_covered : (a : ℕ) → Covers [] a → ⊥
none_covered a (k, r, within, at, held) = omega arith

pub nil_canonical : IsCanonical []
nil_canonical = record { each = λ k d within. absurd (omega arith); apart = λ i j d lt within. absurd (omega arith) }

pub some_of : (n : ℕ) (b : Bool) → b ≡ n == 0 → b ≡ false → 0 < n
some_of zero b e off = absurd (both_ways _ off (e ∙ refl))
some_of (suc n) b e off = omega arith

-- ---- merging

pub record IsOpen (rs : List Range) (i : ℕ) (out : List Range) (open_one : Range) : Type 0 where
  pub canonical : IsCanonical out
  pub below : (a : ℕ) → Covers out a → a + 1 < open_one.first
  pub span : open_one.first ≤ open_one.last
  pub exact : (a : ℕ) → (Covers out a ⊎ Holds open_one a) ↔ Covers (take i rs) a
  pub behind : (k : ℕ) (d : Range) → i ≤ k → k < length rs → open_one.first ≤ (get_or rs k d).first

-- what the first so many ranges have, with one more
pub more_covers : (rs : List Range) (i : ℕ) (r : Range) → i < length rs → r ≡ get_or rs i r → (a : ℕ) → Covers (take (i + 1) rs) a ↔ (Covers (take i rs) a ⊎ Holds r a)
more_covers rs i r within at a =
    subst (λ xs. Covers xs a ↔ (Covers (take i rs) a ⊎ Holds r a)) (sym (take_more rs i r within))
    (subst (λ x. Covers (take i rs ++ x ∷ []) a ↔ (Covers (take i rs) a ⊎ Holds r a)) at (covers_push (take i rs) r a))

pub open_first : (rs : List Range) (r : Range) → 0 < length rs → r ≡ get_or rs 0 r → All (λ r. r.first ≤ r.last) rs → IsNonDecreasingBy (λ r. r.first) rs → IsOpen rs 1 [] r
open_first rs r within at lawful sorted = record {
  canonical = nil_canonical;
  below = λ a h. absurd (none_covered a h);
  span = subst (λ (x : Range). x.first ≤ x.last) (sym at) (lawful 0 r within);
  exact = λ a. (
    λ (h : Covers [] a ⊎ Holds r a). elim h [ inl c ↦ absurd (none_covered a c) | inr held ↦ (more_covers rs 0 r within at a).1 (inr held) ],
    λ (h : Covers (take 1 rs) a). elim ((more_covers rs 0 r within at a).0 h) [ inl c ↦ absurd (none_covered a c) | inr held ↦ inr held ],
  );
  behind = λ k d low less.
      let up = sorted 0 k d (omega arith) less in
      let e : (get_or rs 0 d).first ≡ r.first = ap (λ (x : Range). x.first) (get_or_default rs 0 d r within ∙ sym at) in
      omega (arith, up, e);
}

pub open_apart : (rs : List Range) (i : ℕ) (out new : List Range) (o r : Range) → IsOpen rs i out o → i < length rs → r ≡ get_or rs i r → o.last + 1 < r.first
    → All (λ r. r.first ≤ r.last) rs → IsNonDecreasingBy (λ r. r.first) rs → new ≡ out ++ o ∷ [] → IsOpen rs (i + 1) new r
open_apart rs i out new o r is within at gap lawful sorted e = subst (λ xs. IsOpen rs (i + 1) xs r) (sym e) record {
  canonical = canonical_push out o is.canonical is.span is.below;
  below = λ a h. elim ((covers_push out o a).0 h) [
    | inl c ↦ (let low = is.below a c in let span = is.span in omega (arith, low, gap, span))
    | inr held ↦ omega (arith, held, gap)
  ];
  span = subst (λ (x : Range). x.first ≤ x.last) (sym at) (lawful i r within);
  exact = λ a. (
    λ (h : Covers (out ++ o ∷ []) a ⊎ Holds r a). (more_covers rs i r within at a).1 (elim h [ inl c ↦ inl ((is.exact a).0 ((covers_push out o a).0 c)) | inr held ↦ inr held ]),
    λ (h : Covers (take (i + 1) rs) a). elim ((more_covers rs i r within at a).0 h) [ inl c ↦ inl ((covers_push out o a).1 ((is.exact a).1 c)) | inr held ↦ inr held ],
  );
  behind = λ k d low less.
      let up = sorted i k d (omega (arith, low)) less in
      let e : (get_or rs i d).first ≡ r.first = ap (λ (x : Range). x.first) (get_or_default rs i d r within ∙ sym at) in
      omega (arith, up, e);
}

pub open_touch : (rs : List Range) (i : ℕ) (out : List Range) (o r m : Range) → IsOpen rs i out o → i < length rs → r ≡ get_or rs i r → r.first ≤ o.last + 1
    → IsJoined o r m → IsOpen rs (i + 1) out m
open_touch rs i out o r m is within at touch join =
    let low : o.first ≤ r.first = subst (λ (x : Range). o.first ≤ x.first) (sym at) (is.behind i r (omega arith) within) in
    let first = join.first in
    let high = join.high in
    let span = is.span in
    record {
      canonical = is.canonical;
      below = λ a h. let b = is.below a h in omega (arith, b, first);
      span = omega (arith, first, high, span);
      exact = λ a. (
        λ (h : Covers out a ⊎ Holds m a). (more_covers rs i r within at a).1 (elim h [
          | inl c ↦ inl ((is.exact a).0 (inl c))
          | inr held ↦ elim (cases_lt o.last a) [
            | inr in_o ↦ inl ((is.exact a).0 (inr (omega (arith, held, first), in_o)))
            | inl past ↦ elim join.last [
              | inl e ↦ absurd (omega (arith, e, held, past))
              | inr e ↦ inr (omega (arith, past, touch), omega (arith, e, held))
            ]
          ]
        ]),
        λ (h : Covers (take (i + 1) rs) a). elim ((more_covers rs i r within at a).0 h) [
          | inl c ↦ elim ((is.exact a).1 c) [ inl b ↦ inl b | inr held ↦ inr (omega (arith, held, first), omega (arith, held, high)) ]
          | inr held ↦ inr (omega (arith, held, first, low), omega (arith, held, high))
        ],
      );
      behind = λ k d up less. let b = is.behind k d (omega (arith, up)) less in omega (arith, b, first);
    }

pub open_done : (rs : List Range) (n : ℕ) (out new : List Range) (o : Range) → IsOpen rs n out o → n ≡ length rs → new ≡ out ++ o ∷ [] → IsGathered rs new
open_done rs n out new o is end e = subst (λ xs. IsGathered rs xs) (sym e) record {
  canonical = canonical_push out o is.canonical is.span is.below;
  exact = λ a. (
    λ (h : Covers (out ++ o ∷ []) a). subst (λ xs. Covers xs a) (take_all n rs (omega (arith, end))) ((is.exact a).0 ((covers_push out o a).0 h)),
    λ (h : Covers rs a). (covers_push out o a).1 ((is.exact a).1 (subst (λ xs. Covers xs a) (sym (take_all n rs (omega (arith, end)))) h)),
  );
}

-- ---- what two lists have in common

-- what the first so many have
in_front : (ss : List Range) (n a : ℕ) → n ≤ length ss → Covers (take n ss) a → Covers ss a
in_front ss n a within (k, s, inside, at, has) =
    let size : length (take n ss) ≡ n = length-take-le n ss within in
    let less : k < n = omega (arith, inside, size) in
    (k, s, omega (arith, less, within), sym (get_or-take n ss k s less) ∙ at, has)

pub covers_take : (ss : List Range) (n k a : ℕ) (s : Range) → k < n → k < length ss → n ≤ length ss → get_or ss k s ≡ s → Holds s a → Covers (take n ss) a
covers_take ss n k a s less inside within at has =
    let size : length (take n ss) ≡ n = length-take-le n ss within in
    (k, s, omega (arith, less, size), get_or-take n ss k s less ∙ at, has)

-- where a range ends before one begins, none of the first so many has an address of it
pub nothing_before : (ss : List Range) (n : ℕ) (r : Range) → n ≤ length ss → AllWithin (λ s. s.last < r.first) ss 0 n → (a : ℕ) → Holds r a → Covers (take n ss) a → ⊥
nothing_before ss n r within before a held (k, s, inside, at, has) =
    let size : length (take n ss) ≡ n = length-take-le n ss within in
    let less : k < n = omega (arith, inside, size) in
    let h : Holds (get_or (take n ss) k s) a = found_at (take n ss) a k s s inside at has in
    let e : get_or (take n ss) k s ≡ get_or ss k s = get_or-take n ss k s less in
    let l : (get_or (take n ss) k s).last ≡ (get_or ss k s).last = ap (λ (x : Range). x.last) e in
    let b = before k s (omega arith) less in
    omega (arith, h, l, b, held)

pub start_common : (old ss : List Range) (n : ℕ) (r : Range) → IsCanonical old → n ≤ length ss → AllWithin (λ s. s.last < r.first) ss 0 n
    → IsPush old old (λ a. Holds r a × Covers (take n ss) a)
start_common old ss n r can within before = record {
  canonical = can;
  exact = λ a. (
    λ (h : Covers old a). inl h,
    λ (h : Covers old a ⊎ (Holds r a × Covers (take n ss) a)). elim h [ inl c ↦ c | inr both ↦ absurd (nothing_before ss n r within before a both.0 both.1) ],
  );
}

pub more_common : (old mid out ss : List Range) (i : ℕ) (r s m : Range) → IsPush old mid (λ a. Holds r a × Covers (take i ss) a) → IsCanonical ss → i < length ss → s ≡ get_or ss i s
    → ((a : ℕ) → Covers old a → a + 1 < r.first) → out ≡ mid ++ m ∷ [] → (m.first ≤ m.last) × ((a : ℕ) → Holds m a ↔ (Holds r a × Holds s a))
    → IsPush old out (λ a. Holds r a × Covers (take (i + 1) ss) a)
more_common old mid out ss i r s m is can within at below e met =
    let step = push_meet mid out r s m is.canonical
    (λ a h. elim ((is.exact a).0 h) [ inl c ↦ inl (below a c) | inr both ↦ inr (subst (λ (x : Range). a + 1 < x.first) (sym at) (below_next ss i a s can within both.1)) ])
    e met.0 met.1 in
    record {
      canonical = step.canonical;
      exact = λ a. (
        λ (h : Covers out a). elim ((step.exact a).0 h) [
          | inl c ↦ elim ((is.exact a).0 c) [ inl b ↦ inl b | inr both ↦ inr (both.0, (more_covers ss i s within at a).1 (inl both.1)) ]
          | inr both ↦ inr (both.0, (more_covers ss i s within at a).1 (inr both.1))
        ],
        λ (h : Covers old a ⊎ (Holds r a × Covers (take (i + 1) ss) a)). (step.exact a).1 (elim h [
          | inl b ↦ inl ((is.exact a).1 (inl b))
          | inr both ↦ elim ((more_covers ss i s within at a).0 both.1) [ inl c ↦ inl ((is.exact a).1 (inr (both.0, c))) | inr held ↦ inr (both.0, held) ]
        ]),
      );
    }

-- from a range on that begins behind another no further one has an address of that
pub end_common : (old out ss : List Range) (i from : ℕ) (r s : Range) → IsPush old out (λ a. Holds r a × Covers (take i ss) a) → IsCanonical ss → i < length ss → s ≡ get_or ss i s
    → from ≤ i → AllWithin (λ s. r.first ≤ s.last) ss from (length ss) → ((a : ℕ) → Holds r a → Holds s a → ⊥) → IsPush old out (λ a. Holds r a × Covers ss a)
end_common old out ss i from r s is can within at low after none =
    let span : s.first ≤ s.last = subst (λ (x : Range). x.first ≤ x.last) (sym at) (can.each i s within) in
    let reaches : r.first ≤ s.last = subst (λ (x : Range). r.first ≤ x.last) (sym at) (after i s low within) in
    record {
      canonical = is.canonical;
      exact = λ a. (
        λ (h : Covers out a). elim ((is.exact a).0 h) [ inl b ↦ inl b | inr both ↦ inr (both.0, in_front ss i a (omega (arith, within)) both.1) ],
        λ (h : Covers old a ⊎ (Holds r a × Covers ss a)). (is.exact a).1 (elim h [
          | inl b ↦ inl b
          | inr both ↦ inr (
            both.0,
            (
                let (k, x, inside, is_x, has) = both.1 in
                elim (cases_lt k i) [
                  | inl less ↦ covers_take ss i k a x less inside (omega (arith, within)) is_x has
                  | inr ge ↦ absurd (
                      let past : r.last < s.first = elim (cases_lt r.last s.first) [
                        | inl lt ↦ lt
                        | inr le ↦ absurd (elim (cases_lt s.first r.first) [
                          | inl lt ↦ none r.first (omega arith, (let held = both.0 in omega (arith, held))) (omega (arith, lt), reaches)
                          | inr up ↦ none s.first (up, le) (omega arith, span)
                        ])
                      ] in
                      let up : s.first ≤ (get_or ss k s).first = elim (cases_lt i k) [
                        | inl lt ↦ (let gap = can.apart i k s lt inside in let e : (get_or ss i s).last ≡ s.last = ap (λ (y : Range). y.last) (sym at) in omega (arith, gap, e, span))
                        | inr le ↦ (let same : k ≡ i = omega (arith, le, ge) in let e : (get_or ss k s).first ≡ s.first = ap (λ n. (get_or ss n s).first) same ∙ ap (λ (y : Range). y.first) (sym at) in omega (arith, e))
                      ] in
                      let h : Holds (get_or ss k s) a = found_at ss a k x s inside is_x has in
                      let held = both.0 in
                      omega (arith, past, up, h, held))
                ]),
          )
        ]),
      );
    }

pub whole_common : (old out ss : List Range) (n : ℕ) (r : Range) → IsPush old out (λ a. Holds r a × Covers (take n ss) a) → n ≡ length ss → IsPush old out (λ a. Holds r a × Covers ss a)
whole_common old out ss n r is end = subst (λ xs. IsPush old out (λ a. Holds r a × Covers xs a)) (take_all n ss (omega (arith, end))) is

pub common_more : (rs ss mid out : List Range) (i : ℕ) (z : Range) → i < length rs → IsCommon (take i rs) ss mid
    → IsPush mid out (λ a. Holds (get_or rs i z) a × Covers ss a) → IsCommon (take (i + 1) rs) ss out
common_more rs ss mid out i z within so step = subst (λ xs. IsCommon xs ss out) (sym (take_more rs i z within)) (record {
  canonical = step.canonical;
  exact = λ a. (
    λ (h : Covers out a). elim ((step.exact a).0 h) [
      | inl m ↦ (let p : Covers (take i rs) a × Covers ss a = (so.exact a).0 m in ((covers_push (take i rs) (get_or rs i z) a).1 (inl p.0), p.1))
      | inr both ↦ ((covers_push (take i rs) (get_or rs i z) a).1 (inr both.0), both.1)
    ],
    λ (h : Covers (take i rs ++ get_or rs i z ∷ []) a × Covers ss a). elim ((covers_push (take i rs) (get_or rs i z) a).0 h.0) [
      | inl before ↦ (step.exact a).1 (inl ((so.exact a).1 (before, h.1)))
      | inr held ↦ (step.exact a).1 (inr (held, h.1))
    ],
  );
})

-- ---- in another order

pub moved_covers : (rs ss : List Range) (a : ℕ) → IsPermutation rs ss → Covers rs a → Covers ss a
moved_covers rs ss a moved (k, r, within, at, held) = let there = Contains-permutation rs ss r moved (k, within, at) in (there.0, r, there.1, there.2, held)

pub moved_gathered : (rs ss out : List Range) → IsPermutation rs ss → IsGathered ss out → IsGathered rs out
moved_gathered rs ss out moved is = record {
  canonical = is.canonical;
  exact = λ a. (
    λ (h : Covers out a). moved_covers ss rs a (IsPermutation-sym rs ss moved) ((is.exact a).0 h),
    λ (h : Covers rs a). (is.exact a).1 (moved_covers rs ss a moved h),
  );
}
