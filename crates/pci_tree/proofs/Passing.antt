-- Lists of ranges that grow at their end.
use Rattle.std.proofs.Common.{◌≡◌, ℕ, ◌+◌, ◌<◌, ◌≤◌, List, [], ◌∷◌, ◌++◌, length, get_or, take, sym, ap, subst, inl, inr, ◌⊎◌, arith, max, min, true, false, Option, None, Some}
use Rattle.std.specs.Prelude.{◌↔◌, MatchOption}
use Rattle.std.specs.Option.{is_some}
use Rattle.std.specs.List.{Contains}
use Rattle.std.proofs.lemmas.List.{get_or-take, take_more, length-take-le}
use Rattle.std.proofs.lemmas.List.Quantifiers.{Any-push, all_pairs_push}
use Rattle.std.proofs.lemmas.List.Elements.{All-push, Contains-push_cases, Contains-append_left}
use Rattle.std.proofs.lemmas.Bool.{le-leb}
use Rattle.std.proofs.lemmas.Bool.Decides.{leb_tells}
use Rattle.pci_base.specs.declared.range.Range.{Range}
use Rattle.pci_tree.specs.declared.forwarded.Forwarded.{Forwarded}
use Rattle.pci_tree.specs.Ranges.{Holds, Covers, IsCanonical}
use Rattle.pci_tree.specs.Passing.{Passes, IsPush, IsReach, has_common}
use Rattle.pci_tree.proofs.RangeLists.{covers_at, found_at}

pub covers_push : (rs : List Range) (m : Range) (a : ℕ) → Covers (rs ++ m ∷ []) a ↔ (Covers rs a ⊎ Holds m a)
covers_push rs m a = (
  λ (k, r, within, at, held). elim (Contains-push_cases rs m r (k, within, at)) [
    | inl before ↦ inl (before.0, r, before.1, before.2, held)
    | inr same ↦ inr (subst (λ x. Holds x a) (sym same) held)
  ],
  λ (h : Covers rs a ⊎ Holds m a). elim h [
    | inl before ↦ (let p : Contains (rs ++ m ∷ []) before.1 = Contains-append_left rs (m ∷ []) before.1 (before.0, before.2, before.3) in
        (p.0, before.1, p.1, p.2, before.4))
    | inr held ↦ Any-push (λ r. Holds r a) rs m held
  ],
)

pub canonical_push : (rs : List Range) (m : Range) → IsCanonical rs → m.first ≤ m.last → ((a : ℕ) → Covers rs a → a + 1 < m.first) → IsCanonical (rs ++ m ∷ [])
canonical_push rs m can lawful below = record {
  each = All-push (λ r. r.first ≤ r.last) rs m can.each lawful;
  apart = all_pairs_push (λ r s. r.last + 1 < s.first) rs m can.apart (λ k d within.
      below (get_or rs k d).last (covers_at rs k (get_or rs k d).last d within (can.each k d within, (omega arith))));
}

-- the meet of two ranges, behind ranges below one of them
pub push_meet : (rs out : List Range) (r w m : Range) → IsCanonical rs → ((a : ℕ) → Covers rs a → (a + 1 < r.first) ⊎ (a + 1 < w.first)) → out ≡ rs ++ m ∷ []
    → m.first ≤ m.last → ((a : ℕ) → Holds m a ↔ (Holds r a × Holds w a)) → IsPush rs out (λ a. Holds r a × Holds w a)
push_meet rs out r w m can below e lawful exact =
    let first : Holds r m.first × Holds w m.first = (exact m.first).0 (omega arith, lawful) in
    subst (λ xs. IsPush rs xs (λ a. Holds r a × Holds w a)) (sym e) (record {
      canonical = canonical_push rs m can lawful (λ a h. elim (below a h) [ inl lt ↦ omega arith | inr lt ↦ omega arith ]);
      exact = λ a. (
        λ (h : Covers (rs ++ m ∷ []) a). elim ((covers_push rs m a).0 h) [ inl before ↦ inl before | inr held ↦ inr ((exact a).0 held) ],
        λ (h : Covers rs a ⊎ (Holds r a × Holds w a)). (covers_push rs m a).1 (elim h [ inl before ↦ inl before | inr both ↦ inr ((exact a).1 both) ]),
      );
    })

-- after the first of two pieces the list is still below the second
pub below_second : (rs out : List Range) (r v w : Range) (a : ℕ) → ((b : ℕ) → Covers rs b → b + 1 < r.first) → v.last + 1 < w.first
    → IsPush rs out (λ b. Holds r b × Holds v b) → Covers out a → (a + 1 < r.first) ⊎ (a + 1 < w.first)
below_second rs out r v w a below gap step h = elim ((step.exact a).0 h) [ inl before ↦ inl (below a before) | inr both ↦ inr (omega arith) ]

pub push_two : (rs mid out : List Range) (r v w : Range) → IsPush rs mid (λ a. Holds r a × Holds v a) → IsPush mid out (λ a. Holds r a × Holds w a)
    → IsPush rs out (λ a. Holds r a × (Holds v a ⊎ Holds w a))
push_two rs mid out r v w one two = record {
  canonical = two.canonical;
  exact = λ a. (
    λ (h : Covers out a). elim ((two.exact a).0 h) [
      | inl m ↦ elim ((one.exact a).0 m) [ inl before ↦ inl before | inr both ↦ inr (both.0, inl both.1) ]
      | inr both ↦ inr (both.0, inr both.1)
    ],
    λ (h : Covers rs a ⊎ (Holds r a × (Holds v a ⊎ Holds w a))). elim h [
      | inl before ↦ (two.exact a).1 (inl ((one.exact a).1 (inl before)))
      | inr both ↦ elim both.1 [
        | inl hv ↦ (two.exact a).1 (inl ((one.exact a).1 (inr (both.0, hv))))
        | inr hw ↦ (two.exact a).1 (inr (both.0, hw))
      ]
    ],
  );
}

-- what lies before an index is below the range there
pub below_next : (rs : List Range) (i a : ℕ) (z : Range) → IsCanonical rs → i < length rs → Covers (take i rs) a → a + 1 < (get_or rs i z).first
below_next rs i a z can within (k, r, inside, at, held) =
    let n : length (take i rs) ≡ i = length-take-le i rs (omega arith) in
    let lt : k < i = omega arith in
    let h : Holds (get_or (take i rs) k z) a = found_at (take i rs) a k r z inside at held in
    let e : get_or (take i rs) k z ≡ get_or rs k z = get_or-take i rs k z lt in
    let l : (get_or (take i rs) k z).last ≡ (get_or rs k z).last = ap (λ x. x.last) e in
    let b : (get_or rs k z).last + 1 < (get_or rs i z).first = can.apart k i z lt within in omega arith

-- one more range
pub reach_more : (rs mid out : List Range) (i : ℕ) (z : Range) (forwarded : Forwarded) → i < length rs → IsReach (take i rs) forwarded mid
    → IsPush mid out (λ a. Holds (get_or rs i z) a × Passes forwarded a) → IsReach (take (i + 1) rs) forwarded out
reach_more rs mid out i z forwarded within so step = subst (λ xs. IsReach xs forwarded out) (sym (take_more rs i z within)) (record {
  canonical = step.canonical;
  exact = λ a. (
    λ (h : Covers out a). elim ((step.exact a).0 h) [
      | inl m ↦ (let p : Covers (take i rs) a × Passes forwarded a = (so.exact a).0 m in ((covers_push (take i rs) (get_or rs i z) a).1 (inl p.0), p.1))
      | inr both ↦ ((covers_push (take i rs) (get_or rs i z) a).1 (inr both.0), both.1)
    ],
    λ (h : Covers (take i rs ++ get_or rs i z ∷ []) a × Passes forwarded a). elim ((covers_push (take i rs) (get_or rs i z) a).0 h.0) [
      | inl before ↦ (step.exact a).1 (inl ((so.exact a).1 (before, h.1)))
      | inr held ↦ (step.exact a).1 (inr (held, h.1))
    ],
  );
})

-- there is a meet where two ranges have an address in common
common_some : (r w m : Range) → m.first ≤ m.last → ((a : ℕ) → Holds m a ↔ (Holds r a × Holds w a)) → has_common r w ≡ true
common_some r w m lawful exact =
    let first : Holds r m.first × Holds w m.first = (exact m.first).0 (omega arith, lawful) in
    le-leb (max r.first w.first) (min r.last w.last) (omega (arith, first))

common_none : (r w : Range) → ((a : ℕ) → Holds r a → Holds w a → ⊥) → has_common r w ≡ false
common_none r w apart = elim (leb_tells (max r.first w.first) (min r.last w.last)) [
  | inl meets ↦ absurd (apart (max r.first w.first) (omega (arith, meets.1), omega (arith, meets.1)) (omega (arith, meets.1), omega (arith, meets.1)))
  | inr misses ↦ misses.0
]

pub met : (r w : Range) (m : Option Range) → MatchOption m ((a : ℕ) → Holds r a → Holds w a → ⊥) (λ m. (m.first ≤ m.last) × ((a : ℕ) → Holds m a ↔ (Holds r a × Holds w a)))
    → is_some m ≡ has_common r w
met r w None apart = sym (common_none r w apart)
met r w (Some m) both = sym (common_some r w m both.0 both.1)
