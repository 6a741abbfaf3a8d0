-- What lies in a range between the ranges of a list.
use Rattle.std.proofs.Common.{◌≡◌, ℕ, ◌+◌, ◌<◌, ◌≤◌, List, [], ◌∷◌, ◌++◌, length, get_or, take, refl, sym, ap, subst, inl, inr, ◌⊎◌, arith, ◌∙◌, ◌-◌, max, min}
use Rattle.std.specs.Prelude.{◌↔◌}
use Rattle.std.proofs.lemmas.Bool.{cases_lt}
use Rattle.std.proofs.lemmas.List.{take_more, take_all, get_or_default}
use Rattle.judge_spec.specs.Told.{ToldRange}
use Rattle.pci_base.specs.declared.range.Range.{Range}
use Rattle.pci_tree.specs.Ranges.{Holds, Covers, IsCanonical}
use Rattle.pci_tree.specs.Passing.{IsPush}
use Rattle.pci_tree.proofs.Passing.{covers_push, canonical_push}
use Rattle.pci_tree.proofs.RangeLists.{found_at, last_rises}
use Rattle.pci_claims.specs.Gathered.{IsCommon}
use Rattle.pci_why.specs.Missed.{IsBetween, IsOutsideRange, IsWithout, IsOutsideBefore}

-- a piece between two numbers is pushed
pub between_pushed : (range m : Range) (from end : ℕ) (old new : List Range) → IsCanonical old → ((a : ℕ) → Covers old a → a + 1 < from) → new ≡ old ++ m ∷ []
    → m.first ≤ m.last → ((a : ℕ) → Holds m a ↔ IsBetween range from end a) → IsPush old new (IsBetween range from end)
between_pushed range m from end old new can below e some exact = subst (λ xs. IsPush old xs (IsBetween range from end)) (sym e) record {
  canonical = canonical_push old m can some (λ a has. (
      let low = below a has in
      let at = ((exact m.first).0 (omega arith, some)).1 in
      omega (arith, low, at)));
  exact = λ a. (
    λ h. elim ((covers_push old m a).0 h) [
      | inl before ↦ inl before
      | inr held ↦ inr ((exact a).0 held)
    ],
    λ (h : Covers old a ⊎ IsBetween range from end a). elim h [
      | inl before ↦ (covers_push old m a).1 (inl before)
      | inr between ↦ (covers_push old m a).1 (inr ((exact a).1 between))
    ],
  );
}

-- nothing is between
pub none_pushed : (range : Range) (from end : ℕ) (old : List Range) → IsCanonical old → ((a : ℕ) → IsBetween range from end a → ⊥) → IsPush old old (IsBetween range from end)
none_pushed range from end old can none = record {
  canonical = can;
  exact = λ a. (
    λ h. inl h,
    λ (h : Covers old a ⊎ IsBetween range from end a). elim h [
      | inl before ↦ before
      | inr between ↦ absurd (none a between)
    ],
  );
}

-- before the first range
pub outside_at_first : (range : Range) (ranges out : List Range) → out ≡ [] → IsOutsideBefore range ranges [] 0 0 out
outside_at_first range ranges out e = subst (λ xs. IsOutsideBefore range ranges [] 0 0 xs) (sym e) record {
  canonical = record { each = λ k d within. absurd (let no : ⊥ = omega (arith, within) in no); apart = λ i j d lt within. absurd (let no : ⊥ = omega (arith, within) in no) };
  exact = λ a. (
    λ (h : Covers [] a). absurd (let within = h.2 in let no : ⊥ = omega (arith, within) in no),
    λ (h : Holds range a × (Covers [] a → ⊥) × (a < 0)). absurd (let low = h.2 in let no : ⊥ = omega (arith, low) in no),
  );
  past = λ a h. absurd (let within = h.2 in let no : ⊥ = omega (arith, within) in no);
  below = λ a h. absurd (let within = h.2 in let no : ⊥ = omega (arith, within) in no);
  next = λ d within. omega arith;
}

-- one more range
pub outside_more : (range s : Range) (ranges : List Range) (k from : ℕ) (old new : List Range) → IsCanonical ranges → k < length ranges → s ≡ get_or ranges k s
    → IsOutsideBefore range ranges (take k ranges) k from old → IsPush old new (IsBetween range from s.first)
    → IsOutsideBefore range ranges (take (k + 1) ranges) (k + 1) (s.last + 1) new
outside_more range s ranges k from old new can within is so step =
    let some : s.first ≤ s.last = subst (λ (x : Range). x.first ≤ x.last) (sym is) (can.each k s within) in
    let start : from ≤ s.first = subst (λ (x : Range). from ≤ x.first) (sym is) (so.next s within) in
    let part : take (k + 1) ranges ≡ take k ranges ++ s ∷ [] = take_more ranges k s within ∙ ap (λ x. take k ranges ++ x ∷ []) (sym is) in
    subst (λ xs. IsOutsideBefore range ranges xs (k + 1) (s.last + 1) new) (sym part) record {
      canonical = step.canonical;
      exact = λ a. (
        λ h. elim ((step.exact a).0 h) [
          | inl before ↦ (let was = (so.exact a).0 before in
              let low = was.2 in (
                was.0,
                (λ covered. elim ((covers_push (take k ranges) s a).0 covered) [
                  | inl c ↦ was.1 c
                  | inr held ↦ (let at = held.0 in omega (arith, at, low, start))
                ]),
                omega (arith, low, start, some),
              ))
          | inr between ↦ (let low = between.1 in let high = between.2 in (
            between.0,
            (λ covered. elim ((covers_push (take k ranges) s a).0 covered) [
              | inl c ↦ (let past = so.past a c in omega (arith, past, low))
              | inr held ↦ (let at = held.0 in omega (arith, at, high))
            ]),
            omega (arith, high, some),
          ))
        ],
        λ (h : Holds range a × (Covers (take k ranges ++ s ∷ []) a → ⊥) × (a < s.last + 1)). (
            let high = h.2 in
            elim (cases_lt a from) [
              | inl low ↦ (step.exact a).1 (inl ((so.exact a).1 (h.0, (λ c. h.1 ((covers_push (take k ranges) s a).1 (inl c))), low)))
              | inr past ↦ elim (cases_lt a s.first) [
                | inl low ↦ (step.exact a).1 (inr (h.0, past, low))
                | inr at ↦ absurd (h.1 ((covers_push (take k ranges) s a).1 (inr (at, omega (arith, high)))))
              ]
            ]),
      );
      past = λ a covered. elim ((covers_push (take k ranges) s a).0 covered) [
        | inl c ↦ (let past = so.past a c in omega (arith, past, start, some))
        | inr held ↦ (let at = held.1 in omega (arith, at))
      ];
      below = λ a h. elim ((step.exact a).0 h) [
        | inl before ↦ (let low = so.below a before in omega (arith, low, start, some))
        | inr between ↦ (let high = between.2 in omega (arith, high, some))
      ];
      next = λ d more. (
          let apart = can.apart k (k + 1) d (omega arith) more in
          let e : s.last ≡ (get_or ranges k d).last = ap (λ (x : Range). x.last) (is ∙ get_or_default ranges k s d within) in
          omega (arith, apart, e));
    }

-- behind the last one
pub outside_all : (range : Range) (ranges : List Range) (from end k : ℕ) (old new : List Range) → range.last < end → length ranges ≤ k
    → IsOutsideBefore range ranges (take k ranges) k from old → IsPush old new (IsBetween range from end) → IsOutsideRange range ranges new
outside_all range ranges from end k old new top all so step =
    let part : take k ranges ≡ ranges = take_all k ranges all in
    record {
      canonical = step.canonical;
      exact = λ a. (
        λ h. elim ((step.exact a).0 h) [
          | inl before ↦ (let was = (so.exact a).0 before in (was.0, λ c. was.1 (subst (λ xs. Covers xs a) (sym part) c)))
          | inr between ↦ (let low = between.1 in
              (between.0, λ c. (let past = so.past a (subst (λ xs. Covers xs a) (sym part) c) in omega (arith, past, low))))
        ],
        λ (h : Holds range a × (Covers ranges a → ⊥)). (
            let high = h.0.1 in
            elim (cases_lt a from) [
              | inl low ↦ (step.exact a).1 (inl ((so.exact a).1 (h.0, (λ c. h.1 (subst (λ xs. Covers xs a) part c)), low)))
              | inr past ↦ (step.exact a).1 (inr (h.0, past, omega (arith, high, top)))
            ]),
      );
    }

-- the same with the ends of the range as they were read
pub outside_read : (range z : Range) (ranges : List Range) (k from first last : ℕ) (old new : List Range) → IsCanonical ranges → k < length ranges → first ≡ (get_or ranges k z).first → last ≡ (get_or ranges k z).last
    → IsOutsideBefore range ranges (take k ranges) k from old → IsPush old new (IsBetween range from first)
    → IsOutsideBefore range ranges (take (k + 1) ranges) (k + 1) (last + 1) new
outside_read range z ranges k from first last old new can within is_first is_last so step =
    let s : Range = get_or ranges k z in
    subst (λ n. IsOutsideBefore range ranges (take (k + 1) ranges) (k + 1) (n + 1) new) (sym is_last)
    (outside_more range s ranges k from old new can within (get_or_default ranges k z s within) so (subst (λ n. IsPush old new (IsBetween range from n)) is_first step))

-- the addresses from the greater of two firsts to the lesser of two ends
pub held_between : (range : Range) (from end low high first stop a : ℕ) → low ≡ range.first → high ≡ range.last → first ≡ max from low → stop ≡ min end (high + 1) → first < stop
    → Holds (record { first = first; last = stop - 1 }) a ↔ IsBetween range from end a
held_between range from end low high first stop a is_low is_high is_first is_stop some = (
  λ h. (let at = h.0 in let to = h.1 in
      ((omega (arith, at, is_low, is_first), omega (arith, to, is_high, is_stop, some)), omega (arith, at, is_first), omega (arith, to, is_stop, some))),
  λ (h : IsBetween range from end a). (let at = h.0.0 in let to = h.0.1 in let low_a = h.1 in let high_a = h.2 in
      (omega (arith, at, low_a, is_low, is_first), omega (arith, to, high_a, is_high, is_stop, some))),
)

-- what ranges that rise have lies from the first address to the last
pub bounds_hold : (rs : List Range) (last : ℕ) (z w : Range) (a : ℕ) → IsCanonical rs → last + 1 ≡ length rs → Covers rs a → Holds (record { first = (get_or rs 0 z).first; last = (get_or rs last w).last }) a
bounds_hold rs last z w a can e (k, r, within, at, held) =
    let at_z = found_at rs a k r z within at held in
    let at_w = found_at rs a k r w within at held in
    let top = last_rises rs can k last w (omega (arith, within, e)) (omega (arith, e)) in (
      elim (cases_lt 0 k) [
        | inl less ↦ (let apart = can.apart 0 k z less within in let own = can.each 0 z (omega (arith, less, within)) in let low = at_z.0 in omega (arith, apart, own, low))
        | inr zero_is ↦ (let same : k ≡ 0 = omega (arith, zero_is) in subst (λ n. (get_or rs n z).first ≤ a) same at_z.0)
      ],
      (let high = at_w.1 in omega (arith, top, high)),
    )

pub none_held : (rs : List Range) (a : ℕ) → rs ≡ [] → Covers rs a → ⊥
none_held rs a empty covers = let within = (subst (λ l. Covers l a) empty covers).2 in let no : ⊥ = omega (arith, within) in no

pub one_covers : (m : Range) (a : ℕ) → Covers (m ∷ []) a ↔ Holds m a
one_covers m a = (
  λ (h : Covers (m ∷ []) a). elim ((covers_push [] m a).0 h) [ inl none ↦ absurd (none_held [] a refl none) | inr held ↦ held ],
  λ (h : Holds m a). (covers_push [] m a).1 (inr h),
)

-- the range of a told one alone
pub one_told : (old items : List Range) (first last : ℕ) (r : ToldRange) → old ≡ [] → items ≡ old ++ record { first = first; last = last } ∷ [] → first ≡ r.first → last ≡ r.last → (a : ℕ) → Covers items a ↔ ((r.first ≤ a) × (a ≤ r.last))
one_told old items first last r empty pushed firsts lasts a =
    let m : Range = record { first = first; last = last } in
    subst (λ n. Covers items a ↔ ((n ≤ a) × (a ≤ r.last))) firsts
    (subst (λ n. Covers items a ↔ ((first ≤ a) × (a ≤ n))) lasts (subst (λ xs. Covers xs a ↔ Holds m a) (sym (pushed ∙ ap (λ xs. xs ++ m ∷ []) empty)) (one_covers m a)))

-- what one list has and none of a part between its bounds
pub without_is : (addresses ranges left out : List Range) (whole : Range) → ((a : ℕ) → Covers addresses a → Holds whole a) → IsOutsideRange whole ranges left → IsCommon addresses left out → IsWithout addresses ranges out
without_is addresses ranges left out whole inside outside common = record {
  canonical = common.canonical;
  exact = λ a. (
    λ (h : Covers out a). (let both = (common.exact a).0 h in (both.0, ((outside.exact a).0 both.1).1)),
    λ (h : Covers addresses a × (Covers ranges a → ⊥)). (common.exact a).1 (h.0, (outside.exact a).1 (inside a h.0, h.1)),
  );
}
