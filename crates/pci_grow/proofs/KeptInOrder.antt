-- Ranges are kept one after another, each that ends behind all before it.
use Rattle.std.proofs.Common.{◌≡◌, ℕ, ◌+◌, ◌<◌, ◌≤◌, inl, inr, List, [], ◌∷◌, ◌++◌, length, get_or, Bool, true, false, arith, refl, ap, sym, subst, ◌∙◌, Option, None, Some}
use Rattle.std.specs.List.{Contains}
use Rattle.std.specs.List.Sorted.{IsPermutation}
use Rattle.std.proofs.lemmas.Bool.{cases_eq, ltb-true, ltb-false, true≢false}
use Rattle.std.proofs.lemmas.List.{get_or_default, get_or_push, get_or_append_left, length_push}
use Rattle.std.proofs.lemmas.List.Elements.{Contains-append_cases, Contains-append_left, Contains-append_right, Contains-get_or}
use Rattle.std.proofs.lemmas.List.Sorted.{IsPermutation-sym, Contains-permutation}
use Rattle.pci_spec.proofs.Members.{in_nil, in_head, in_cons_cases}
use Rattle.pci_base.specs.declared.range.Range.{Range}
use Rattle.pci_first_fit.specs.Lines.{AreForwardRanges}
use Rattle.pci_first_fit.specs.Spots.{FirstsRise}
use Rattle.pci_grow.specs.Arounds.{AreRisingAtBothEnds}
use Rattle.pci_grow.specs.Widest.{is_beyond, KeptBy, LiesInOne}

-- where what is kept ends
abbrev pub EndsAt : List Range → Option ℕ → Type 0
EndsAt kept None = kept ≡ []
EndsAt kept (Some e) = ((r : Range) → Contains kept r → r.last ≤ e) × ((r : Range) × Contains kept r × (r.last ≡ e))

pub item_is : (xs : List Range) (n : ℕ) (r : Range) → n < length xs → r ≡ get_or xs n r → (d : Range) → get_or xs n d ≡ r
item_is xs n r within is d = get_or_default xs n d r within ∙ sym is

-- one of the first so many
pub record IsOfFirst (xs : List Range) (n : ℕ) (r : Range) : Type 0 where
  pub at : ℕ
  pub low : at < n
  pub within : at < length xs
  pub is : (d : Range) → get_or xs at d ≡ r

pub record AreKeptOf (xs : List Range) (n : ℕ) (kept : List Range) (end : Option ℕ) : Type 0 where
  pub order : AreRisingAtBothEnds kept
  pub only : (r : Range) → Contains kept r → IsOfFirst xs n r
  pub all : (k : ℕ) (d : Range) → k < n → k < length xs → LiesInOne kept (get_or xs k d)
  pub ends : EndsAt kept end

pub kept_none : (xs : List Range) → AreKeptOf xs 0 [] None
kept_none xs = record {
  order = record {
    rising = record {
      order = λ j k d less within. absurd (let no : ⊥ = omega (arith, within) in no);
      forward = λ k d within. absurd (let no : ⊥ = omega (arith, within) in no);
    };
    lasts = λ j k d less within. absurd (let no : ⊥ = omega (arith, within) in no);
  };
  only = λ r has. absurd (in_nil r has);
  all = λ k d low. absurd (let no : ⊥ = omega (arith, low) in no);
  ends = refl;
}

module _ (xs : List Range) (rise : FirstsRise xs) (forwards : AreForwardRanges xs) (n : ℕ) (within : n < length xs) (r : Range) (r_is : (d : Range) → get_or xs n d ≡ r) (kept : List Range) (end : Option ℕ) (are : AreKeptOf xs n kept end) where
  -- what is kept begins no later
  begins : (u : Range) → Contains kept u → u.first ≤ r.first
  begins u has =
      let of = are.only u has in
      let low = rise of.at n r of.low within in
      let a : (get_or xs of.at r).first ≡ u.first = ap (λ (x : Range). x.first) (of.is r) in
      let b : (get_or xs n r).first ≡ r.first = ap (λ (x : Range). x.first) (r_is r) in
      omega (arith, low, a, b)

  wider : (u : Range) → Contains kept u → IsOfFirst xs (n + 1) u
  wider u has = let of = are.only u has in record { at = of.at; low = (let low = of.low in omega (arith, low)); within = of.within; is = of.is }

  -- ---- it is kept

  forward : r.first ≤ r.last
  forward = subst (λ (x : Range). x.first ≤ x.last) (r_is r) (forwards n r within)

  module _ (past : (u : Range) → Contains kept u → u.last ≤ r.last) where
    abbrev new : List Range
    new = kept ++ r ∷ []

    long : length new ≡ length kept + 1
    long = length_push kept r

    old_at : (j : ℕ) (d : Range) → j < length kept → get_or new j d ≡ get_or kept j d
    old_at j d low = get_or_append_left kept (r ∷ []) d j low

    new_at : (d : Range) → get_or new (length kept) d ≡ r
    new_at d = get_or_push kept r d (length kept) refl

    pub kept_one : AreKeptOf xs (n + 1) new (Some r.last)
    kept_one = record {
      order = record {
        rising = record {
          order = λ j k d less inside. elim (cases_eq k (length kept)) [
            | inl here ↦
                let j_low : j < length kept = omega (arith, less, here) in
                let up = begins (get_or kept j d) (Contains-get_or kept j d j_low) in
                let a : (get_or new j d).first ≡ (get_or kept j d).first = ap (λ (x : Range). x.first) (old_at j d j_low) in
                let b : (get_or new k d).first ≡ r.first = ap (λ (x : Range). x.first) (ap (λ m. get_or new m d) here ∙ new_at d) in
                omega (arith, up, a, b)
            | inr differ ↦
                let k_low : k < length kept = (let l = long in omega (arith, inside, l, differ)) in
                let up = are.order.rising.order j k d less k_low in
                let a : (get_or new j d).first ≡ (get_or kept j d).first = ap (λ (x : Range). x.first) (old_at j d (omega (arith, less, k_low))) in
                let b : (get_or new k d).first ≡ (get_or kept k d).first = ap (λ (x : Range). x.first) (old_at k d k_low) in
                omega (arith, up, a, b)
          ];
          forward = λ k d inside. elim (cases_eq k (length kept)) [
            | inl here ↦ subst (λ (x : Range). x.first ≤ x.last) (sym (ap (λ m. get_or new m d) here ∙ new_at d)) forward
            | inr differ ↦
                let k_low : k < length kept = (let l = long in omega (arith, inside, l, differ)) in
                subst (λ (x : Range). x.first ≤ x.last) (sym (old_at k d k_low)) (are.order.rising.forward k d k_low)
          ];
        };
        lasts = λ j k d less inside. elim (cases_eq k (length kept)) [
          | inl here ↦
              let j_low : j < length kept = omega (arith, less, here) in
              let up = past (get_or kept j d) (Contains-get_or kept j d j_low) in
              let a : (get_or new j d).last ≡ (get_or kept j d).last = ap (λ (x : Range). x.last) (old_at j d j_low) in
              let b : (get_or new k d).last ≡ r.last = ap (λ (x : Range). x.last) (ap (λ m. get_or new m d) here ∙ new_at d) in
              omega (arith, up, a, b)
          | inr differ ↦
              let k_low : k < length kept = (let l = long in omega (arith, inside, l, differ)) in
              let up = are.order.lasts j k d less k_low in
              let a : (get_or new j d).last ≡ (get_or kept j d).last = ap (λ (x : Range). x.last) (old_at j d (omega (arith, less, k_low))) in
              let b : (get_or new k d).last ≡ (get_or kept k d).last = ap (λ (x : Range). x.last) (old_at k d k_low) in
              omega (arith, up, a, b)
        ];
      };
      only = λ u has. elim (Contains-append_cases kept (r ∷ []) u has) [
        | inl old ↦ wider u old
        | inr last ↦ record { at = n; low = omega arith; within = within; is = λ d. r_is d ∙ is_r u last }
      ];
      all = λ k d low inside. elim (cases_eq k n) [
        | inl here ↦
            let same : get_or xs k d ≡ r = ap (λ m. get_or xs m d) here ∙ r_is d in
            subst (LiesInOne new) (sym same) record { around = r; listed = Contains-append_right kept (r ∷ []) r (in_head r []); first = omega arith; last = omega arith }
        | inr differ ↦
            let in_old = are.all k d (omega (arith, low, differ)) inside in
            record { around = in_old.around; listed = Contains-append_left kept (r ∷ []) in_old.around in_old.listed; first = in_old.first; last = in_old.last }
      ];
      ends = (
        λ u has. elim (Contains-append_cases kept (r ∷ []) u has) [
          | inl old ↦ past u old
          | inr last ↦ (let same : r.last ≡ u.last = ap (λ (x : Range). x.last) (is_r u last) in omega (arith, same))
        ],
        (r, Contains-append_right kept (r ∷ []) r (in_head r []), refl),
      );
    }
      where
        is_r : (u : Range) → Contains (r ∷ []) u → r ≡ u
        is_r u has = elim (in_cons_cases r [] u has) [ inl here ↦ here | inr further ↦ absurd (in_nil u further) ]

  -- ---- it lies in one of those

  left_out : LiesInOne kept r → AreKeptOf xs (n + 1) kept end
  left_out lies = record {
    order = are.order;
    only = wider;
    all = λ k d low inside. elim (cases_eq k n) [
      | inl here ↦
          let same : get_or xs k d ≡ r = ap (λ m. get_or xs m d) here ∙ r_is d in
          subst (LiesInOne kept) (sym same) lies
      | inr differ ↦ are.all k d (omega (arith, low, differ)) inside
    ];
    ends = are.ends;
  }

  by_end : (o : Option ℕ) → EndsAt kept o → (b : Bool) → is_beyond o r ≡ b → (next : Option ℕ) (new : List Range) → KeptBy b end r kept next new → AreKeptOf xs (n + 1) new next
  by_end None ends true is next new (next_is, new_is) =
      subst (λ ys. AreKeptOf xs (n + 1) ys next) (sym new_is) (subst (AreKeptOf xs (n + 1) (kept ++ r ∷ [])) (sym next_is)
      (kept_one (λ u has. absurd (in_nil u (subst (λ ys. Contains ys u) ends has)))))
  by_end None ends false off next new by = absurd (true≢false off)
  by_end (Some e) ends true is next new (next_is, new_is) =
      let past = ltb-true e r.last is in
      subst (λ ys. AreKeptOf xs (n + 1) ys next) (sym new_is) (subst (AreKeptOf xs (n + 1) (kept ++ r ∷ [])) (sym next_is)
      (kept_one (λ u has. let up = ends.0 u has in omega (arith, up, past))))
  by_end (Some e) ends false off next new (next_is, new_is) =
      let last = ends.1 in
      let u = last.0 in
      let short = ltb-false e r.last off in
      subst (λ ys. AreKeptOf xs (n + 1) ys next) (sym new_is) (subst (AreKeptOf xs (n + 1) kept) (sym next_is)
      (left_out record {
        around = u;
        listed = last.1;
        first = begins u last.1;
        last = (let same = last.2 in omega (arith, short, same));
      }))

  pub kept_next : (next : Option ℕ) (new : List Range) → KeptBy (is_beyond end r) end r kept next new → AreKeptOf xs (n + 1) new next
  kept_next next new by = by_end end are.ends (is_beyond end r) refl next new by

-- ---- in the end

module _ (ranges xs : List Range) (moved : IsPermutation ranges xs) (n : ℕ) (past : length xs ≤ n) (kept : List Range) (end : Option ℕ) (are : AreKeptOf xs n kept end) where
  pub only_those : (r : Range) → Contains kept r → Contains ranges r
  only_those r has =
      let of = are.only r has in
      Contains-permutation xs ranges r (IsPermutation-sym ranges xs moved) (of.at, of.within, of.is r)

  pub all_those : (r : Range) → Contains ranges r → LiesInOne kept r
  all_those r has =
      let at = Contains-permutation ranges xs r moved has in
      let inside = at.1 in
      subst (LiesInOne kept) at.2 (are.all at.0 r (omega (arith, inside, past)) inside)

pub sorted_forward : (ranges xs : List Range) → IsPermutation ranges xs → AreForwardRanges ranges → AreForwardRanges xs
sorted_forward ranges xs moved forward k d less =
    let at = Contains-permutation xs ranges (get_or xs k d) (IsPermutation-sym ranges xs moved) (Contains-get_or xs k d less) in
    subst (λ (x : Range). x.first ≤ x.last) at.2 (forward at.0 (get_or xs k d) at.1)
