-- The earliest told range that passes a test, found by one look at each in order.
use Rattle.std.proofs.Common.{◌≡◌, inl, inr, ℕ, zero, suc, ◌+◌, ◌-◌, ◌<◌, ◌≤◌, List, [], ◌∷◌, Bool, true, false, cond, length, arith, refl, sym, ◌∙◌, ap, subst, None, Some}
use Rattle.std.specs.List.{find, slice_get}
use Rattle.std.proofs.lemmas.Bool.{cases_lt}
use Rattle.std.proofs.lemmas.Option.{none-some, same_Some, slice_get_within}
use Rattle.judge_spec.specs.Told.{ToldRange}
use Rattle.judge_spec.specs.ToldClaims.{told_register}
use Rattle.judge_spec.specs.ToldRegion.{ToldRegion, regions_from}
use Rattle.settle_spec.specs.Lists.{Request}
use Rattle.settle_spec.specs.Keeping.Writes.{earliest}

abbrev pub told_at : ℕ → ToldRange → ToldRegion
told_at register r = record { register = register; told = r }

module _ (test : ToldRegion → Bool) where
  -- none of so many passes
  abbrev PassesNone : ℕ → List ToldRange → ℕ → Type 0
  PassesNone first ranges n = (k : ℕ) (r : ToldRange) → k < n → slice_get ranges k ≡ Some r → test (told_at (first + k) r) ≡ false

  rest_passes : (first : ℕ) (r : ToldRange) (ranges : List ToldRange) (n : ℕ) → PassesNone first (r ∷ ranges) (suc n) → PassesNone (first + 1) ranges n
  rest_passes first r ranges n none k x less at =
      let same : first + suc k ≡ first + 1 + k = omega arith in
      subst (λ m. test (told_at m x) ≡ false) same (none (suc k) x (omega (arith, less)) at)

  first_passes : (first : ℕ) (r : ToldRange) (ranges : List ToldRange) (n : ℕ) → PassesNone first (r ∷ ranges) (suc n) → test (told_at first r) ≡ false
  first_passes first r ranges n none =
      let same : first + 0 ≡ first = omega arith in
      subst (λ m. test (told_at m r) ≡ false) same (none 0 r (omega arith) refl)

  none_from : (first : ℕ) (ranges : List ToldRange) → ((n : ℕ) → PassesNone first ranges n) → find test (regions_from first ranges) ≡ None
  none_from first [] none = refl
  none_from first (r ∷ ranges) none =
      ap (λ b. cond b (Some (told_at first r)) (find test (regions_from (first + 1) ranges))) (first_passes first r ranges 0 (none 1))
      ∙ none_from (first + 1) ranges (λ n. rest_passes first r ranges n (none (suc n)))

  one_from : (first : ℕ) (ranges : List ToldRange) (n : ℕ) (r : ToldRange) → PassesNone first ranges n → slice_get ranges n ≡ Some r → test (told_at (first + n) r) ≡ true
      → find test (regions_from first ranges) ≡ Some (told_at (first + n) r)
  one_from first [] n r none at is = absurd (none-some r at)
  one_from first (x ∷ ranges) zero r none at is =
      let same : x ≡ r = same_Some x r at in
      let start : first + 0 ≡ first = omega arith in
      let passes : test (told_at first x) ≡ true = subst (λ y. test (told_at first y) ≡ true) (sym same) (subst (λ m. test (told_at m r) ≡ true) start is) in
      ap (λ b. cond b (Some (told_at first x)) (find test (regions_from (first + 1) ranges))) passes
      ∙ ap (λ y. Some (told_at first y)) same ∙ ap (λ m. Some (told_at m r)) (sym start)
  one_from first (x ∷ ranges) (suc n) r none at is =
      let same : first + 1 + n ≡ first + suc n = omega arith in
      ap (λ b. cond b (Some (told_at first x)) (find test (regions_from (first + 1) ranges))) (first_passes first x ranges n none)
      ∙ one_from (first + 1) ranges n r (rest_passes first x ranges n none) at (subst (λ m. test (told_at m r) ≡ true) (sym same) is)
      ∙ ap (λ m. Some (told_at m r)) same

  -- where none is found, none passes
  passes_not : (first : ℕ) (ranges : List ToldRange) → find test (regions_from first ranges) ≡ None → (n : ℕ) (r : ToldRange) → slice_get ranges n ≡ Some r → test (told_at (first + n) r) ≡ false
  passes_not first [] none n r at = absurd (none-some r at)
  passes_not first (x ∷ ranges) none n r at = by (test (told_at first x)) refl (λ later m there. passes_not (first + 1) ranges later m r there) n at
    where
      by : (b : Bool) → test (told_at first x) ≡ b
          → (find test (regions_from (first + 1) ranges) ≡ None → (m : ℕ) → slice_get ranges m ≡ Some r → test (told_at (first + 1 + m) r) ≡ false)
          → (m : ℕ) → slice_get (x ∷ ranges) m ≡ Some r → test (told_at (first + m) r) ≡ false
      by true is rest m here = absurd (none-some (told_at first x) (sym none ∙ ap (λ b. cond b (Some (told_at first x)) (find test (regions_from (first + 1) ranges))) is))
      by false is rest zero here =
          let same : x ≡ r = same_Some x r here in
          let start : first ≡ first + 0 = omega arith in
          subst (λ k. test (told_at k r) ≡ false) start (subst (λ y. test (told_at first y) ≡ false) same is)
      by false is rest (suc m) here =
          let same : first + 1 + m ≡ first + suc m = omega arith in
          subst (λ k. test (told_at k r) ≡ false) same
          (rest (sym (ap (λ b. cond b (Some (told_at first x)) (find test (regions_from (first + 1) ranges))) is) ∙ none) m here)

  -- one that is found has no lower register than the first
  found_low : (first : ℕ) (ranges : List ToldRange) (x : ToldRegion) → find test (regions_from first ranges) ≡ Some x → first ≤ x.register
  found_low first [] x e = absurd (none-some x e)
  found_low first (r ∷ ranges) x e = by (test (told_at first r)) refl (found_low (first + 1) ranges x)
    where
      by : (b : Bool) → test (told_at first r) ≡ b → (find test (regions_from (first + 1) ranges) ≡ Some x → first + 1 ≤ x.register) → first ≤ x.register
      by true is rest =
          let same : told_at first r ≡ x = same_Some (told_at first r) x (sym (ap (λ b. cond b (Some (told_at first r)) (find test (regions_from (first + 1) ranges))) is) ∙ e) in
          subst (λ y. first ≤ y.register) same (omega arith)
      by false is rest =
          let low = rest (sym (ap (λ b. cond b (Some (told_at first r)) (find test (regions_from (first + 1) ranges))) is) ∙ e) in
          omega (arith, low)

-- the first ranges of what is told don't pass
module _ (q : Request) (test : ToldRegion → Bool) where
  abbrev pub HasNoneTo : ℕ → Type 0
  HasNoneTo n = (k : ℕ) (r : ToldRange) → k < n → slice_get q.told.ranges k ≡ Some r → test (told_at (told_register k) r) ≡ false

  pub none_yet : HasNoneTo 0
  none_yet k r less at = absurd (let no : ⊥ = omega (arith, less) in no)

  pub none_next : (n : ℕ) → HasNoneTo n → ((r : ToldRange) → slice_get q.told.ranges n ≡ Some r → test (told_at (told_register n) r) ≡ false) → HasNoneTo (n + 1)
  none_next n none here k r less at = elim (cases_lt k n) [
    | inl earlier ↦ none k r earlier at
    | inr past ↦
        let same : n ≡ k = omega (arith, less, past) in
        subst (λ m. test (told_at (told_register m) r) ≡ false) same (here r (subst (λ m. slice_get q.told.ranges m ≡ Some r) (sym same) at))
  ]

  -- where all are passed
  pub none_past : (n : ℕ) → HasNoneTo n → length q.told.ranges ≤ n → (m : ℕ) → HasNoneTo m
  none_past n none past m k r less at =
      let within = slice_get_within q.told.ranges k r at in
      none k r (omega (arith, within, past)) at

  pub none_at_all : ((n : ℕ) → HasNoneTo n) → earliest q test ≡ None
  none_at_all none = none_from test (told_register 0) q.told.ranges none

  pub one_there : (n : ℕ) (r : ToldRange) → HasNoneTo n → slice_get q.told.ranges n ≡ Some r → test (told_at (told_register n) r) ≡ true → earliest q test ≡ Some (told_at (told_register n) r)
  one_there n r none at is = one_from test (told_register 0) q.told.ranges n r none at is

  -- its line tells its register
  pub register_back : (x : ToldRegion) → earliest q test ≡ Some x → 255 + (x.register - 255) ≡ x.register
  register_back x e = let low = found_low test (told_register 0) q.told.ranges x e in omega (arith, low)

  -- where none is found, none passes
  pub none_passes : earliest q test ≡ None → (n : ℕ) (r : ToldRange) → slice_get q.told.ranges n ≡ Some r → test (told_at (told_register n) r) ≡ false
  none_passes none = passes_not test (told_register 0) q.told.ranges none
