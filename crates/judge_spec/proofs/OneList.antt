-- Lists that what is in them determines, and runs of addresses among them.
use Rattle.std.proofs.Common.{◌≡◌, ℕ, ◌+◌, ◌-◌, ◌<◌, ◌≤◌, List, [], ◌∷◌, refl, sym, ◌∙◌, ap, subst, inl, inr, arith}
use Rattle.std.specs.List.{Contains, AllPairs}
use Rattle.std.proofs.lemmas.Bool.{cases_order}
use Rattle.std.proofs.lemmas.List.Elements.{All-contains}
use Rattle.pci_spec.specs.Decoded.{Range, InRange}
use Rattle.pci_spec.specs.Why.{IsRun, AreRuns}
use Rattle.pci_spec.proofs.Members.{in_nil, in_cons_cases, in_head, in_tail, pairs_head, pairs_tail}

abbrev pub IsOneWay : {X : Type 0} → (X → X → Type 0) → Type 0
IsOneWay {X} R = (x y : X) → R x y → R y x → ⊥

-- two lists in one order that have the same in them are one
pub same_list : {X : Type 0} (R : X → X → Type 0) → IsOneWay R → (xs ys : List X) → AllPairs R xs → AllPairs R ys
    → ((x : X) → Contains xs x → Contains ys x) → ((x : X) → Contains ys x → Contains xs x) → xs ≡ ys
same_list R one [] [] risex risey to from = refl
same_list R one [] (y ∷ ys) risex risey to from = absurd (in_nil y (from y (in_head y ys)))
same_list R one (x ∷ xs) [] risex risey to from = absurd (in_nil x (to x (in_head x xs)))
same_list {X} R one (x ∷ xs) (y ∷ ys) risex risey to from =
    let e : x ≡ y = elim (in_cons_cases y ys x (to x (in_head x xs))) [
      | inl here ↦ sym here
      | inr later ↦ elim (in_cons_cases x xs y (from y (in_head y ys))) [
        | inl here ↦ here
        | inr deeper ↦ absurd (one x y (pairs_head R x xs y risex deeper) (pairs_head R y ys x risey later))
      ]
    ] in
    let rest : xs ≡ ys = same_list R one xs ys (pairs_tail R x xs risex) (pairs_tail R y ys risey)
    (λ z has. (let up : R x z = pairs_head R x xs z risex has in
    elim (in_cons_cases y ys z (to z (in_tail x xs z has))) [
      | inl here ↦ absurd (let same : R x x = subst (λ (w : X). R x w) (sym (e ∙ here)) up in one x x same same)
      | inr later ↦ later
    ]))
    (λ z has. (let up : R y z = pairs_head R y ys z risey has in
    elim (in_cons_cases x xs z (from z (in_tail y ys z has))) [
      | inl here ↦ absurd (let same : R y y = subst (λ (w : X). R y w) (sym (sym e ∙ here)) up in one y y same same)
      | inr later ↦ later
    ])) in
    ap (λ (z : X). z ∷ xs) e ∙ ap (λ (zs : List X). y ∷ zs) rest

-- ---- ranges

pub range_from : (r t : Range) → r.first ≡ t.first → r.last ≡ t.last → r ≡ t
range_from r t first last = λ i. record { first = first i; last = last i }

-- two ranges with the same addresses, of which there are some, are one
pub same_range : (r t : Range) → r.first ≤ r.last → t.first ≤ t.last → ((a : ℕ) → InRange r a → InRange t a) → ((a : ℕ) → InRange t a → InRange r a) → r ≡ t
same_range r t some_r some_t to from =
    let low = to r.first (omega arith, some_r) in
    let high = to r.last (some_r, omega arith) in
    let down = from t.first (omega arith, some_t) in
    let up = from t.last (some_t, omega arith) in
    range_from r t (let e : r.first ≡ t.first = omega (arith, low.0, down.0) in e) (let e : r.last ≡ t.last = omega (arith, high.1, up.1) in e)

-- ---- runs

module _ (P : ℕ → Type 0) where
  -- a run that has the first address of another one is that one
  same_run : (r t : Range) → IsRun P r → IsRun P t → InRange t r.first → t ≡ r
  same_run r t run other within =
      let some = run.some in
      let first : t.first ≡ r.first = elim (cases_order t.first r.first) [
        | inl same ↦ same
        | inr (inl less) ↦ absurd (run.before (r.first - 1) (omega (arith, less)) (other.each (r.first - 1) (omega (arith, less), omega (arith, less, within.1))))
        | inr (inr more) ↦ absurd (let no : ⊥ = omega (arith, more, within.0) in no)
      ] in
      let last : t.last ≡ r.last = elim (cases_order t.last r.last) [
        | inl same ↦ same
        | inr (inl less) ↦ absurd (other.behind (run.each (t.last + 1) (omega (arith, within.1), omega (arith, less))))
        | inr (inr more) ↦ absurd (run.behind (other.each (r.last + 1) (omega (arith, within.0, some), omega (arith, more))))
      ] in
      range_from t r first last

  -- each run is in each list of all
  in_other : (rs ts : List Range) → AreRuns P rs → AreRuns P ts → (r : Range) → Contains rs r → Contains ts r
  in_other rs ts runs others r has =
      let run : IsRun P r = All-contains (IsRun P) rs r runs.each has in
      let some = run.some in
      let found = others.complete r.first (run.each r.first (omega arith, some)) in
      let at : Contains ts found.1 = (found.0, found.2, found.3) in
      subst (λ (x : Range). Contains ts x) (same_run r found.1 run (All-contains (IsRun P) ts found.1 others.each at) found.4) at

  rises_one_way : (rs : List Range) → AreRuns P rs → AllPairs (λ r t. (r.first ≤ r.last) × (t.first ≤ t.last) × (r.last < t.first)) rs
  rises_one_way rs runs i j d less within =
      ((runs.each i d (omega (arith, less, within))).some, (runs.each j d within).some, runs.rising i j d less within)

  -- and so the runs of which something holds are one list
  pub same_runs : (rs ts : List Range) → AreRuns P rs → AreRuns P ts → rs ≡ ts
  same_runs rs ts runs others =
      same_list (λ (r t : Range). (r.first ≤ r.last) × (t.first ≤ t.last) × (r.last < t.first))
      (λ r t up down. omega (arith, up.0, up.1, up.2, down.2))
      rs ts (rises_one_way rs runs) (rises_one_way ts others) (in_other rs ts runs others) (in_other ts rs others runs)
