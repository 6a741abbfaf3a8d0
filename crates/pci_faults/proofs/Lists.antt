-- Lists of just those faults of a kind, put together.
use Rattle.std.proofs.Common.{◌≡◌, ◌⊎◌, ℕ, suc, ◌+◌, ◌<◌, ◌≤◌, List, [], ◌∷◌, ◌++◌, length, get_or, map, take, Option, None, Some, refl, inl, inr, arith, sym, ◌∙◌, ap, subst}
use Rattle.std.specs.List.{Contains}
use Rattle.std.proofs.lemmas.Bool.{cases_lt}
use Rattle.std.proofs.lemmas.List.{take_more, append_assoc, append-nil, map_push}
use Rattle.std.proofs.lemmas.List.Elements.{Contains-get_or, Contains-append_left, Contains-append_right, Contains-append_cases}
use Rattle.pci_spec.specs.Fault as faults
use Rattle.pci_spec.proofs.Members.{in_nil, in_cons_cases, in_head, in_tail, pairs_nil, pairs_cons, pairs_append}
use Rattle.pci_function.specs.declared.fault.Fault.{Fault}
use Rattle.pci_function.specs.Fault.{fault_of}
use Rattle.pci_faults.specs.Lists.{AreJust, present_faults}

module _ (Before : faults.Fault → faults.Fault → Type 0) where
  -- where there is none, the list is empty
  pub just_none : (Is : faults.Fault → Type 0) → ((e : faults.Fault) → Is e → ⊥) → AreJust Before Is []
  just_none Is none = record {
    each = λ e has. absurd (in_nil e has);
    complete = λ e is. absurd (none e is);
    rising = pairs_nil Before;
  }

  -- one after another
  pub just_append : (Is First Second : faults.Fault → Type 0) (xs ys : List faults.Fault) → AreJust Before First xs → AreJust Before Second ys
      → ((e : faults.Fault) → First e → Is e) → ((e : faults.Fault) → Second e → Is e) → ((e : faults.Fault) → Is e → First e ⊎ Second e)
      → ((a b : faults.Fault) → First a → Second b → Before a b) → AreJust Before Is (xs ++ ys)
  just_append Is First Second xs ys first second from_first from_second either across = record {
    each = λ e has. elim (Contains-append_cases xs ys e has) [
      | inl left ↦ from_first e (first.each e left)
      | inr right ↦ from_second e (second.each e right)
    ];
    complete = λ e is. elim (either e is) [
      | inl left ↦ Contains-append_left xs ys e (first.complete e left)
      | inr right ↦ Contains-append_right xs ys e (second.complete e right)
    ];
    rising = pairs_append Before xs ys first.rising second.rising (λ a b left right. across a b (first.each a left) (second.each b right));
  }

  -- the same faults, in an order that says so much of them
  pub just_same : (After : faults.Fault → faults.Fault → Type 0) (Is Also : faults.Fault → Type 0) (xs : List faults.Fault) → AreJust After Is xs
      → ((e : faults.Fault) → Is e → Also e) → ((e : faults.Fault) → Also e → Is e)
      → ((a b : faults.Fault) → Is a → Is b → After a b → Before a b) → AreJust Before Also xs
  just_same After Is Also xs just to from order = record {
    each = λ e has. to e (just.each e has);
    complete = λ e is. just.complete e (from e is);
    rising = λ i j d less within.
        order (get_or xs i d) (get_or xs j d) (just.each (get_or xs i d) (Contains-get_or xs i d (omega (arith, less, within)))) (just.each (get_or xs j d) (Contains-get_or xs j d within)) (just.rising i j d less within);
  }

-- ---- faults by their place

-- the fault is the only one of its kind; where it isn't there, there is none
abbrev pub IsOnly : (faults.Fault → Type 0) → Option Fault → Type 0
IsOnly Is None = (e : faults.Fault) → Is e → ⊥
IsOnly Is (Some fault) = Is (fault_of fault) × ((e : faults.Fault) → Is e → e ≡ fault_of fault)

module _ (Before : faults.Fault → faults.Fault → Type 0) (Is : faults.Fault → Type 0) (place : faults.Fault → ℕ)
    (rise : (a b : faults.Fault) → Is a → Is b → place a < place b → Before a b) where
  -- from a place on, and before another
  abbrev IsFrom : ℕ → ℕ → faults.Fault → Type 0
  IsFrom low high e = Is e × (low ≤ place e) × (place e < high)

  abbrev pub IsAtPlace : ℕ → faults.Fault → Type 0
  IsAtPlace k e = Is e × (place e ≡ k)

  told_from : (k : ℕ) (os : List (Option Fault)) → ((j : ℕ) → j < length os → IsOnly (IsAtPlace (k + j)) (get_or os j None))
      → AreJust Before (IsFrom k (k + length os)) (present_faults os)
  told_from k [] only = just_none Before (IsFrom k (k + 0)) (λ e is. (let low = is.1 in let high = is.2 in let no : ⊥ = omega (arith, low, high) in no))
  told_from k (None ∷ os) only =
      let here : (e : faults.Fault) → IsAtPlace k e → ⊥ = subst (λ n. (e : faults.Fault) → IsAtPlace n e → ⊥) (let z : k + 0 ≡ k = omega arith in z) (only 0 (omega arith)) in
      let rest = told_from (k + 1) os (λ j less. subst (λ n. IsOnly (IsAtPlace n) (get_or os j None)) (let z : k + suc j ≡ k + 1 + j = omega arith in z) (only (suc j) (omega (arith, less)))) in
      just_same Before Before (IsFrom (k + 1) (k + 1 + length os)) (IsFrom k (k + suc (length os))) (present_faults os) rest
      (λ e is. (let low = is.1 in let high = is.2 in (is.0, omega (arith, low), omega (arith, high))))
      (λ e is. elim (cases_lt k (place e)) [
        | inl later ↦ (let high = is.2 in (is.0, omega (arith, later), omega (arith, high)))
        | inr not_later ↦ absurd (here e (is.0, (let low = is.1 in let z : place e ≡ k = omega (arith, low, not_later) in z)))
      ])
      (λ a b is_a is_b before. before)
  told_from k (Some x ∷ os) only =
      let here : IsOnly (IsAtPlace k) (Some x) = subst (λ n. IsOnly (IsAtPlace n) (Some x)) (let z : k + 0 ≡ k = omega arith in z) (only 0 (omega arith)) in
      let rest = told_from (k + 1) os (λ j less. subst (λ n. IsOnly (IsAtPlace n) (get_or os j None)) (let z : k + suc j ≡ k + 1 + j = omega arith in z) (only (suc j) (omega (arith, less)))) in
      record {
        each = λ e has. elim (in_cons_cases (fault_of x) (present_faults os) e has) [
          | inl same ↦ subst (IsFrom k (k + suc (length os))) same (let at = here.0.1 in (here.0.0, omega (arith, at), omega (arith, at)))
          | inr later ↦ (let is = rest.each e later in let low = is.1 in let high = is.2 in (is.0, omega (arith, low), omega (arith, high)))
        ];
        complete = λ e is. elim (cases_lt k (place e)) [
          | inl later ↦ in_tail (fault_of x) (present_faults os) e (rest.complete e (let high = is.2 in (is.0, omega (arith, later), omega (arith, high))))
          | inr not_later ↦
              subst (λ y. Contains (fault_of x ∷ present_faults os) y) (sym (here.1 e (is.0, (let low = is.1 in let z : place e ≡ k = omega (arith, low, not_later) in z))))
              (in_head (fault_of x) (present_faults os))
        ];
        rising = pairs_cons Before (fault_of x) (present_faults os)
            (λ e has. (let is = rest.each e has in let low = is.1 in let at = here.0.1 in rise (fault_of x) e here.0.0 is.0 (omega (arith, low, at))))
            rest.rising;
      }

  -- a list with one fault for each place, where each has a place in it
  pub told_by_place : (os : List (Option Fault)) → ((e : faults.Fault) → Is e → place e < length os)
      → ((j : ℕ) → j < length os → IsOnly (IsAtPlace j) (get_or os j None)) → AreJust Before Is (present_faults os)
  told_by_place os within only =
      just_same Before Before (IsFrom 0 (0 + length os)) Is (present_faults os)
      (told_from 0 os (λ j less. subst (λ n. IsOnly (IsAtPlace n) (get_or os j None)) (let z : j ≡ 0 + j = omega arith in z) (only j less)))
      (λ e is. is.0) (λ e is. (is, omega arith, (let less = within e is in omega (arith, less)))) (λ a b is_a is_b before. before)

-- ---- faults that are told one by one

told_append : (xs ys : List (Option Fault)) → present_faults (xs ++ ys) ≡ present_faults xs ++ present_faults ys
told_append [] ys = refl
told_append (None ∷ xs) ys = told_append xs ys
told_append (Some x ∷ xs) ys = ap (λ rest. fault_of x ∷ rest) (told_append xs ys)

-- one more of them
pub told_more : (xs : List (Option Fault)) (i : ℕ) (o : Option Fault) → i < length xs → o ≡ get_or xs i o → present_faults (take (i + 1) xs) ≡ present_faults (take i xs) ++ present_faults (o ∷ [])
told_more xs i o within at =
    ap present_faults (take_more xs i o within) ∙ told_append (take i xs) (get_or xs i o ∷ []) ∙ ap (λ x. present_faults (take i xs) ++ present_faults (x ∷ [])) (sym at)

pub told_push : (old : List faults.Fault) (items : List Fault) (xs : List (Option Fault)) (i : ℕ) (x : Fault) → i < length xs → Some x ≡ get_or xs i (Some x)
    → map fault_of items ≡ old ++ present_faults (take i xs) → map fault_of (items ++ x ∷ []) ≡ old ++ present_faults (take (i + 1) xs)
told_push old items xs i x within at e =
    map_push fault_of items x ∙ ap (λ ys. ys ++ fault_of x ∷ []) e ∙ append_assoc old (present_faults (take i xs)) (fault_of x ∷ [])
    ∙ ap (λ ys. old ++ ys) (sym (told_more xs i (Some x) within at))

pub told_skip : (old : List faults.Fault) (xs : List (Option Fault)) (i : ℕ) → i < length xs → None ≡ get_or xs i None → old ++ present_faults (take i xs) ≡ old ++ present_faults (take (i + 1) xs)
told_skip old xs i within at = ap (λ ys. old ++ ys) (sym (told_more xs i None within at ∙ append-nil (present_faults (take i xs))))
