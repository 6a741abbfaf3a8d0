-- Told ranges by their indexes.
use Rattle.std.proofs.Common.{◌≡◌, ℕ, zero, suc, ◌+◌, ◌<◌, ◌≤◌, List, [], ◌∷◌, ◌++◌, length, get_or, ltb, sym, ◌∙◌, subst, arith, ap, refl, inl, inr}
use Rattle.std.specs.List.{Contains}
use Rattle.std.specs.List.Sorted.{IsNonDecreasingBy, IsPartitionedBy}
use Rattle.std.proofs.lemmas.Bool.{cases_lt, cases_eq}
use Rattle.std.proofs.lemmas.List.{get_or_append_left, get_or-append-add}
use Rattle.std.proofs.lemmas.List.Sorted.{IsPartitionedBy-ltb}
use Rattle.pci_spec.specs.Slot.{Slot, IsSlot, slot_number}
use Rattle.pci_spec.proofs.Members.{in_nil, in_cons_cases, in_head, in_tail}
use Rattle.judge_spec.specs.Told.{ToldRange, IsTold}
use Rattle.judge_spec.specs.ToldRegion.{ToldRegion, regions_from}
use Rattle.pci_kept.specs.declared.told_line.ToldLine.{ToldLine}

-- a line tells of the range at an index
pub record IsAt (ranges : List ToldRange) (x : ToldRegion) : Type 0 where
  pub k : ℕ
  pub within : k < length ranges
  pub is : get_or ranges k x.told ≡ x.told

pub told_at : (first : ℕ) (ranges : List ToldRange) (x : ToldRegion) → Contains (regions_from first ranges) x → IsAt ranges x
told_at first [] x has = absurd (in_nil x has)
told_at first (t ∷ ranges) x has = elim (in_cons_cases (record { register = first; told = t }) (regions_from (first + 1) ranges) x has) [
  | inl here ↦ record { k = 0; within = omega arith; is = ap (λ (y : ToldRegion). y.told) here }
  | inr later ↦ (let at = told_at (first + 1) ranges x later in let low = at.within in record { k = suc at.k; within = omega (arith, low); is = at.is })
]

-- that of an index
pub record IsToldBy (first : ℕ) (ranges : List ToldRange) (t : ToldRange) : Type 0 where
  pub x : ToldRegion
  pub has : Contains (regions_from first ranges) x
  pub is : x.told ≡ t

pub told_by : (first : ℕ) (ranges : List ToldRange) (k : ℕ) (d : ToldRange) → k < length ranges → IsToldBy first ranges (get_or ranges k d)
told_by first [] k d low = absurd (let no : ⊥ = omega (arith, low) in no)
told_by first (t ∷ ranges) zero d low = record { x = record { register = first; told = t }; has = in_head (record { register = first; told = t }) (regions_from (first + 1) ranges); is = refl }
told_by first (t ∷ ranges) (suc k) d low =
    let by = told_by (first + 1) ranges k d (omega (arith, low)) in
    record { x = by.x; has = in_tail (record { register = first; told = t }) (regions_from (first + 1) ranges) by.x by.has; is = by.is }

-- ---- by buses

lower_bus : (m n : Slot) → IsSlot m → IsSlot n → slot_number m ≤ slot_number n → m.bus ≤ n.bus
lower_bus m n is_m is_n low = elim (cases_lt n.bus m.bus) [
  | inl above ↦ absurd (let no : ⊥ = omega (arith, is_m, is_n, low, above) in no)
  | inr le ↦ le
]

buses_rise : (ranges : List ToldRange) → IsTold ranges → IsNonDecreasingBy (λ r. r.slot.bus) ranges
buses_rise ranges told i j d low within =
    lower_bus (get_or ranges i d).slot (get_or ranges j d).slot (told.each i d (omega (arith, low, within))).line.slot (told.each j d within).line.slot (told.order i j d low within)

pub parted_ranges : (ranges : List ToldRange) (bus : ℕ) → IsTold ranges → IsPartitionedBy (λ r. ltb r.slot.bus bus) ranges
parted_ranges ranges bus told = IsPartitionedBy-ltb (λ (r : ToldRange). r.slot.bus) ranges bus (buses_rise ranges told)

-- ---- one line more

pub lines_more : (P : ToldRange → ToldLine → Type 0) (ranges : List ToldRange) (old : List ToldLine) (k : ℕ) (line : ToldLine) → length old ≡ k
    → ((j : ℕ) (d : ToldLine) (t : ToldRange) → j < k → P (get_or ranges j t) (get_or old j d)) → ((t : ToldRange) → P (get_or ranges k t) line)
    → (new : List ToldLine) → new ≡ old ++ (line ∷ []) → (j : ℕ) (d : ToldLine) (t : ToldRange) → j < k + 1 → P (get_or ranges j t) (get_or new j d)
lines_more P ranges old k line size each is new put j d t low = subst (λ xs. P (get_or ranges j t) (get_or xs j d)) (sym put) (elim (cases_eq j k) [
  | inl same ↦ subst (λ (l : ToldLine). P (get_or ranges j t) l) (sym (ap (λ n. get_or (old ++ (line ∷ [])) n d) (let at : j ≡ length old + 0 = omega (arith, same, size) in at) ∙ get_or-append-add old (line ∷ []) 0 d))
      (subst (λ n. P (get_or ranges n t) line) (sym same) (is t))
  | inr differ ↦ subst (λ (l : ToldLine). P (get_or ranges j t) l) (sym (get_or_append_left old (line ∷ []) d j (omega (arith, low, differ, size)))) (each j d t (omega (arith, low, differ)))
])
