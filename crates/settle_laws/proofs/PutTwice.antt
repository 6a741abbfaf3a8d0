-- What is put into a window's registers is put there whatever they showed.
use Rattle.std.proofs.Common.{◌≡◌, ℕ, zero, suc, ◌+◌, ◌/◌, ◌%◌, ◌<◌, ◌≤◌, inl, inr, List, arith, sym, ◌∙◌, ap, length, set}
use Rattle.std.proofs.lemmas.Bool.{cases_eq, cases_lt}
use Rattle.std.proofs.lemmas.List.{ext_get_or, length-set, get_or-set_same, get_or-set_other, get_or_past}
use Rattle.pci_spec.specs.Number.{byte_at}
use Rattle.pci_spec.specs.Window.{WindowKind, IoWindow, MemoryWindow, PrefetchWindow, Bounds}
use Rattle.judge_spec.specs.Windows.{with_number, with_bounds}
use Rattle.settle_laws.proofs.WindowBytes.{IsOf}

-- images differ at some bytes alone
record AgreeOff (some : ℕ → Type 0) (a b : List ℕ) : Type 0 where
  size : length a ≡ length b
  bytes : (place : ℕ) → (some place → ⊥) → byte_at a place ≡ byte_at b place

set_agrees : (some : ℕ → Type 0) (o x : ℕ) (a b : List ℕ) → AgreeOff some a b → AgreeOff (λ p. some p × (p ≡ o → ⊥)) (set a o x) (set b o x)
set_agrees some o x a b agree = record {
  size = length-set a o x ∙ agree.size ∙ sym (length-set b o x);
  bytes = λ place out. elim (cases_eq place o) [
    | inr other ↦ get_or-set_other a o place x 0 other ∙ agree.bytes place (λ here. out (here, other)) ∙ sym (get_or-set_other b o place x 0 other)
    | inl here ↦ ap (byte_at (set a o x)) here ∙ at_it ∙ sym (ap (byte_at (set b o x)) here)
  ];
}
  where
    at_it : byte_at (set a o x) o ≡ byte_at (set b o x) o
    at_it = elim (cases_lt o (length a)) [
      | inl inside ↦ (let size = agree.size in get_or-set_same a o x 0 inside ∙ sym (get_or-set_same b o x 0 (omega (arith, inside, size))))
      | inr past ↦
          let size = agree.size in
          let of_a = length-set a o x in
          let of_b = length-set b o x in
          get_or_past (set a o x) o 0 (omega (arith, past, of_a)) ∙ sym (get_or_past (set b o x) o 0 (omega (arith, past, size, of_b)))
    ]

number_agrees : (w o v : ℕ) (some : ℕ → Type 0) (a b : List ℕ) → AgreeOff some a b → AgreeOff (λ p. some p × (o ≤ p → p < o + w → ⊥)) (with_number w o v a) (with_number w o v b)
number_agrees zero o v some a b agree = record {
  size = agree.size;
  bytes = λ place out. agree.bytes place (λ here. out (here, λ low high. let no : ⊥ = omega (arith, low, high) in no));
}
number_agrees (suc w) o v some a b agree =
    let rest = number_agrees w (o + 1) (v / 256) (λ p. some p × (p ≡ o → ⊥)) (set a o (v % 256)) (set b o (v % 256)) (set_agrees some o (v % 256) a b agree) in
    record {
      size = rest.size;
      bytes = λ place out. rest.bytes place (λ here. out (
        here.0.0,
        λ low high. elim (cases_eq place o) [
          | inl same ↦ here.0.1 same
          | inr other ↦ here.1 (omega (arith, low, other)) (omega (arith, high))
        ],
      ));
    }

all_agree : (some : ℕ → Type 0) (a b : List ℕ) → AgreeOff some a b → ((place : ℕ) → some place → ⊥) → a ≡ b
all_agree some a b agree none = ext_get_or 0 a b agree.size (λ place inside. agree.bytes place (none place))

-- The law: bounds are put over others.
pub bounds_over : (c : WindowKind) (v : Bounds) (a b : List ℕ) → length a ≡ length b → ((place : ℕ) → (IsOf c place → ⊥) → byte_at a place ≡ byte_at b place) → with_bounds c v a ≡ with_bounds c v b
bounds_over IoWindow v a b size bytes =
    all_agree _ _ _ (number_agrees 2 0x32 v.limit_upper _ _ _ (number_agrees 2 0x30 v.base_upper _ _ _ (number_agrees 1 0x1d v.limit _ _ _ (number_agrees 1 0x1c v.base (IsOf IoWindow) a b record { size = size; bytes = bytes }))))
    (λ place is. elim is.0.0.0.0 [
      | inl (low, high) ↦ elim (cases_lt place 0x1d) [ inl less ↦ is.0.0.0.1 low (omega (arith, less)) | inr from ↦ is.0.0.1 (omega (arith, from)) (omega (arith, high)) ]
      | inr (low, high) ↦ elim (cases_lt place 0x32) [ inl less ↦ is.0.1 low (omega (arith, less)) | inr from ↦ is.1 (omega (arith, from)) (omega (arith, high)) ]
    ])
bounds_over MemoryWindow v a b size bytes =
    all_agree _ _ _ (number_agrees 2 0x22 v.limit _ _ _ (number_agrees 2 0x20 v.base (IsOf MemoryWindow) a b record { size = size; bytes = bytes }))
    (λ place is. elim (cases_lt place 0x22) [ inl less ↦ is.0.1 is.0.0.0 (omega (arith, less)) | inr from ↦ (let high = is.0.0.1 in is.1 (omega (arith, from)) (omega (arith, high))) ])
bounds_over PrefetchWindow v a b size bytes =
    all_agree _ _ _ (number_agrees 4 0x2c v.limit_upper _ _ _ (number_agrees 4 0x28 v.base_upper _ _ _ (number_agrees 2 0x26 v.limit _ _ _ (number_agrees 2 0x24 v.base (IsOf PrefetchWindow) a b record { size = size; bytes = bytes }))))
    (λ place is.
    let low = is.0.0.0.0.0 in
    let high = is.0.0.0.0.1 in
    elim (cases_lt place 0x28) [
      | inl less ↦ elim (cases_lt place 0x26) [ inl lower ↦ is.0.0.0.1 low (omega (arith, lower)) | inr from ↦ is.0.0.1 (omega (arith, from)) (omega (arith, less)) ]
      | inr up ↦ elim (cases_lt place 0x2c) [ inl lower ↦ is.0.1 (omega (arith, up)) (omega (arith, lower)) | inr from ↦ is.1 (omega (arith, from)) (omega (arith, high)) ]
    ])
