-- The widths and the ends of accesses.
use Rattle.std.proofs.Common.{◌≡◌, ℕ, ◌+◌, ◌%◌, ◌<◌, ◌≤◌, ◌==◌, ◌||◌, true, inl, inr, arith, sym, ◌∙◌, ap}
use Rattle.std.specs.Prelude.{◌⊎◌}
use Rattle.std.proofs.lemmas.Bool.{and_parts, or_cases, eqb-true}
use Rattle.pci_spec.specs.Port.{is_access}

-- the widths of an access
pub width_cases : (offset width : ℕ) → is_access offset width ≡ true → (width ≡ 1) ⊎ ((width ≡ 2) ⊎ (width ≡ 4))
width_cases offset width h =
    elim (or_cases (width == 1 || width == 2) (width == 4) (and_parts (width == 1 || width == 2 || width == 4) (offset % width == 0) h).0) [
      | inl small ↦ elim (or_cases (width == 1) (width == 2) small) [
        | inl one ↦ inl (eqb-true width 1 one)
        | inr two ↦ inr (inl (eqb-true width 2 two))
      ]
      | inr four ↦ inr (inr (eqb-true width 4 four))
    ]

-- an access ends within the 256 bytes
pub access-end : (offset width : ℕ) → is_access offset width ≡ true → offset < 256 → offset + width ≤ 256
access-end offset width h below =
    let even = eqb-true (offset % width) 0 (and_parts (width == 1 || width == 2 || width == 4) (offset % width == 0) h).1 in
    elim (width_cases offset width h) [
      | inl one ↦ omega (arith, one, below)
      | inr more ↦ elim more [
        | inl two ↦ let e : offset % 2 ≡ 0 = ap (λ w. offset % w) (sym two) ∙ even in omega (arith, two, below, e)
        | inr four ↦ let e : offset % 4 ≡ 0 = ap (λ w. offset % w) (sym four) ∙ even in omega (arith, four, below, e)
      ]
    ]
