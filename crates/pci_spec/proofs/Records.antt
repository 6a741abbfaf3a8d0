-- What a record says of its function: the addresses that its windows pass, and that its parts claim.
use Rattle.std.proofs.Common.{◌≡◌, ℕ, ◌+◌, List, refl, Bool, true, false, inl, inr, arith, sym}
use Rattle.std.specs.Prelude.{IsTrue, IsFalse}
use Rattle.std.specs.Bool.{nat_eq}
use Rattle.std.proofs.lemmas.Bool.{and_parts, and_left, or_cases, both_ways, eqb-true, ne_eqb, not-false, not_from_false}
use Rattle.pci_spec.specs.Window.{MemoryWindow, Bounds, bounds_at, page_bits, has_window, is_lawful_window, breaks_window_rule}

-- ---- windows

-- two tests that are true together are one
pub same_truth : (b c : Bool) → (b ≡ true → c ≡ true) → (c ≡ true → b ≡ true) → b ≡ c
same_truth true c to from = sym (to refl)
same_truth false true to from = from refl
same_truth false false to from = refl

-- a memory window that breaks no rule is there
pub memory_window_there : (image probe : List ℕ) → IsFalse (breaks_window_rule MemoryWindow image probe) → IsTrue (has_window MemoryWindow probe)
memory_window_there image probe none =
    let value : Bounds = bounds_at MemoryWindow image in
    let mask : Bounds = bounds_at MemoryWindow probe in
    let some = not-false _ none in
    let lawful : is_lawful_window MemoryWindow 0 value mask ≡ true = elim (or_cases _ _ some) [
      | inl first ↦ elim (or_cases _ _ first) [ inl is ↦ is | inr never ↦ absurd (both_ways false refl never) ]
      | inr never ↦ absurd (both_ways false refl never)
    ] in
    let one = and_parts _ _ lawful in
    let two = and_parts _ _ one.0 in
    let three = and_parts _ _ two.0 in
    let four = and_parts (nat_eq mask.base (page_bits MemoryWindow + 0)) _ three.0 in
    let base : mask.base ≡ 65520 + 0 = eqb-true _ _ four.0 in
    not_from_false _ (and_left _ _ (and_left _ _ (and_left _ _ (ne_eqb mask.base 0 (λ z. omega arith)))))
