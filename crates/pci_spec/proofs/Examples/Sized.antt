-- What a BAR of 1 MB answers.
use Rattle.std.proofs.Common.{◌≡◌, ◌≤◌, ◌&&◌, ℕ, true, inl, inr, arith, lit<, subst}
use Rattle.std.specs.Bool.{nat_le}
use Rattle.std.proofs.lemmas.Bool.{and_parts, leb-true, cases_order}
use Rattle.std.proofs.lemmas.Nat.{pow_below}
use Rattle.pci_spec.specs.Number.{AgreeFrom}
use Rattle.pci_spec.specs.Bar.{Memory32, Answers, is_run}
use Rattle.pci_spec.proofs.Bits.{run_number}

-- a mask of this size has no other
pub size_of_1_mb : (k : ℕ) → 4 ≤ k → k ≤ 31 → is_run 4 0xfff00000 k 31 ≡ true → k ≡ 20
size_of_1_mb k low high is =
    let run = run_number 4 0xfff00000 k 31 (lit< tt) low high (lit< tt) is in
    elim (cases_order k 20) [
      | inl e ↦ e
      | inr (inl less) ↦ let p = pow_below k 20 less in absurd (let no : ⊥ = omega (arith, p, run) in no)
      | inr (inr more) ↦ let p = pow_below 20 k more in absurd (let no : ⊥ = omega (arith, p, run) in no)
    ]

pub answered : (size value mask a : ℕ) → ((k : ℕ) → 4 ≤ k → k ≤ 31 → is_run 4 mask k 31 ≡ true → k ≡ size) → Answers Memory32 value mask a → AgreeFrom size a value
answered size value mask a only (k, lawful, agree) =
    let outer = and_parts (nat_le 4 k && nat_le k 31) (is_run 4 mask k 31) lawful in
    let inner = and_parts (nat_le 4 k) (nat_le k 31) outer.0 in
    subst (λ j. AgreeFrom j a value) (only k (leb-true 4 k inner.0) (leb-true k 31 inner.1) outer.1) agree
