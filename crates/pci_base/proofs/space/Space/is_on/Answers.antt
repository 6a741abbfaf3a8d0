use Rattle.std.proofs.Common.{◌≡◌, ◌*◌, ◌<◌, ℕ, arith, sym, ap, ◌∙◌, bit_and, inl, inr, eq-eqb}
use Rattle.std.specs.Prelude.{not, nat_eq}
use Rattle.std.specs.Int.{bit_at}
use Rattle.std.proofs.lemmas.Bool.{cases_eq, ne_eqb}
use Rattle.std.proofs.lemmas.Nat.Bits.{and_pow}
use Rattle.pci_spec.specs.Number.{has_bit}
use Rattle.pci_base.specs.Space.{is_on, space_of}
use Rattle.pci_base.proofs.space.Space.is_on.Goals as goal

second_bit : (n : ℕ) → not (nat_eq (bit_and n 2) 0) ≡ has_bit n 1
second_bit n =
    let e : bit_and n 2 ≡ bit_at n 1 * 2 = and_pow n 1 in
    let small : bit_at n 1 < 2 = omega arith in
    elim (cases_eq (bit_at n 1) 1) [
      | inl one ↦ ap not (ne_eqb (bit_and n 2) 0 (λ z. omega arith)) ∙ sym (eq-eqb (bit_at n 1) 1 one)
      | inr none ↦ ap not (eq-eqb (bit_and n 2) 0 (omega arith)) ∙ sym (ne_eqb (bit_at n 1) 1 none)
    ]

pub returns-in-Mem : goal.returns-in-Mem
returns-in-Mem c = second_bit c.args.command ∙ ap (λ s. is_on c.args.command (space_of s)) (sym c.in-Mem.is)
