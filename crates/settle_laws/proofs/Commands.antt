-- Command with the enables that it has is Command.
use Rattle.std.proofs.Common.{◌≡◌, ℕ, ◌*◌, ◌/◌, ◌%◌, refl, Bool, true, false, arith}
use Rattle.std.specs.Bool.{if◌then◌else◌}
use Rattle.pci_spec.specs.Number.{has_bit}
use Rattle.pci_spec.proofs.Bits.{digit, digit_of_bit}
use Rattle.plan_spec.proofs.Planning.CommandFits.{command_by}

first_digit : (b : Bool) → (if b then 1 else 0) ≡ digit b
first_digit true = refl
first_digit false = refl

second_digit : (b : Bool) → (if b then 2 else 0) ≡ 2 * digit b
second_digit true = refl
second_digit false = refl

-- a number of its own low bits
pub as_it_is : (n : ℕ) → n ≡ command_by n (has_bit n 0) (has_bit n 1)
as_it_is n =
    let a = first_digit (has_bit n 0) in
    let b = second_digit (has_bit n 1) in
    let c : digit (has_bit n 0) ≡ n / 1 % 2 = digit_of_bit n 0 in
    let d : digit (has_bit n 1) ≡ n / 2 % 2 = digit_of_bit n 1 in
    omega (arith, a, b, c, d)
