-- Command with its enables as they are wanted fits its register, and enables those spaces.
use Rattle.std.proofs.Common.{◌≡◌, ℕ, ◌+◌, ◌*◌, ◌/◌, ◌^◌, ◌<◌, ◌≤◌, inl, inr, refl, Bool, true, false, ◌&&◌, arith, sym, ◌∙◌, ap}
use Rattle.std.specs.Bool.{nat_lt, ◌==◌, if◌then◌else◌}
use Rattle.std.specs.Int.{bit_at}
use Rattle.std.proofs.lemmas.Bool.{cases_lt, both_ways, lt-ltb}
use Rattle.std.proofs.lemmas.Nat.Bits.{bit_at_cat_low, bit_at_cat_high}
use Rattle.pci_spec.specs.Number.{has_bit, IsImage}
use Rattle.pci_spec.specs.Header.{command}
use Rattle.pci_spec.specs.System.{Function}
use Rattle.pci_spec.specs.Machine.{without_low}
use Rattle.pci_spec.proofs.Bits.{bit_at-without_low}
use Rattle.plan_spec.specs.Planning.Fitting.{FitsByNumber}
use Rattle.plan_spec.specs.Planning.Building.{command_write}
use Rattle.plan_spec.proofs.Planning.Registers.{number_below}

-- a Command with these bits 0 and 1
abbrev pub command_by : ℕ → Bool → Bool → ℕ
command_by old io memory = without_low 4 old + (if io then 1 else 0) + (if memory then 2 else 0)

abbrev enables : Bool → Bool → ℕ
enables io memory = (if io then 1 else 0) + (if memory then 2 else 0)

enables_small : (io memory : Bool) → enables io memory < 2 ^ 2
enables_small true true = omega arith
enables_small true false = omega arith
enables_small false true = omega arith
enables_small false false = omega arith

in_order : (old : ℕ) (io memory : Bool) → command_by old io memory ≡ old / 4 * 2 ^ 2 + enables io memory
in_order old io memory = omega arith

rest_same : (old b : ℕ) (io memory : Bool) → 2 ≤ b → bit_at (command_by old io memory) b ≡ bit_at old b
rest_same old b io memory high =
    let plain : old / 4 * 2 ^ 2 + 0 ≡ old / 4 * 2 ^ 2 = omega arith in
    ap (λ n. bit_at n b) (in_order old io memory)
    ∙ bit_at_cat_high (old / 4) 2 (enables io memory) b (enables_small io memory) high
    ∙ sym (bit_at_cat_high (old / 4) 2 0 b (omega arith) high)
    ∙ ap (λ n. bit_at n b) plain
    ∙ bit_at-without_low old 2 b high

pub command_fits : (f : Function) (io memory : Bool) → FitsByNumber (command_write f (command_by (command f.image) io memory)) f
command_fits f io memory = record {
  inside = omega arith;
  same = λ j i short small plain other. elim (cases_lt (8 * j + i) 2) [
    | inr high ↦ rest_same (command f.image) (8 * j + i) io memory high
    | inl low ↦
        let z : j ≡ 0 = omega (arith, low) in
        let less : i < 2 = omega (arith, low) in
        absurd (both_ways (4 + j == 4 && nat_lt i 2) other (ap (λ n. 4 + n == 4 && nat_lt i 2) z ∙ lt-ltb i 2 less))
  ];
  status = inl (omega arith);
  second = λ b. inl (omega arith);
}

pub command_small : (f : Function) → IsImage f.image → (io memory : Bool) → command_by (command f.image) io memory < 256 ^ 2
command_small f is io memory =
    let below = number_below f.image 0x04 is 2 in
    let low = enables_small io memory in
    omega (arith, below, low)

-- ---- what it enables

low_bit : (old b : ℕ) (io memory : Bool) → b < 2 → has_bit (command_by old io memory) b ≡ has_bit (enables io memory) b
low_bit old b io memory low = ap (λ n. has_bit n b) (in_order old io memory) ∙ ap (λ n. n == 1) (bit_at_cat_low (old / 4) 2 (enables io memory) b low)

first_enable : (io memory : Bool) → has_bit (enables io memory) 0 ≡ io
first_enable true true = refl
first_enable true false = refl
first_enable false true = refl
first_enable false false = refl

second_enable : (io memory : Bool) → has_bit (enables io memory) 1 ≡ memory
second_enable true true = refl
second_enable true false = refl
second_enable false true = refl
second_enable false false = refl

pub enables_io : (old : ℕ) (io memory : Bool) → has_bit (command_by old io memory) 0 ≡ io
enables_io old io memory = low_bit old 0 io memory (omega arith) ∙ first_enable io memory

pub enables_memory : (old : ℕ) (io memory : Bool) → has_bit (command_by old io memory) 1 ≡ memory
enables_memory old io memory = low_bit old 1 io memory (omega arith) ∙ second_enable io memory
