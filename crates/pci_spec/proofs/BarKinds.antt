-- The kinds of Base Address registers by their low bits.
use Rattle.std.proofs.Common.{◌≡◌, ◌⊎◌, ℕ, ◌/◌, ◌%◌, inl, inr, refl, Bool, true, false, not, arith}
use Rattle.std.specs.Prelude.{◌==◌}
use Rattle.std.specs.Int.{bit_at}
use Rattle.std.proofs.lemmas.Bool.{and_parts, and_from, eqb-true, eqb-false, eq-eqb, ne_eqb, not_from_false, not-true}
use Rattle.pci_spec.specs.Number.{has_bit}
use Rattle.pci_spec.specs.Bar.{Reserved, bar_kind, is_io, type_bits}
use Rattle.pci_spec.specs.BarLaws.{OddRegisterIsIo, LowBitsAreOfMemory, OtherTypesAreReserved, MemoryAloneIsPrefetchable}
use Rattle.pci_spec.proofs.BarLaws.{kind_by}

kind_same : (io wide narrow a b c : Bool) → io ≡ a → wide ≡ b → narrow ≡ c → kind_by io wide narrow ≡ kind_by a b c
kind_same io wide narrow a b c e f g = λ i. kind_by (e i) (f i) (g i)

even_is_memory : (register : ℕ) → register % 2 ≡ 0 → is_io register ≡ false
even_is_memory register h = ne_eqb (bit_at register 0) 1 (λ e. omega (arith, e, h))

pub odd_register_is_io : OddRegisterIsIo
odd_register_is_io register h = kind_same (is_io register) (type_bits register == 2) (type_bits register == 0) true (type_bits register == 2) (type_bits register == 0) (eq-eqb (bit_at register 0) 1 (omega (arith, h))) refl refl

pub low_bits_are_of_memory : LowBitsAreOfMemory
low_bits_are_of_memory register = (
  (λ h. kind_same (is_io register) (type_bits register == 2) (type_bits register == 0) false false true
      (even_is_memory register (omega (arith, h))) (ne_eqb (type_bits register) 2 (λ e. omega (arith, e, h))) (eq-eqb (type_bits register) 0 (omega (arith, h)))),
  (λ h. kind_same (is_io register) (type_bits register == 2) (type_bits register == 0) false true (type_bits register == 0)
      (even_is_memory register (omega (arith, h))) (eq-eqb (type_bits register) 2 (omega (arith, h))) refl),
)

reserved_by : (register : ℕ) → register % 2 ≡ 0 → register / 2 % 4 ≡ 1 ⊎ register / 2 % 4 ≡ 3 → bar_kind register ≡ Reserved
reserved_by register even (inl one) = kind_same (is_io register) (type_bits register == 2) (type_bits register == 0) false false false
    (even_is_memory register even) (ne_eqb (type_bits register) 2 (λ e. omega (arith, e, one))) (ne_eqb (type_bits register) 0 (λ e. omega (arith, e, one)))
reserved_by register even (inr three) = kind_same (is_io register) (type_bits register == 2) (type_bits register == 0) false false false
    (even_is_memory register even) (ne_eqb (type_bits register) 2 (λ e. omega (arith, e, three))) (ne_eqb (type_bits register) 0 (λ e. omega (arith, e, three)))

pub other_types_are_reserved : OtherTypesAreReserved
other_types_are_reserved register (inl two) = reserved_by register (omega (arith, two)) (inl (omega (arith, two)))
other_types_are_reserved register (inr six) = reserved_by register (omega (arith, six)) (inr (omega (arith, six)))

pub memory_alone_is_prefetchable : MemoryAloneIsPrefetchable
memory_alone_is_prefetchable register = (
  (λ h.
      let both = and_parts (not (is_io register)) (has_bit register 3) h in
      let even = eqb-false (bit_at register 0) 1 (not-true (is_io register) both.0) in
      let one = eqb-true (bit_at register 3) 1 both.1 in
      (omega (arith, even), omega (arith, one))),
  (λ h. and_from (not (is_io register)) (has_bit register 3) (not_from_false (is_io register) (even_is_memory register h.0)) (eq-eqb (bit_at register 3) 1 (let b = h.1 in omega (arith, b)))),
)
