-- Which address bits each register has.
use Rattle.std.proofs.Common.{◌≡◌, ℕ, zero, suc, ◌+◌, ◌*◌, ◌<◌, List, refl, Bool, true, false, ◌||◌, arith}
use Rattle.std.specs.Bool.{if◌then◌else◌}
use Rattle.std.proofs.lemmas.Bool.{both_ways}
use Rattle.pci_spec.specs.Number.{number_at, has_bit}
use Rattle.pci_spec.specs.Machine.{in_fields, without_low}
use Rattle.plan_spec.proofs.Planning.Moved.{kind_fields}

-- an address bit in the register of `w` bytes at an offset is one of these bits
abbrev pub IsRow : Bool → List ℕ → ℕ → ℕ → ℕ → ℕ → Type 0
IsRow bridge probe rom o w bits = (j i : ℕ) → j < w → i < 8 → in_fields (kind_fields bridge probe rom) (o + j) i ≡ true → has_bit bits (8 * j + i) ≡ true

or_false : (b : Bool) → (b || false) ≡ true → b ≡ true
or_false true h = refl
or_false false h = absurd (both_ways false refl h)

pub row_1c : (probe : List ℕ) (rom : ℕ) → IsRow true probe rom 0x1c 1 (without_low 16 (number_at probe 0x1c 1))
row_1c probe rom zero i short small h = or_false (has_bit (without_low 16 (number_at probe 0x1c 1)) (8 * 0 + i)) h
row_1c probe rom (suc j) i short small h = absurd (let impossible : ⊥ = omega (arith, short) in impossible)

pub row_1d : (probe : List ℕ) (rom : ℕ) → IsRow true probe rom 0x1d 1 (without_low 16 (number_at probe 0x1d 1))
row_1d probe rom zero i short small h = or_false (has_bit (without_low 16 (number_at probe 0x1d 1)) (8 * 0 + i)) h
row_1d probe rom (suc j) i short small h = absurd (let impossible : ⊥ = omega (arith, short) in impossible)

pub row_20 : (probe : List ℕ) (rom : ℕ) → IsRow true probe rom 0x20 2 (without_low 16 (number_at probe 0x20 2))
row_20 probe rom zero i short small h = or_false (has_bit (without_low 16 (number_at probe 0x20 2)) (8 * 0 + i)) h
row_20 probe rom (suc zero) i short small h = or_false (has_bit (without_low 16 (number_at probe 0x20 2)) (8 * 1 + i)) h
row_20 probe rom (suc (suc j)) i short small h = absurd (let impossible : ⊥ = omega (arith, short) in impossible)

pub row_22 : (probe : List ℕ) (rom : ℕ) → IsRow true probe rom 0x22 2 (without_low 16 (number_at probe 0x22 2))
row_22 probe rom zero i short small h = or_false (has_bit (without_low 16 (number_at probe 0x22 2)) (8 * 0 + i)) h
row_22 probe rom (suc zero) i short small h = or_false (has_bit (without_low 16 (number_at probe 0x22 2)) (8 * 1 + i)) h
row_22 probe rom (suc (suc j)) i short small h = absurd (let impossible : ⊥ = omega (arith, short) in impossible)

pub row_24 : (probe : List ℕ) (rom : ℕ) → IsRow true probe rom 0x24 2 (without_low 16 (number_at probe 0x24 2))
row_24 probe rom zero i short small h = or_false (has_bit (without_low 16 (number_at probe 0x24 2)) (8 * 0 + i)) h
row_24 probe rom (suc zero) i short small h = or_false (has_bit (without_low 16 (number_at probe 0x24 2)) (8 * 1 + i)) h
row_24 probe rom (suc (suc j)) i short small h = absurd (let impossible : ⊥ = omega (arith, short) in impossible)

pub row_26 : (probe : List ℕ) (rom : ℕ) → IsRow true probe rom 0x26 2 (without_low 16 (number_at probe 0x26 2))
row_26 probe rom zero i short small h = or_false (has_bit (without_low 16 (number_at probe 0x26 2)) (8 * 0 + i)) h
row_26 probe rom (suc zero) i short small h = or_false (has_bit (without_low 16 (number_at probe 0x26 2)) (8 * 1 + i)) h
row_26 probe rom (suc (suc j)) i short small h = absurd (let impossible : ⊥ = omega (arith, short) in impossible)

pub row_28 : (probe : List ℕ) (rom : ℕ) → IsRow true probe rom 0x28 4 (without_low 1 (number_at probe 0x28 4))
row_28 probe rom zero i short small h = or_false (has_bit (without_low 1 (number_at probe 0x28 4)) (8 * 0 + i)) h
row_28 probe rom (suc zero) i short small h = or_false (has_bit (without_low 1 (number_at probe 0x28 4)) (8 * 1 + i)) h
row_28 probe rom (suc (suc zero)) i short small h = or_false (has_bit (without_low 1 (number_at probe 0x28 4)) (8 * 2 + i)) h
row_28 probe rom (suc (suc (suc zero))) i short small h = or_false (has_bit (without_low 1 (number_at probe 0x28 4)) (8 * 3 + i)) h
row_28 probe rom (suc (suc (suc (suc j)))) i short small h = absurd (let impossible : ⊥ = omega (arith, short) in impossible)

pub row_2c : (probe : List ℕ) (rom : ℕ) → IsRow true probe rom 0x2c 4 (without_low 1 (number_at probe 0x2c 4))
row_2c probe rom zero i short small h = or_false (has_bit (without_low 1 (number_at probe 0x2c 4)) (8 * 0 + i)) h
row_2c probe rom (suc zero) i short small h = or_false (has_bit (without_low 1 (number_at probe 0x2c 4)) (8 * 1 + i)) h
row_2c probe rom (suc (suc zero)) i short small h = or_false (has_bit (without_low 1 (number_at probe 0x2c 4)) (8 * 2 + i)) h
row_2c probe rom (suc (suc (suc zero))) i short small h = or_false (has_bit (without_low 1 (number_at probe 0x2c 4)) (8 * 3 + i)) h
row_2c probe rom (suc (suc (suc (suc j)))) i short small h = absurd (let impossible : ⊥ = omega (arith, short) in impossible)

pub row_30 : (probe : List ℕ) (rom : ℕ) → IsRow true probe rom 0x30 2 (without_low 1 (number_at probe 0x30 2))
row_30 probe rom zero i short small h = or_false (has_bit (without_low 1 (number_at probe 0x30 2)) (8 * 0 + i)) h
row_30 probe rom (suc zero) i short small h = or_false (has_bit (without_low 1 (number_at probe 0x30 2)) (8 * 1 + i)) h
row_30 probe rom (suc (suc j)) i short small h = absurd (let impossible : ⊥ = omega (arith, short) in impossible)

pub row_32 : (probe : List ℕ) (rom : ℕ) → IsRow true probe rom 0x32 2 (without_low 1 (number_at probe 0x32 2))
row_32 probe rom zero i short small h = or_false (has_bit (without_low 1 (number_at probe 0x32 2)) (8 * 0 + i)) h
row_32 probe rom (suc zero) i short small h = or_false (has_bit (without_low 1 (number_at probe 0x32 2)) (8 * 1 + i)) h
row_32 probe rom (suc (suc j)) i short small h = absurd (let impossible : ⊥ = omega (arith, short) in impossible)

pub row_rom : (bridge : Bool) (probe : List ℕ) (rom : ℕ) → IsRow bridge probe rom (if bridge then 0x38 else 0x30) 4 rom
row_rom true probe rom zero i short small h = or_false (has_bit rom (8 * 0 + i)) h
row_rom true probe rom (suc zero) i short small h = or_false (has_bit rom (8 * 1 + i)) h
row_rom true probe rom (suc (suc zero)) i short small h = or_false (has_bit rom (8 * 2 + i)) h
row_rom true probe rom (suc (suc (suc zero))) i short small h = or_false (has_bit rom (8 * 3 + i)) h
row_rom true probe rom (suc (suc (suc (suc j)))) i short small h = absurd (let impossible : ⊥ = omega (arith, short) in impossible)
row_rom false probe rom zero i short small h = or_false (has_bit rom (8 * 0 + i)) h
row_rom false probe rom (suc zero) i short small h = or_false (has_bit rom (8 * 1 + i)) h
row_rom false probe rom (suc (suc zero)) i short small h = or_false (has_bit rom (8 * 2 + i)) h
row_rom false probe rom (suc (suc (suc zero))) i short small h = or_false (has_bit rom (8 * 3 + i)) h
row_rom false probe rom (suc (suc (suc (suc j)))) i short small h = absurd (let impossible : ⊥ = omega (arith, short) in impossible)
