-- Which bits of ROM and window registers are address bits: those of their fields, no fewer.
use Rattle.std.proofs.Common.{◌≡◌, ℕ, zero, suc, ◌+◌, ◌*◌, ◌<◌, List, Bool, true, false, ◌||◌, arith}
use Rattle.std.specs.Bool.{if◌then◌else◌}
use Rattle.std.proofs.lemmas.Bool.{or_parts}
use Rattle.pci_spec.specs.Number.{number_at, has_bit}
use Rattle.pci_spec.specs.Machine.{in_fields, without_low}
use Rattle.plan_spec.proofs.Planning.Moved.{kind_fields}

-- each of these bits in the register of `w` bytes at an offset is an address bit
abbrev pub IsField : Bool → List ℕ → ℕ → ℕ → ℕ → ℕ → Type 0
IsField bridge probe rom o w bits = (j i : ℕ) → j < w → in_fields (kind_fields bridge probe rom) (o + j) i ≡ false → has_bit bits (8 * j + i) ≡ false

first_false : (b : Bool) → (b || false) ≡ false → b ≡ false
first_false b h = (or_parts b false h).0

pub field_1c : (probe : List ℕ) (rom : ℕ) → IsField true probe rom 0x1c 1 (without_low 16 (number_at probe 0x1c 1))
field_1c probe rom zero i short h = first_false (has_bit (without_low 16 (number_at probe 0x1c 1)) (8 * 0 + i)) h
field_1c probe rom (suc j) i short h = absurd (let impossible : ⊥ = omega (arith, short) in impossible)

pub field_1d : (probe : List ℕ) (rom : ℕ) → IsField true probe rom 0x1d 1 (without_low 16 (number_at probe 0x1d 1))
field_1d probe rom zero i short h = first_false (has_bit (without_low 16 (number_at probe 0x1d 1)) (8 * 0 + i)) h
field_1d probe rom (suc j) i short h = absurd (let impossible : ⊥ = omega (arith, short) in impossible)

pub field_20 : (probe : List ℕ) (rom : ℕ) → IsField true probe rom 0x20 2 (without_low 16 (number_at probe 0x20 2))
field_20 probe rom zero i short h = first_false (has_bit (without_low 16 (number_at probe 0x20 2)) (8 * 0 + i)) h
field_20 probe rom (suc zero) i short h = first_false (has_bit (without_low 16 (number_at probe 0x20 2)) (8 * 1 + i)) h
field_20 probe rom (suc (suc j)) i short h = absurd (let impossible : ⊥ = omega (arith, short) in impossible)

pub field_22 : (probe : List ℕ) (rom : ℕ) → IsField true probe rom 0x22 2 (without_low 16 (number_at probe 0x22 2))
field_22 probe rom zero i short h = first_false (has_bit (without_low 16 (number_at probe 0x22 2)) (8 * 0 + i)) h
field_22 probe rom (suc zero) i short h = first_false (has_bit (without_low 16 (number_at probe 0x22 2)) (8 * 1 + i)) h
field_22 probe rom (suc (suc j)) i short h = absurd (let impossible : ⊥ = omega (arith, short) in impossible)

pub field_24 : (probe : List ℕ) (rom : ℕ) → IsField true probe rom 0x24 2 (without_low 16 (number_at probe 0x24 2))
field_24 probe rom zero i short h = first_false (has_bit (without_low 16 (number_at probe 0x24 2)) (8 * 0 + i)) h
field_24 probe rom (suc zero) i short h = first_false (has_bit (without_low 16 (number_at probe 0x24 2)) (8 * 1 + i)) h
field_24 probe rom (suc (suc j)) i short h = absurd (let impossible : ⊥ = omega (arith, short) in impossible)

pub field_26 : (probe : List ℕ) (rom : ℕ) → IsField true probe rom 0x26 2 (without_low 16 (number_at probe 0x26 2))
field_26 probe rom zero i short h = first_false (has_bit (without_low 16 (number_at probe 0x26 2)) (8 * 0 + i)) h
field_26 probe rom (suc zero) i short h = first_false (has_bit (without_low 16 (number_at probe 0x26 2)) (8 * 1 + i)) h
field_26 probe rom (suc (suc j)) i short h = absurd (let impossible : ⊥ = omega (arith, short) in impossible)

pub field_28 : (probe : List ℕ) (rom : ℕ) → IsField true probe rom 0x28 4 (without_low 1 (number_at probe 0x28 4))
field_28 probe rom zero i short h = first_false (has_bit (without_low 1 (number_at probe 0x28 4)) (8 * 0 + i)) h
field_28 probe rom (suc zero) i short h = first_false (has_bit (without_low 1 (number_at probe 0x28 4)) (8 * 1 + i)) h
field_28 probe rom (suc (suc zero)) i short h = first_false (has_bit (without_low 1 (number_at probe 0x28 4)) (8 * 2 + i)) h
field_28 probe rom (suc (suc (suc zero))) i short h = first_false (has_bit (without_low 1 (number_at probe 0x28 4)) (8 * 3 + i)) h
field_28 probe rom (suc (suc (suc (suc j)))) i short h = absurd (let impossible : ⊥ = omega (arith, short) in impossible)

pub field_2c : (probe : List ℕ) (rom : ℕ) → IsField true probe rom 0x2c 4 (without_low 1 (number_at probe 0x2c 4))
field_2c probe rom zero i short h = first_false (has_bit (without_low 1 (number_at probe 0x2c 4)) (8 * 0 + i)) h
field_2c probe rom (suc zero) i short h = first_false (has_bit (without_low 1 (number_at probe 0x2c 4)) (8 * 1 + i)) h
field_2c probe rom (suc (suc zero)) i short h = first_false (has_bit (without_low 1 (number_at probe 0x2c 4)) (8 * 2 + i)) h
field_2c probe rom (suc (suc (suc zero))) i short h = first_false (has_bit (without_low 1 (number_at probe 0x2c 4)) (8 * 3 + i)) h
field_2c probe rom (suc (suc (suc (suc j)))) i short h = absurd (let impossible : ⊥ = omega (arith, short) in impossible)

pub field_30 : (probe : List ℕ) (rom : ℕ) → IsField true probe rom 0x30 2 (without_low 1 (number_at probe 0x30 2))
field_30 probe rom zero i short h = first_false (has_bit (without_low 1 (number_at probe 0x30 2)) (8 * 0 + i)) h
field_30 probe rom (suc zero) i short h = first_false (has_bit (without_low 1 (number_at probe 0x30 2)) (8 * 1 + i)) h
field_30 probe rom (suc (suc j)) i short h = absurd (let impossible : ⊥ = omega (arith, short) in impossible)

pub field_32 : (probe : List ℕ) (rom : ℕ) → IsField true probe rom 0x32 2 (without_low 1 (number_at probe 0x32 2))
field_32 probe rom zero i short h = first_false (has_bit (without_low 1 (number_at probe 0x32 2)) (8 * 0 + i)) h
field_32 probe rom (suc zero) i short h = first_false (has_bit (without_low 1 (number_at probe 0x32 2)) (8 * 1 + i)) h
field_32 probe rom (suc (suc j)) i short h = absurd (let impossible : ⊥ = omega (arith, short) in impossible)

pub field_rom : (bridge : Bool) (probe : List ℕ) (rom : ℕ) → IsField bridge probe rom (if bridge then 0x38 else 0x30) 4 rom
field_rom true probe rom zero i short h = first_false (has_bit rom (8 * 0 + i)) h
field_rom true probe rom (suc zero) i short h = first_false (has_bit rom (8 * 1 + i)) h
field_rom true probe rom (suc (suc zero)) i short h = first_false (has_bit rom (8 * 2 + i)) h
field_rom true probe rom (suc (suc (suc zero))) i short h = first_false (has_bit rom (8 * 3 + i)) h
field_rom true probe rom (suc (suc (suc (suc j)))) i short h = absurd (let impossible : ⊥ = omega (arith, short) in impossible)
field_rom false probe rom zero i short h = first_false (has_bit rom (8 * 0 + i)) h
field_rom false probe rom (suc zero) i short h = first_false (has_bit rom (8 * 1 + i)) h
field_rom false probe rom (suc (suc zero)) i short h = first_false (has_bit rom (8 * 2 + i)) h
field_rom false probe rom (suc (suc (suc zero))) i short h = first_false (has_bit rom (8 * 3 + i)) h
field_rom false probe rom (suc (suc (suc (suc j)))) i short h = absurd (let impossible : ⊥ = omega (arith, short) in impossible)
