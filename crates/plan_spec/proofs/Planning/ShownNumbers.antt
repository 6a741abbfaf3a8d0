-- What a function with the planned numbers shows.
use Rattle.std.proofs.Common.{◌≡◌, ℕ, zero, suc, ◌+◌, ◌*◌, ◌^◌, ◌<◌, List, refl, Bool, true, false, arith, sym, ◌∙◌, ap, subst}
use Rattle.std.specs.Bool.{if◌then◌else◌}
use Rattle.std.specs.List.{Contains}
use Rattle.pci_spec.specs.Number.{byte_at, number_at, IsImage}
use Rattle.pci_spec.specs.Header.{layout, bar_count, bar_register, rom_register, address_registers, registers_by}
use Rattle.pci_spec.specs.System.{Function, is_bridge}
use Rattle.plan_spec.proofs.Planning.Registers.{number_below}

-- ---- registers of a header

device_registers : (n : ℕ) → n < 6 → Contains (registers_by false) (bar_register n, 4)
device_registers zero inside = (0, omega arith, refl)
device_registers (suc zero) inside = (1, omega arith, refl)
device_registers (suc (suc zero)) inside = (2, omega arith, refl)
device_registers (suc (suc (suc zero))) inside = (3, omega arith, refl)
device_registers (suc (suc (suc (suc zero)))) inside = (4, omega arith, refl)
device_registers (suc (suc (suc (suc (suc zero))))) inside = (5, omega arith, refl)
device_registers (suc (suc (suc (suc (suc (suc n)))))) inside = absurd (let impossible : ⊥ = omega (arith, inside) in impossible)

bridge_registers : (n : ℕ) → n < 2 → Contains (registers_by true) (bar_register n, 4)
bridge_registers zero inside = (0, omega arith, refl)
bridge_registers (suc zero) inside = (1, omega arith, refl)
bridge_registers (suc (suc n)) inside = absurd (let impossible : ⊥ = omega (arith, inside) in impossible)

bars_by : (bridge : Bool) (n : ℕ) → n < (if bridge then 2 else 6) → Contains (registers_by bridge) (bar_register n, 4)
bars_by true n inside = bridge_registers n inside
bars_by false n inside = device_registers n inside

pub bar_listed : (f : Function) (n : ℕ) → n < bar_count (layout f.image) → Contains (address_registers (layout f.image)) (bar_register n, 4)
bar_listed f n inside = bars_by (is_bridge f) n inside

rom_by_kind : (bridge : Bool) → Contains (registers_by bridge) (if bridge then 0x38 else 0x30, 4)
rom_by_kind true = (8, omega arith, refl)
rom_by_kind false = (6, omega arith, refl)

pub rom_listed : (f : Function) → Contains (address_registers (layout f.image)) (rom_register (layout f.image), 4)
rom_listed f = rom_by_kind (is_bridge f)

on_bridge : (f : Function) → is_bridge f ≡ true → (r : ℕ × ℕ) → Contains (registers_by true) r → Contains (address_registers (layout f.image)) r
on_bridge f bridge r listed = subst (λ b. Contains (registers_by b) r) (sym bridge) listed

-- the registers of windows
pub io_listed : (f : Function) → is_bridge f ≡ true → Contains (address_registers (layout f.image)) (0x1c, 2)
io_listed f bridge = on_bridge f bridge (0x1c, 2) (2, omega arith, refl)

pub memory_listed : (f : Function) → is_bridge f ≡ true → Contains (address_registers (layout f.image)) (0x20, 4)
memory_listed f bridge = on_bridge f bridge (0x20, 4) (3, omega arith, refl)

pub prefetch_listed : (f : Function) → is_bridge f ≡ true → Contains (address_registers (layout f.image)) (0x24, 4)
prefetch_listed f bridge = on_bridge f bridge (0x24, 4) (4, omega arith, refl)

pub prefetch_base_listed : (f : Function) → is_bridge f ≡ true → Contains (address_registers (layout f.image)) (0x28, 4)
prefetch_base_listed f bridge = on_bridge f bridge (0x28, 4) (5, omega arith, refl)

pub prefetch_limit_listed : (f : Function) → is_bridge f ≡ true → Contains (address_registers (layout f.image)) (0x2c, 4)
prefetch_limit_listed f bridge = on_bridge f bridge (0x2c, 4) (6, omega arith, refl)

pub io_upper_listed : (f : Function) → is_bridge f ≡ true → Contains (address_registers (layout f.image)) (0x30, 4)
io_upper_listed f bridge = on_bridge f bridge (0x30, 4) (7, omega arith, refl)

-- ---- two numbers in one register

pub record AreTwo (a b low high : ℕ) : Type 0 where
  pub low_is : a ≡ low
  pub high_is : b ≡ high

pub two_bytes : (image : List ℕ) → IsImage image → (o low high : ℕ) → number_at image o 2 ≡ low + 2 ^ 8 * high → low < 2 ^ 8 → AreTwo (byte_at image (o + 0)) (byte_at image (o + 1)) low high
two_bytes image is o low high shown small =
    let first = is.bytes (o + 0) in
    record { low_is = omega (arith, first, shown, small); high_is = omega (arith, first, shown, small) }

split_four : (image : List ℕ) (o : ℕ) → number_at image o 4 ≡ number_at image o 2 + 2 ^ 16 * number_at image (o + 2) 2
split_four image o =
    let e : o + 2 + 0 ≡ o + 2 = omega arith in
    let d : o + 2 + 1 ≡ o + 3 = omega arith in
    let a = ap (byte_at image) e in
    let b = ap (byte_at image) d in
    omega (arith, a, b)

two_low : (a b low high : ℕ) → a + 2 ^ 16 * b ≡ low + 2 ^ 16 * high → a < 256 ^ 2 → low < 2 ^ 16 → a ≡ low
two_low a b low high e first small = omega (arith, e, first, small)

two_high : (a b low high : ℕ) → a + 2 ^ 16 * b ≡ low + 2 ^ 16 * high → a < 256 ^ 2 → low < 2 ^ 16 → b ≡ high
two_high a b low high e first small = omega (arith, e, first, small)

pub four_bytes : (image : List ℕ) → IsImage image → (o low high : ℕ) → number_at image o 4 ≡ low + 2 ^ 16 * high → low < 2 ^ 16 → AreTwo (number_at image o 2) (number_at image (o + 2) 2) low high
four_bytes image is o low high shown small =
    let first = number_below image o is 2 in
    let split = split_four image o in
    record { low_is = two_low (number_at image o 2) (number_at image (o + 2) 2) low high (sym split ∙ shown) first small; high_is = two_high (number_at image o 2) (number_at image (o + 2) 2) low high (sym split ∙ shown) first small }
