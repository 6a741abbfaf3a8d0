-- The numbers of a filling's address registers, by their roles.
use Rattle.std.proofs.Common.{◌≡◌, ℕ, zero, suc, ◌%◌, ◌<◌, ◌==◌, List, refl, Bool, true, false, ◌&&◌, if◌then◌else◌, arith, sym, ◌∙◌, ap}
use Rattle.std.specs.Bool.{nat_lt}
use Rattle.std.proofs.lemmas.Bool.{and_parts, eqb-true, ltb-true}
use Rattle.pci_spec.specs.Header.{bar_register, rom_place}
use Rattle.pci_spec.specs.System.{System, Function, is_bridge}
use Rattle.plan_spec.specs.Plan.{Pools}
use Rattle.plan_spec.specs.Planning.Numbers.{bar_number, rom_number, bridge_number, device_number, new_number}
use Rattle.pci_image.specs.Registers.{has_place, has_place_as}
use Rattle.pci_image.specs.declared.register.Register.{Register}
use Rattle.pci_image.specs.declared.register.Role.{Role}
use Rattle.pci_image.specs.declared.register.Role.TheVariants.{Bar, Rom}

-- ---- where a register stands by its role

-- the role stands where the register does
pub role_placed : (bridge : Bool) (r : Register) (role : Role) → r.role ≡ role → has_place bridge r ≡ true → has_place_as bridge r.offset role ≡ true
role_placed bridge r role is placed = ap (has_place_as bridge r.offset) (sym is) ∙ placed

pub bar_placed : (bridge : Bool) (r : Register) (n : ℕ) → r.role ≡ Bar n → has_place bridge r ≡ true → (n < (if bridge then 2 else 6)) × (r.offset ≡ bar_register n)
bar_placed bridge r n is placed =
    let parts = and_parts (nat_lt n (if bridge then 2 else 6)) (r.offset == bar_register n) (role_placed bridge r (Bar n) is placed) in
    (ltb-true n (if bridge then 2 else 6) parts.0, eqb-true r.offset (bar_register n) parts.1)

pub bar_aligned : (offset n : ℕ) → offset ≡ bar_register n → offset % 4 ≡ 0
bar_aligned offset n is = omega (arith, is)

pub rom_placed : (bridge : Bool) (r : Register) → r.role ≡ Rom → has_place bridge r ≡ true → r.offset ≡ rom_place bridge
rom_placed bridge r is placed = eqb-true r.offset (rom_place bridge) (role_placed bridge r Rom is placed)

-- a window's registers stand on a bridge alone
pub window_placed : (bridge : Bool) (offset place : ℕ) → (bridge && offset == place) ≡ true → (bridge ≡ true) × (offset ≡ place)
window_placed bridge offset place placed =
    let parts = and_parts bridge (offset == place) placed in
    (parts.0, eqb-true offset place parts.1)

-- ---- what stands there

module _ (roots : List ℕ) (s : System) (pools : Pools) (f : Function) where
  abbrev number_on : Bool → ℕ → ℕ
  number_on bridge offset = if bridge then bridge_number roots s pools f offset else device_number roots s pools f offset

  bar_on : (bridge : Bool) (n : ℕ) → n < (if bridge then 2 else 6) → number_on bridge (bar_register n) ≡ bar_number roots s pools f n
  bar_on true zero inside = refl
  bar_on true (suc zero) inside = refl
  bar_on true (suc (suc k)) inside = absurd (let impossible : ⊥ = omega (arith, inside) in impossible)
  bar_on false zero inside = refl
  bar_on false (suc zero) inside = refl
  bar_on false (suc (suc zero)) inside = refl
  bar_on false (suc (suc (suc zero))) inside = refl
  bar_on false (suc (suc (suc (suc zero)))) inside = refl
  bar_on false (suc (suc (suc (suc (suc zero))))) inside = refl
  bar_on false (suc (suc (suc (suc (suc (suc k)))))) inside = absurd (let impossible : ⊥ = omega (arith, inside) in impossible)

  rom_on : (bridge : Bool) → number_on bridge (rom_place bridge) ≡ rom_number roots s pools f
  rom_on true = refl
  rom_on false = refl

  -- of a bridge or a device, as the function is
  module _ (bridge : Bool) (same : bridge ≡ is_bridge f) (offset width : ℕ) where
    by_kind : new_number roots s pools f (offset, width) ≡ number_on bridge offset
    by_kind = ap (λ t. number_on t offset) (sym same)

    pub bar_is : (n : ℕ) → (n < (if bridge then 2 else 6)) × (offset ≡ bar_register n) → new_number roots s pools f (offset, width) ≡ bar_number roots s pools f n
    bar_is n placed = by_kind ∙ ap (number_on bridge) placed.1 ∙ bar_on bridge n placed.0

    pub rom_is : offset ≡ rom_place bridge → new_number roots s pools f (offset, width) ≡ rom_number roots s pools f
    rom_is placed = by_kind ∙ ap (number_on bridge) placed ∙ rom_on bridge

    pub window_is : (place : ℕ) → (bridge ≡ true) × (offset ≡ place) → new_number roots s pools f (offset, width) ≡ bridge_number roots s pools f place
    window_is place placed = by_kind ∙ ap (λ t. number_on t offset) placed.0 ∙ ap (bridge_number roots s pools f) placed.1
