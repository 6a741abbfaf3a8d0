-- The numbers of a function's registers when everything is placed, register by register.
use Rattle.std.proofs.Common.{◌≡◌, ℕ, zero, suc, ◌+◌, ◌*◌, ◌^◌, ◌<◌, inl, inr, List, refl, true, false, cond, arith, ◌∙◌, ap}
use Rattle.std.proofs.lemmas.Bool.{cases_Bool}
use Rattle.pci_spec.specs.Header.{layout, bar_count, bar_register, rom_register}
use Rattle.pci_spec.specs.Window.{WindowKind, IoWindow, MemoryWindow, PrefetchWindow, Bounds}
use Rattle.pci_spec.specs.System.{System, Function, Bar, Rom, Window, is_bridge}
use Rattle.pci_spec.specs.Bus.{secondary}
use Rattle.plan_spec.specs.Plan.{Pools, window_size, need_of, has_behind}
use Rattle.plan_spec.specs.Planning.Numbers.{place_at, bar_number, device_number, bridge_number, new_number}
use Rattle.plan_spec.proofs.Planning.BarNumbers.{bar_by}
use Rattle.plan_spec.proofs.Planning.RomFits.{rom_by}
use Rattle.plan_spec.proofs.Planning.WindowFits.{bounds_by}

module _ (roots : List ℕ) (s : System) (pools : Pools) (f : Function) where
  abbrev pub bar_place : ℕ → ℕ
  bar_place n = place_at roots s pools f (Bar n)

  abbrev pub bounds : WindowKind → Bounds
  bounds kind = bounds_by f kind (has_behind s pools kind f) (place_at roots s pools f (Window kind)) (window_size kind (need_of s pools kind (secondary f)))

  same_bar : (n : ℕ) → bar_number roots s pools f n ≡ bar_by f bar_place n
  same_bar zero = refl
  same_bar (suc n) = refl

  on_bridge : is_bridge f ≡ true → (r : ℕ × ℕ) → new_number roots s pools f r ≡ bridge_number roots s pools f r.0
  on_bridge bridge r = ap (λ t. cond t (bridge_number roots s pools f r.0) (device_number roots s pools f r.0)) bridge

  on_device : is_bridge f ≡ false → (r : ℕ × ℕ) → new_number roots s pools f r ≡ device_number roots s pools f r.0
  on_device device r = ap (λ t. cond t (bridge_number roots s pools f r.0) (device_number roots s pools f r.0)) device

  -- ---- BARs and ROM

  bridge_bar : is_bridge f ≡ true → (n : ℕ) → n < 2 → new_number roots s pools f (bar_register n, 4) ≡ bar_by f bar_place n
  bridge_bar bridge zero inside = on_bridge bridge (0x10, 4) ∙ same_bar 0
  bridge_bar bridge (suc zero) inside = on_bridge bridge (0x14, 4) ∙ same_bar 1
  bridge_bar bridge (suc (suc n)) inside = absurd (let impossible : ⊥ = omega (arith, inside) in impossible)

  device_bar : is_bridge f ≡ false → (n : ℕ) → n < 6 → new_number roots s pools f (bar_register n, 4) ≡ bar_by f bar_place n
  device_bar device zero inside = on_device device (0x10, 4) ∙ same_bar 0
  device_bar device (suc zero) inside = on_device device (0x14, 4) ∙ same_bar 1
  device_bar device (suc (suc zero)) inside = on_device device (0x18, 4) ∙ same_bar 2
  device_bar device (suc (suc (suc zero))) inside = on_device device (0x1c, 4) ∙ same_bar 3
  device_bar device (suc (suc (suc (suc zero)))) inside = on_device device (0x20, 4) ∙ same_bar 4
  device_bar device (suc (suc (suc (suc (suc zero))))) inside = on_device device (0x24, 4) ∙ same_bar 5
  device_bar device (suc (suc (suc (suc (suc (suc n)))))) inside = absurd (let impossible : ⊥ = omega (arith, inside) in impossible)

  pub number_of_bar : (n : ℕ) → n < bar_count (layout f.image) → new_number roots s pools f (bar_register n, 4) ≡ bar_by f bar_place n
  number_of_bar n inside = elim (cases_Bool (is_bridge f)) [
    | inl bridge ↦ bridge_bar bridge n (let e : bar_count (layout f.image) ≡ 2 = ap (λ t. cond t 2 6) bridge in omega (arith, inside, e))
    | inr device ↦ device_bar device n (let e : bar_count (layout f.image) ≡ 6 = ap (λ t. cond t 2 6) device in omega (arith, inside, e))
  ]

  pub number_of_rom : new_number roots s pools f (rom_register (layout f.image), 4) ≡ rom_by f (place_at roots s pools f Rom)
  number_of_rom = elim (cases_Bool (is_bridge f)) [
    | inl bridge ↦ ap (λ t. new_number roots s pools f (cond t 0x38 0x30, 4)) bridge ∙ on_bridge bridge (0x38, 4)
    | inr device ↦ ap (λ t. new_number roots s pools f (cond t 0x38 0x30, 4)) device ∙ on_device device (0x30, 4)
  ]

  -- ---- windows

  pub record WindowNumbers : Type 0 where
    pub io : new_number roots s pools f (0x1c, 2) ≡ (bounds IoWindow).base + 2 ^ 8 * (bounds IoWindow).limit
    pub io_upper : new_number roots s pools f (0x30, 4) ≡ (bounds IoWindow).base_upper + 2 ^ 16 * (bounds IoWindow).limit_upper
    pub memory : new_number roots s pools f (0x20, 4) ≡ (bounds MemoryWindow).base + 2 ^ 16 * (bounds MemoryWindow).limit
    pub prefetch : new_number roots s pools f (0x24, 4) ≡ (bounds PrefetchWindow).base + 2 ^ 16 * (bounds PrefetchWindow).limit
    pub prefetch_base : new_number roots s pools f (0x28, 4) ≡ (bounds PrefetchWindow).base_upper
    pub prefetch_limit : new_number roots s pools f (0x2c, 4) ≡ (bounds PrefetchWindow).limit_upper

  pub numbers_of_windows : is_bridge f ≡ true → WindowNumbers
  numbers_of_windows bridge = record {
    io = on_bridge bridge (0x1c, 2);
    io_upper = on_bridge bridge (0x30, 4);
    memory = on_bridge bridge (0x20, 4);
    prefetch = on_bridge bridge (0x24, 4);
    prefetch_base = on_bridge bridge (0x28, 4);
    prefetch_limit = on_bridge bridge (0x2c, 4);
  }
