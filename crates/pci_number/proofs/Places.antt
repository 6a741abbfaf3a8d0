-- The slot at a place of a bus.
use Rattle.std.proofs.Common.{◌≡◌, ℕ, ◌/◌, ◌%◌, ◌≤◌, arith, ap, subst}
use Rattle.pci_spec.specs.Slot.{Slot}
use Rattle.pci_number.specs.Seen.{code}

pub data IsPlaceOf (slot : Slot) : ℕ → ℕ → Type 0 where
  At : slot.function ≤ 7 → IsPlaceOf slot slot.bus (code slot)

pub place_of : (slot : Slot) (bus place : ℕ) → slot ≡ record { bus = bus; device = place / 8; function = place % 8 } → IsPlaceOf slot bus place
place_of slot bus place is =
    let device : slot.device ≡ place / 8 = ap (λ (s : Slot). s.device) is in
    let function : slot.function ≡ place % 8 = ap (λ (s : Slot). s.function) is in
    let at : code slot ≡ place = omega (arith, device, function) in
    let low : slot.function ≤ 7 = omega (arith, function) in
    subst (λ b. IsPlaceOf slot b place) (ap (λ (s : Slot). s.bus) is) (subst (λ p. IsPlaceOf slot slot.bus p) at (At low))
