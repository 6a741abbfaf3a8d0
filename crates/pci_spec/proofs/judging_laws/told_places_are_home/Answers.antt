use Rattle.std.proofs.Common.{◌≡◌, ◌<◌, ◌+◌, ℕ, ap, arith, inl, inr}
use Rattle.std.proofs.lemmas.Bool.{cases_eq}
use Rattle.pci_spec.specs.Slot.{Slot}
use Rattle.pci_spec.specs.System.{register_of}
use Rattle.pci_spec.specs.Why.{address_count}
use Rattle.pci_spec.proofs.judging_laws.told_places_are_home.Goals as goal

-- what isn't another region is the same
not_other : (s t : Slot) (m n : ℕ) → (((s ≡ t) × (m ≡ n) → ⊥) → ⊥) → (s ≡ t) × (m ≡ n)
not_other s t m n h = elim (cases_eq s.bus t.bus) [
  | inl bus ↦ elim (cases_eq s.device t.device) [
    | inl device ↦ elim (cases_eq s.function t.function) [
      | inl function ↦ elim (cases_eq m n) [
        | inl number ↦ ((λ i. record { bus = bus i; device = device i; function = function i }), number)
        | inr differ ↦ absurd (h (λ same. differ same.1))
      ]
      | inr differ ↦ absurd (h (λ same. differ (ap (λ (x : Slot). x.function) same.0)))
    ]
    | inr differ ↦ absurd (h (λ same. differ (ap (λ (x : Slot). x.device) same.0)))
  ]
  | inr differ ↦ absurd (h (λ same. differ (ap (λ (x : Slot). x.bus) same.0)))
]

pub returns : goal.returns
returns c = λ roots s q wide r place a within.
    let size = place.size in
    let last = within.1 in
    let below : a < r.first + address_count q.range = omega (arith, size, last) in
    record {
      passed = place.is.reached a within.0 below;
      alone = λ f part listed on_bus claims.
          not_other f.slot q.slot (register_of f part) q.register
          (λ other. place.is.free a within.0 below record { f = f; part = part; listed = listed; on_bus = on_bus; other = other; claims = claims });
    }
