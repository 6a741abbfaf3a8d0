-- Two lines of different regions, in the order of slots and registers.
use Rattle.std.proofs.Common.{◌≡◌, ℕ, ◌<◌, inl, inr, List, ◌∷◌, ◌++◌, true, arith}
use Rattle.std.proofs.lemmas.Bool.{cases_order}
use Rattle.pci_spec.specs.Slot.{Slot, IsSlot}
use Rattle.pci_spec.specs.Order.{precedes, slot_key}
use Rattle.judge_spec.specs.ToldAllFaults.{region_number}
use Rattle.pci_spec.proofs.FirstLines.{less_precedes, same_precedes}

-- a lesser region in front
pub region_precedes : (s t : Slot) (r q : ℕ) (xs ys : List ℕ) → IsSlot s × (r < 8192) → IsSlot t × (q < 8192) → region_number s r < region_number t q
    → precedes (slot_key s ++ r ∷ xs) (slot_key t ++ q ∷ ys) ≡ true
region_precedes s t r q xs ys (hs, hr) (ht, hq) less = elim (cases_order s.bus t.bus) [
  | inr (inl low) ↦ less_precedes s.bus t.bus (s.device ∷ s.function ∷ r ∷ xs) (t.device ∷ t.function ∷ q ∷ ys) low
  | inr (inr high) ↦ absurd (let no : ⊥ = omega (arith, less, high, hs, ht, hr, hq) in no)
  | inl bus ↦ same_precedes s.bus t.bus (s.device ∷ s.function ∷ r ∷ xs) (t.device ∷ t.function ∷ q ∷ ys) bus (elim (cases_order s.device t.device) [
    | inr (inl low) ↦ less_precedes s.device t.device (s.function ∷ r ∷ xs) (t.function ∷ q ∷ ys) low
    | inr (inr high) ↦ absurd (let no : ⊥ = omega (arith, less, bus, high, hs, ht, hr, hq) in no)
    | inl device ↦ same_precedes s.device t.device (s.function ∷ r ∷ xs) (t.function ∷ q ∷ ys) device (elim (cases_order s.function t.function) [
      | inr (inl low) ↦ less_precedes s.function t.function (r ∷ xs) (q ∷ ys) low
      | inr (inr high) ↦ absurd (let no : ⊥ = omega (arith, less, bus, device, high, hr, hq) in no)
      | inl function ↦ same_precedes s.function t.function (r ∷ xs) (q ∷ ys) function (less_precedes r q xs ys (omega (arith, less, bus, device, function)))
    ])
  ])
]
