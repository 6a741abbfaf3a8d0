-- A window shows the same where its registers do.
use Rattle.std.proofs.Common.{◌≡◌, ℕ, ◌+◌, ◌<◌, ◌≤◌, inl, inr, refl, arith}
use Rattle.std.proofs.lemmas.Bool.{cases_lt}
use Rattle.pci_spec.specs.Number.{byte_at, number_at, IsImage}
use Rattle.pci_spec.specs.Window.{WindowKind, IoWindow, MemoryWindow, PrefetchWindow, bounds_at}
use Rattle.pci_spec.specs.System.{Function, Window}
use Rattle.plan_spec.proofs.Planning.Reached.{byte_of_number}
use Rattle.settle_laws.proofs.Stages.{ShowsSame}
use Rattle.settle_laws.proofs.WindowBytes.{IsOf, bounds_by_bytes}

-- a window shows the same where its registers do
pub window_same : (f g : Function) (c : WindowKind) → IsImage f.image → IsImage g.image → ShowsSame f g (Window c) → bounds_at c g.image ≡ bounds_at c f.image
window_same f g c is_f is_g same = bounds_by_bytes c g.image f.image (bytes c same)
  where
    at : (o w : ℕ) → number_at g.image o w ≡ number_at f.image o w → (place : ℕ) → o ≤ place → place < o + w → byte_at g.image place ≡ byte_at f.image place
    at o w e place from to = byte_of_number g.image f.image o w place is_g is_f e from to

    bytes : (c : WindowKind) → ShowsSame f g (Window c) → (place : ℕ) → IsOf c place → byte_at g.image place ≡ byte_at f.image place
    bytes IoWindow same place (inl (a, b)) = at 0x1c 2 (same (0x1c, 2) (0, omega arith, refl)) place a b
    bytes IoWindow same place (inr (a, b)) = at 0x30 4 (same (0x30, 4) (1, omega arith, refl)) place a b
    bytes MemoryWindow same place (a, b) = at 0x20 4 (same (0x20, 4) (0, omega arith, refl)) place a b
    bytes PrefetchWindow same place (a, b) = elim (cases_lt place 0x28) [
      | inl low ↦ at 0x24 4 (same (0x24, 4) (0, omega arith, refl)) place a low
      | inr middle ↦ elim (cases_lt place 0x2c) [
        | inl below ↦ at 0x28 4 (same (0x28, 4) (1, omega arith, refl)) place middle below
        | inr high ↦ at 0x2c 4 (same (0x2c, 4) (2, omega arith, refl)) place high b
      ]
    ]
