-- What the n-th access is for, by how many registers are compared and how many writes there are.
use Rattle.std.specs.Prelude.{◌≡◌, ℕ, ◌+◌, ◌<◌}
use Rattle.pci_plan.specs.declared.step.Place.{Place}
use Rattle.pci_plan.specs.declared.step.Place.TheVariants.{Compare, Make, ReadBack}

-- it is for that one of them: each is compared, then each write is made and read back
abbrev pub IsPlaceOfStep : ℕ → ℕ → ℕ → Place → Type 0
IsPlaceOfStep compares writes n (Compare index) = (n ≡ index) × (index < compares)
IsPlaceOfStep compares writes n (Make index) =
    (n ≡ compares + (index + index)) × (index < writes)
IsPlaceOfStep compares writes n (ReadBack index) =
    (n ≡ compares + (index + index + 1)) × (index < writes)
