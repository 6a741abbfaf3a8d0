-- Images that agree on some bytes show the same numbers there.
use Rattle.std.proofs.Common.{◌≡◌, ℕ, zero, suc, ◌+◌, ◌*◌, ◌^◌, ◌<◌, ◌≤◌, List, refl, arith}
use Rattle.pci_spec.specs.Number.{byte_at, number_at}
use Rattle.pci_spec.specs.Window.{WindowKind, IoWindow, MemoryWindow, PrefetchWindow, bounds_at}

pub number_same : (a b : List ℕ) (o w : ℕ) → ((j : ℕ) → j < w → byte_at a (o + j) ≡ byte_at b (o + j)) → number_at a o w ≡ number_at b o w
number_same a b o zero same = refl
number_same a b o (suc w) same =
    let low = number_same a b o w (λ j l. same j (omega (arith, l))) in
    let top = same w (omega arith) in
    λ i. low i + top i * 256 ^ w

-- the windows of a bridge stand from 1Ch on, below 38h
module _ (a b : List ℕ) (same : (place : ℕ) → 0x1c ≤ place → place < 0x38 → byte_at a place ≡ byte_at b place) where
  number_there : (o w : ℕ) → 0x1c ≤ o → o + w ≤ 0x38 → number_at a o w ≡ number_at b o w
  number_there o w from to = number_same a b o w (λ j less. same (o + j) (omega (arith, from)) (omega (arith, to, less)))

  pub bounds_same : (kind : WindowKind) → bounds_at kind a ≡ bounds_at kind b
  bounds_same IoWindow =
      let base = same 0x1c (omega arith) (omega arith) in
      let limit = same 0x1d (omega arith) (omega arith) in
      let base_upper = number_there 0x30 2 (omega arith) (omega arith) in
      let limit_upper = number_there 0x32 2 (omega arith) (omega arith) in
      λ i. record { base = base i; limit = limit i; base_upper = base_upper i; limit_upper = limit_upper i }
  bounds_same MemoryWindow =
      let base = number_there 0x20 2 (omega arith) (omega arith) in
      let limit = number_there 0x22 2 (omega arith) (omega arith) in
      λ i. record { base = base i; limit = limit i; base_upper = 0; limit_upper = 0 }
  bounds_same PrefetchWindow =
      let base = number_there 0x24 2 (omega arith) (omega arith) in
      let limit = number_there 0x26 2 (omega arith) (omega arith) in
      let base_upper = number_there 0x28 4 (omega arith) (omega arith) in
      let limit_upper = number_there 0x2c 4 (omega arith) (omega arith) in
      λ i. record { base = base i; limit = limit i; base_upper = base_upper i; limit_upper = limit_upper i }
