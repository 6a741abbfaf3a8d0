-- What a function decodes hangs on the bytes of its address registers alone.
use Rattle.std.proofs.Common.{◌≡◌, ℕ, zero, suc, ◌+◌, ◌*◌, ◌^◌, ◌<◌, ◌≤◌, List, refl, cond, arith, ◌∙◌, ap}
use Rattle.pci_spec.specs.Number.{byte_at, number_at}
use Rattle.pci_spec.specs.Slot.{Slot}
use Rattle.pci_spec.specs.Bar.{bar_at, is_wide, whole_bar}
use Rattle.pci_spec.specs.Window.{WindowKind, IoWindow, MemoryWindow, PrefetchWindow, bounds_at}
use Rattle.pci_spec.specs.System.{Function}

-- two images have the same bytes where address registers can be
abbrev pub AgreeAside : List ℕ → List ℕ → Type 0
AgreeAside a b = (place : ℕ) → 0x10 ≤ place → place < 0x3c → byte_at a place ≡ byte_at b place

pub same_number : (a b : List ℕ) (o w : ℕ) → ((j : ℕ) → j < w → byte_at a (o + j) ≡ byte_at b (o + j)) → number_at a o w ≡ number_at b o w
same_number a b o zero same = refl
same_number a b o (suc w) same =
    ap (λ n. n + byte_at a (o + w) * 256 ^ w) (same_number a b o w (λ j less. same j (omega (arith, less))))
    ∙ ap (λ c. number_at b o w + c * 256 ^ w) (same w (omega arith))

module _ (a b : List ℕ) (same : AgreeAside a b) where
  number_aside : (o w : ℕ) → 0x10 ≤ o → o + w ≤ 0x3c → number_at a o w ≡ number_at b o w
  number_aside o w low high = same_number a b o w (λ j less. same (o + j) (omega (arith, low)) (omega (arith, high, less)))

  bar_aside : (n : ℕ) → n ≤ 6 → bar_at a n ≡ bar_at b n
  bar_aside n few = number_aside (0x10 + 4 * n) 4 (omega arith) (omega (arith, few))

  pub whole_aside : (probe : List ℕ) (n : ℕ) → n < 6 → whole_bar probe a n ≡ whole_bar probe b n
  whole_aside probe n few =
      ap (λ m. cond (is_wide (bar_at probe n)) (m + 2 ^ 32 * bar_at a (n + 1)) m) (bar_aside n (omega (arith, few)))
      ∙ ap (λ m. cond (is_wide (bar_at probe n)) (bar_at b n + 2 ^ 32 * m) (bar_at b n)) (bar_aside (n + 1) (omega (arith, few)))

  pub bounds_aside : (kind : WindowKind) → bounds_at kind a ≡ bounds_at kind b
  bounds_aside IoWindow = λ i. record {
    base = same 0x1c (omega arith) (omega arith) i;
    limit = same 0x1d (omega arith) (omega arith) i;
    base_upper = number_aside 0x30 2 (omega arith) (omega arith) i;
    limit_upper = number_aside 0x32 2 (omega arith) (omega arith) i;
  }
  bounds_aside MemoryWindow = λ i. record {
    base = number_aside 0x20 2 (omega arith) (omega arith) i;
    limit = number_aside 0x22 2 (omega arith) (omega arith) i;
    base_upper = 0;
    limit_upper = 0;
  }
  bounds_aside PrefetchWindow = λ i. record {
    base = number_aside 0x24 2 (omega arith) (omega arith) i;
    limit = number_aside 0x26 2 (omega arith) (omega arith) i;
    base_upper = number_aside 0x28 4 (omega arith) (omega arith) i;
    limit_upper = number_aside 0x2c 4 (omega arith) (omega arith) i;
  }

-- a function at a slot, with its image and what its registers read back
abbrev pub function_at : Slot → List ℕ → List ℕ → Function
function_at slot image probe = record { slot = slot; image = image; probe = probe }
