-- Which bytes change where a window is taken as the one that it shows.
use Rattle.std.specs.Prelude.{◌⊎◌}
use Rattle.std.proofs.Common.{◌≡◌, ℕ, zero, suc, ◌+◌, ◌/◌, ◌%◌, ◌<◌, ◌≤◌, ◌&&◌, List, length, set, Option, None, Some, inl, inr, refl, ◌∙◌, arith}
use Rattle.std.proofs.lemmas.Bool.{cond_both}
use Rattle.std.proofs.lemmas.List.{get_or-set_other, length-set}
use Rattle.pci_spec.specs.Number.{byte_at}
use Rattle.pci_spec.specs.Registers.{IO_BASE, IO_LIMIT, IO_BASE_UPPER, IO_LIMIT_UPPER, MEMORY_BASE, MEMORY_LIMIT, PREFETCHABLE_BASE, PREFETCHABLE_LIMIT, PREFETCHABLE_BASE_UPPER, PREFETCHABLE_LIMIT_UPPER}
use Rattle.pci_spec.specs.Window.{WindowKind, IoWindow, MemoryWindow, PrefetchWindow, Bounds, bounds_at, breaks_window_rule, closed_bounds, is_zero}
use Rattle.pci_spec.specs.Derived.{bounds_of_nibble}
use Rattle.pci_spec.specs.System.{Function, is_bridge}
use Rattle.judge_spec.specs.ModelWords.{Words}
use Rattle.judge_spec.specs.Windows.{with_number, with_bounds, shown_nibble, with_nibble, window_as_shown, windows_as_shown}
use Rattle.judge_spec.specs.Taken.{windows_aside}

-- ---- a number

pub number_length : (width offset value : ℕ) (image : List ℕ) → length (with_number width offset value image) ≡ length image
number_length zero offset value image = refl
number_length (suc width) offset value image = number_length width (offset + 1) (value / 256) (set image offset (value % 256)) ∙ length-set image offset (value % 256)

pub number_other : (width offset value : ℕ) (image : List ℕ) (place : ℕ) → (place < offset) ⊎ (offset + width ≤ place) → byte_at (with_number width offset value image) place ≡ byte_at image place
number_other zero offset value image place apart = refl
number_other (suc width) offset value image place apart =
    number_other width (offset + 1) (value / 256) (set image offset (value % 256)) place (elim apart [ inl low ↦ inl (omega (arith, low)) | inr high ↦ inr (omega (arith, high)) ])
    ∙ get_or-set_other image offset place (value % 256) 0 (λ e. elim apart [ inl low ↦ omega (arith, low, e) | inr high ↦ omega (arith, high, e) ])

-- ---- a window

-- a byte of no register of a window
abbrev pub IsOutside : ℕ → Type 0
IsOutside place = (place < IO_BASE) ⊎ (0x34 ≤ place)

beside : (place offset width : ℕ) → IsOutside place → IO_BASE ≤ offset → offset + width ≤ 0x34 → (place < offset) ⊎ (offset + width ≤ place)
beside place offset width (inl low) from to = inl (omega (arith, low, from))
beside place offset width (inr high) from to = inr (omega (arith, high, to))

bounds_length : (kind : WindowKind) (b : Bounds) (image : List ℕ) → length (with_bounds kind b image) ≡ length image
bounds_length IoWindow b image =
    number_length 2 IO_LIMIT_UPPER b.limit_upper _ ∙ number_length 2 IO_BASE_UPPER b.base_upper _ ∙ number_length 1 IO_LIMIT b.limit _ ∙ number_length 1 IO_BASE b.base image
bounds_length MemoryWindow b image = number_length 2 MEMORY_LIMIT b.limit _ ∙ number_length 2 MEMORY_BASE b.base image
bounds_length PrefetchWindow b image =
    number_length 4 PREFETCHABLE_LIMIT_UPPER b.limit_upper _ ∙ number_length 4 PREFETCHABLE_BASE_UPPER b.base_upper _ ∙ number_length 2 PREFETCHABLE_LIMIT b.limit _
    ∙ number_length 2 PREFETCHABLE_BASE b.base image

bounds_other : (kind : WindowKind) (b : Bounds) (image : List ℕ) (place : ℕ) → IsOutside place → byte_at (with_bounds kind b image) place ≡ byte_at image place
bounds_other IoWindow b image place out =
    number_other 2 IO_LIMIT_UPPER b.limit_upper _ place (beside place IO_LIMIT_UPPER 2 out (omega arith) (omega arith))
    ∙ number_other 2 IO_BASE_UPPER b.base_upper _ place (beside place IO_BASE_UPPER 2 out (omega arith) (omega arith))
    ∙ number_other 1 IO_LIMIT b.limit _ place (beside place IO_LIMIT 1 out (omega arith) (omega arith))
    ∙ number_other 1 IO_BASE b.base image place (beside place IO_BASE 1 out (omega arith) (omega arith))
bounds_other MemoryWindow b image place out =
    number_other 2 MEMORY_LIMIT b.limit _ place (beside place MEMORY_LIMIT 2 out (omega arith) (omega arith))
    ∙ number_other 2 MEMORY_BASE b.base image place (beside place MEMORY_BASE 2 out (omega arith) (omega arith))
bounds_other PrefetchWindow b image place out =
    number_other 4 PREFETCHABLE_LIMIT_UPPER b.limit_upper _ place (beside place PREFETCHABLE_LIMIT_UPPER 4 out (omega arith) (omega arith))
    ∙ number_other 4 PREFETCHABLE_BASE_UPPER b.base_upper _ place (beside place PREFETCHABLE_BASE_UPPER 4 out (omega arith) (omega arith))
    ∙ number_other 2 PREFETCHABLE_LIMIT b.limit _ place (beside place PREFETCHABLE_LIMIT 2 out (omega arith) (omega arith))
    ∙ number_other 2 PREFETCHABLE_BASE b.base image place (beside place PREFETCHABLE_BASE 2 out (omega arith) (omega arith))

-- ---- a function

-- it stands where it stood, and its image differs in registers of windows alone
pub record DiffersInWindows (f g : Function) : Type 0 where
  pub slot : g.slot ≡ f.slot
  pub full : length g.image ≡ length f.image
  pub same : (place : ℕ) → IsOutside place → byte_at g.image place ≡ byte_at f.image place

itself : (f : Function) → DiffersInWindows f f
itself f = record { slot = refl; full = refl; same = λ place out. refl }

through : (f g h : Function) → DiffersInWindows f g → DiffersInWindows g h → DiffersInWindows f h
through f g h first second = record {
  slot = second.slot ∙ first.slot;
  full = second.full ∙ first.full;
  same = λ place out. second.same place out ∙ first.same place out;
}

nibble_differs : (kind : WindowKind) (o : Option ℕ) (f : Function) → DiffersInWindows f (with_nibble kind o f)
nibble_differs kind None f = itself f
nibble_differs kind (Some n) f =
    cond_both (is_zero (bounds_at kind f.image) && is_zero (bounds_at kind f.probe)) (with_bounds kind (closed_bounds kind n) f.image) f.image
    (λ image. DiffersInWindows f record { slot = f.slot; image = image; probe = with_bounds kind (bounds_of_nibble kind n) f.probe })
    (λ zero. record { slot = refl; full = bounds_length kind (closed_bounds kind n) f.image; same = λ place out. bounds_other kind (closed_bounds kind n) f.image place out })
    (λ shown. record { slot = refl; full = refl; same = λ place out. refl })

window_differs : (kind : WindowKind) (f : Function) → DiffersInWindows f (window_as_shown kind f)
window_differs kind f =
    let o = shown_nibble kind (bounds_at kind f.image) in
    cond_both (breaks_window_rule kind f.image f.probe) (with_nibble kind o f) f (λ g. DiffersInWindows f g) (λ breaks. nibble_differs kind o f) (λ lawful. itself f)

pub windows_differ : (f : Function) → DiffersInWindows f (windows_as_shown f)
windows_differ f =
    let g = window_as_shown IoWindow f in
    let h = window_as_shown MemoryWindow g in
    through f h (window_as_shown PrefetchWindow h) (through f g h (window_differs IoWindow f) (window_differs MemoryWindow g)) (window_differs PrefetchWindow h)

pub aside_differs : (w : Words) (f : Function) → DiffersInWindows f (windows_aside w f)
aside_differs w f = cond_both (w.windows && is_bridge f) (windows_as_shown f) f (λ g. DiffersInWindows f g) (λ counts. windows_differ f) (λ other. itself f)
