-- The ends of sizing: what each leaves of the functions behind the port.
use Rattle.std.proofs.Common.{◌≡◌, ℕ, ◌*◌, ◌/◌, ◌%◌, List, true, refl, Some, sym, ◌∙◌, ap, subst}
use Rattle.pci_spec.specs.Slot.{Slot}
use Rattle.pci_spec.specs.Header.{command, layout}
use Rattle.pci_spec.specs.Machine.{Target, written, sized}
use Rattle.pci_spec.specs.Port.{IsLawful, IsTarget, has_function, with_image}
use Rattle.pci_spec.specs.Sizing.{function_at, quieted, IsStuck, DiffersInRegisters, is_written_to}
use Rattle.pci_machine.specs.SizeOutcome.{StopLeaves}
use Rattle.pci_machine.proofs.Targets.{with_image-with_image}
use Rattle.pci_machine.proofs.Sizing.{target-there, restored, with_image-own}
use Rattle.pci_machine.proofs.Quieting.{command_plain, same_layout, sized-quieted, stuck_by, free_by, partly_sized}

-- an image differs nowhere from itself
pub registers-same : (image : List ℕ) → DiffersInRegisters image image
registers-same image = record { full = refl; outside = λ place none. refl }

-- nothing was written
pub left-unwritten : (targets new : List Target) (slot : Slot) → IsLawful targets → has_function targets slot ≡ true → new ≡ targets
    → (image : List ℕ) × (new ≡ with_image targets slot image) × DiffersInRegisters (function_at targets slot).image image
left-unwritten targets new slot lawful there same =
    ((function_at targets slot).image, same ∙ sym (with_image-own targets slot lawful there), registers-same (function_at targets slot).image)

module _ (before quiet : List Target) (slot : Slot) (lawful : IsLawful before) (there : has_function before slot ≡ true)
    (is_quiet : quiet ≡ with_image before slot (quieted (function_at before slot)))
    (function : function_at quiet slot ≡ record (function_at before slot) { image = quieted (function_at before slot) }) where
  -- the function is lawful
  good : IsTarget (function_at before slot)
  good = target-there before slot lawful there

  -- the quiet function has the same layout
  pub quiet-layout : layout (function_at quiet slot).image ≡ layout (function_at before slot).image
  quiet-layout = ap (λ (u : Target). layout u.image) function ∙ same_layout (function_at before slot) good

  -- it has the same read backs
  pub quiet-sized : sized (function_at quiet slot) ≡ sized (function_at before slot)
  quiet-sized = ap sized function ∙ sized-quieted (function_at before slot) good

  -- a decode bit that it shows is stuck
  pub quiet-stuck : (command (function_at quiet slot).image % 4 ≡ 0 → ⊥) → IsStuck (function_at before slot)
  quiet-stuck loud = stuck_by (function_at before slot) good (λ e. loud (ap (λ (u : Target). command u.image % 4) function ∙ e))

  -- where it shows none, none is stuck
  pub quiet-free : command (function_at quiet slot).image % 4 ≡ 0 → IsStuck (function_at before slot) → ⊥
  quiet-free shown = free_by (function_at before slot) good (sym (ap (λ (u : Target). command u.image % 4) function) ∙ shown)

  -- Command was put back
  pub put-back : (same after : List Target) (old : ℕ) → same ≡ quiet → old ≡ command (function_at before slot).image
      → after ≡ with_image same slot (written (function_at same slot) 0x04 2 old) → after ≡ before
  put-back same after old e is second =
      restored before same after slot 0x04 2 (command (function_at before slot).image / 4 * 4) old lawful there refl (command_plain (function_at before slot) good)
      (e ∙ is_quiet) is second

  -- an access failed
  pub stopped-open : (after : List Target) (offset old : ℕ) → old ≡ command (function_at before slot).image
      → is_written_to (layout (function_at quiet slot).image) offset ≡ true
      → (image : List ℕ) × (after ≡ with_image quiet slot image) × DiffersInRegisters (function_at quiet slot).image image
      → StopLeaves before slot after offset (Some old)
  stopped-open after offset old is register (image, left, differs) = (
    is,
    ap (λ kind. is_written_to kind offset) (sym quiet-layout) ∙ register,
    (
      image,
      left ∙ ap (λ xs. with_image xs slot image) is_quiet ∙ with_image-with_image before slot (quieted (function_at before slot)) image,
      partly_sized (function_at before slot) good image (subst (λ (u : Target). DiffersInRegisters u.image image) function differs),
    ),
  )

  -- Command could not be put back
  pub stopped-quiet : (after : List Target) (old : ℕ) → old ≡ command (function_at before slot).image → after ≡ quiet → StopLeaves before slot after 0x04 (Some old)
  stopped-quiet after old is same = (
    is,
    refl,
    (
      quieted (function_at before slot),
      same ∙ is_quiet,
      partly_sized (function_at before slot) good (quieted (function_at before slot)) (registers-same (quieted (function_at before slot))),
    ),
  )
