use Rattle.std.proofs.Common.{◌≡◌, ℕ, ◌<◌, false}
use Rattle.pci_function.proofs.stray.has_stray.Given as goal
use Rattle.pci_spec.specs.Fault.{is_stray_by}
use Rattle.pci_image.specs.Layouts.{layout_number}

abbrev pub invariant-loop-offset : goal.invariant-loop-offset
invariant-loop-offset l = l.found ≡ false → (k : ℕ) → k < l.offset → is_stray_by (layout_number l.fn.layout) l.probe.0 k ≡ false

abbrev pub invariant-loop-offset-2 : goal.invariant-loop-offset-2
invariant-loop-offset-2 l = l.found ≡ false → (k : ℕ) → k < l.offset → is_stray_by (layout_number l.fn.layout) l.probe.0 k ≡ false
