-- The highest address that a window can hold, by its record.
use Rattle.std.proofs.Common.{◌≡◌, ℕ, List, false, ◌%◌, ap, sym, ◌∙◌, refl, Some, None, inl, inr}
use Rattle.std.specs.Bool.{◌==◌, if◌then◌else◌}
use Rattle.std.proofs.lemmas.Bool.{cases_Bool, and_parts, not-false, eqb-true}
use Rattle.pci_spec.specs.Window.{WindowKind, IoWindow, MemoryWindow, PrefetchWindow, bounds_at, has_window, is_wide_window}
use Rattle.pci_spec.specs.Decoded.{record_of, optional_window, decoded_window}
use Rattle.pci_spec.specs.Decoded as decoded
use Rattle.pci_spec.specs.System.{Function}
use Rattle.settle_spec.specs.Items.{highest_in}
use Rattle.pci_function.specs.declared.record.Bridge.{Bridge}
use Rattle.pci_function.specs.declared.record.Record.{Record}
use Rattle.pci_function.specs.Values.{record_value}
use Rattle.pci_tree.proofs.RegionParts.{same_bridge_of}
use Rattle.pci_place.specs.Above.{is_wide_in}
use Rattle.pci_first_fit.specs.NewWindows.{highest_by}

-- a window that isn't there shows no upper halves
absent_is_narrow : (kind : WindowKind) (probe : List ℕ) → has_window kind probe ≡ false → is_wide_window kind probe ≡ false
absent_is_narrow kind probe absent =
    let zero = not-false _ absent in
    let one = (and_parts _ _ zero).0 in
    let two = (and_parts _ _ one).0 in
    let base = eqb-true (bounds_at kind probe).base 0 (and_parts ((bounds_at kind probe).base == 0) _ two).0 in
    ap (λ n. n % 16 == 1) base

wide_window : (kind : WindowKind) (image probe : List ℕ) → is_wide_in (optional_window kind image probe) ≡ is_wide_window kind probe
wide_window kind image probe = elim (cases_Bool (has_window kind probe)) [
  | inl there ↦ rw there refl
  | inr absent ↦ ap (λ b. is_wide_in (if b then Some (decoded_window kind image probe) else None)) absent ∙ sym (absent_is_narrow kind probe absent)
]

module _ (r : Record) (f : Function) (b : Bridge) (value : record_value r ≡ record_of f) (there : r.bridge ≡ Some b) where
  pub highest_is : (kind : WindowKind) → highest_by kind b.windows ≡ highest_in kind f.probe
  highest_is IoWindow = ap (λ w. if w then 0xffff_ffff else 0xffff) (ap (λ (x : decoded.Bridge). is_wide_in x.windows.io) (same_bridge_of r f b value there) ∙ wide_window IoWindow f.image f.probe)
  highest_is MemoryWindow = refl
  highest_is PrefetchWindow = ap (λ w. if w then 0xffff_ffff_ffff_ffff else 0xffff_ffff) (ap (λ (x : decoded.Bridge). is_wide_in x.windows.prefetch) (same_bridge_of r f b value there) ∙ wide_window PrefetchWindow f.image f.probe)
