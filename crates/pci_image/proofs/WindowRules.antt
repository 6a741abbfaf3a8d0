-- Windows as the definitions decode them hold what the comparators hold.
use Rattle.std.proofs.Common.{◌≡◌, ◌↔◌, ℕ, ◌≤◌, List, refl, Bool, true, false, ◌&&◌, ◌||◌, inl, inr, arith, sym, ◌∙◌, subst, Option, Some, None, IsTrue}
use Rattle.std.specs.Bool.{nat_eq}
use Rattle.std.proofs.lemmas.Bool.{cases_Bool, and_left, not_from_false, ne_eqb, eqb-true, both_ways}
use Rattle.pci_spec.specs.Window.{WindowKind, IoWindow, MemoryWindow, PrefetchWindow, has_window, holds, bounds_at, breaks_window_rule, is_lawful_window, shows_window}
use Rattle.pci_spec.specs.Decoded.{DecodedWindow, decoded_window, optional_window}
use Rattle.pci_spec.proofs.Ranges.{window_range-holds, absent_window}
use Rattle.pci_image.specs.declared.fault.ImageFault.{ImageFault}
use Rattle.pci_image.specs.declared.fault.ImageFault.TheVariants.{NoVendor, HeaderKind, WindowMask}
use Rattle.pci_image.specs.Faults.{image_fault_number}
use Rattle.pci_image.specs.Windows.{IsInWindow, IsLowestWindowFault}

-- a window that is there holds its range
pub in_window-holds : (kind : WindowKind) (image probe : List ℕ) → has_window kind probe ≡ true
    → (a : ℕ) → IsInWindow (Some (decoded_window kind image probe)) a ↔ IsTrue (holds kind image probe a)
in_window-holds kind image probe there a = window_range-holds kind image probe there a

-- a window that may be absent holds its range
pub in_optional-holds : (kind : WindowKind) (image probe : List ℕ) (w : Option DecodedWindow) → w ≡ optional_window kind image probe
    → (a : ℕ) → IsInWindow w a ↔ IsTrue (holds kind image probe a)
in_optional-holds kind image probe w is a = elim (cases_Bool (has_window kind probe)) [
  | inl there ↦
      let e : optional_window kind image probe ≡ Some (decoded_window kind image probe) = rw there refl in
      subst (λ v. IsInWindow v a ↔ IsTrue (holds kind image probe a)) (sym (is ∙ e)) (window_range-holds kind image probe there a)
  | inr absent ↦
      let e : optional_window kind image probe ≡ None = rw absent refl in
      subst (λ v. IsInWindow v a ↔ IsTrue (holds kind image probe a)) (sym (is ∙ e)) (
        (λ none. absurd none),
        (λ h. both_ways (holds kind image probe a) (absent_window kind image probe a absent) h),
      )
]

-- the first of the tests of a read back
first_test : (a b c d e : Bool) → (a && b && c && d && e || false) ≡ true → a ≡ true
first_test true b c d e h = refl
first_test false b c d e h = cc

-- a memory window that is lawful is there
pub has_memory_window : (image probe : List ℕ) → IsTrue (shows_window MemoryWindow (bounds_at MemoryWindow image) (bounds_at MemoryWindow probe))
    → has_window MemoryWindow probe ≡ true
has_memory_window image probe h =
    let base = (bounds_at MemoryWindow probe).base in
    let is : base ≡ 0xfff0 = eqb-true _ _ (first_test (nat_eq base 0xfff0) _ _ _ _ h) in
    not_from_false _ (and_left _ _ (and_left _ _ (and_left _ _ (ne_eqb base 0 (λ none. omega (arith, is, none))))))

-- ---- the lowest window that breaks its rule

-- the first of the three has none below it
pub io_window-lowest : (image probe : List ℕ) → IsLowestWindowFault image probe (WindowMask 0x1c)
io_window-lowest image probe IoWindow less = absurd (let no : ⊥ = omega (arith, less) in no)
io_window-lowest image probe MemoryWindow less = absurd (let no : ⊥ = omega (arith, less) in no)
io_window-lowest image probe PrefetchWindow less = absurd (let no : ⊥ = omega (arith, less) in no)

pub memory_window-lowest : (image probe : List ℕ) → breaks_window_rule IoWindow image probe ≡ false → IsLowestWindowFault image probe (WindowMask 0x20)
memory_window-lowest image probe io IoWindow less = io
memory_window-lowest image probe io MemoryWindow less = absurd (let no : ⊥ = omega (arith, less) in no)
memory_window-lowest image probe io PrefetchWindow less = absurd (let no : ⊥ = omega (arith, less) in no)

pub prefetch_window-lowest : (image probe : List ℕ) → breaks_window_rule IoWindow image probe ≡ false
    → shows_window MemoryWindow (bounds_at MemoryWindow image) (bounds_at MemoryWindow probe) ≡ true → IsLowestWindowFault image probe (WindowMask 0x24)
prefetch_window-lowest image probe io memory IoWindow less = io
prefetch_window-lowest image probe io memory MemoryWindow less = elim (cases_Bool (is_lawful_window MemoryWindow 0 (bounds_at MemoryWindow image) (bounds_at MemoryWindow probe))) [
  | inl lawful ↦ rw lawful refl
  | inr broken ↦ absurd (let no : ⊥ = both_ways false refl (rw broken at memory) in no)
]
prefetch_window-lowest image probe io memory PrefetchWindow less = absurd (let no : ⊥ = omega (arith, less) in no)

-- a fault of the header is of no window
pub header_fault-no_window : (image probe : List ℕ) (fault : ImageFault) → image_fault_number fault ≤ 21 → IsLowestWindowFault image probe fault
header_fault-no_window image probe NoVendor low = tt
header_fault-no_window image probe HeaderKind low = tt
header_fault-no_window image probe _ low = absurd (let no : ⊥ = omega (arith, low) in no)
