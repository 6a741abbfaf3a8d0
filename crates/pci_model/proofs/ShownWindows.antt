-- Windows that are taken as those that they show, one after another.
use Rattle.std.proofs.Common.{◌≡◌, ℕ, List, true, Some, sym, ◌∙◌, ap}
use Rattle.std.specs.Bool.{if◌then◌else◌}
use Rattle.std.proofs.lemmas.Bool.{and_from}
use Rattle.pci_spec.specs.Window.{WindowKind, IoWindow, MemoryWindow, PrefetchWindow, bounds_at, breaks_window_rule}
use Rattle.pci_spec.specs.Derived.{bounds_of_nibble}
use Rattle.pci_spec.specs.System.{Function, is_bridge}
use Rattle.judge_spec.specs.ModelWords.{Words}
use Rattle.judge_spec.specs.Windows.{image_with_window, shown_nibble, window_as_shown, windows_as_shown, with_bounds, with_nibble}
use Rattle.judge_spec.specs.Taken.{windows_aside}

pub one_shown : (kind : WindowKind) (f : Function) (n : ℕ) → breaks_window_rule kind f.image f.probe ≡ true → shown_nibble kind (bounds_at kind f.image) ≡ Some n
    → (image probe : List ℕ) → image ≡ image_with_window kind n f → probe ≡ with_bounds kind (bounds_of_nibble kind n) f.probe
    → record { slot = f.slot; image = image; probe = probe } ≡ window_as_shown kind f
one_shown kind f n breaks found image probe image_is probe_is =
    (λ i. record { slot = f.slot; image = image_is i; probe = probe_is i })
    ∙ sym (ap (λ o. with_nibble kind o f) found)
    ∙ sym (ap (λ b. if b then with_nibble kind (shown_nibble kind (bounds_at kind f.image)) f else f) breaks)

pub three_shown : (f a b c : Function) → a ≡ window_as_shown IoWindow f → b ≡ window_as_shown MemoryWindow a → c ≡ window_as_shown PrefetchWindow b → c ≡ windows_as_shown f
three_shown f a b c a_is b_is c_is =
    c_is ∙ ap (window_as_shown PrefetchWindow) b_is ∙ ap (λ x. window_as_shown PrefetchWindow (window_as_shown MemoryWindow x)) a_is

pub counted : (w : Words) (f g : Function) → w.windows ≡ true → is_bridge f ≡ true → g ≡ windows_as_shown f → g ≡ windows_aside w f
counted w f g counts bridge is = is ∙ sym (ap (λ b. if b then windows_as_shown f else f) (and_from w.windows (is_bridge f) counts bridge))
