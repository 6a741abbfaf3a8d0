-- Where all is placed anew and nothing is told, nothing stays.
use Rattle.std.proofs.Common.{◌≡◌, ◌||◌, ℕ, [], None, cond, ap, sym, ◌∙◌}
use Rattle.std.specs.Bool.{IsTrue}
use Rattle.pci_spec.specs.Window.{WindowKind, MemoryWindow, PrefetchWindow}
use Rattle.pci_spec.specs.System.{System}
use Rattle.pci_spec.specs.Bus.{is_root}
use Rattle.settle_spec.specs.Lists.{Request}
use Rattle.settle_spec.specs.Parts.{bridge_over}
use Rattle.settle_spec.specs.Items.{stays}
use Rattle.settle_spec.proofs.Anew.{none_stays}
use Rattle.pci_first_fit.specs.Kept.{AreKeptParts}
use Rattle.pci_first_fit.specs.Over.{open_range, class_window, AreOpenOver}
use Rattle.pci_first_fit.proofs.Tables.{none_noted}

module _ (q : Request) (s : System) (anew : IsTrue q.anew) where
  -- no table of windows or of what is kept is needed
  window_none : (kind : WindowKind) (bus : ℕ) → class_window q s kind bus ≡ None
  window_none kind bus = ap (λ b. cond (b || is_root q.roots bus) None (open_range kind (bridge_over s bus))) anew

  pub over_anew : AreOpenOver q s []
  over_anew f listed = record { memory = sym (window_none MemoryWindow f.slot.bus); prefetch = sym (window_none PrefetchWindow f.slot.bus) }

  pub kept_anew : q.told.ranges ≡ [] → AreKeptParts s (stays q s) []
  kept_anew untold k f part at there = none_noted part ∙ sym (none_stays q s anew untold (record { function = f; part = part }))
