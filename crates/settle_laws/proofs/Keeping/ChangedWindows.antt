-- Which windows change: none whose registers don't, and none that is open and whose registers do for room that is kept free alone.
use Rattle.std.proofs.Common.{◌≡◌, ◌&&◌, ◌||◌, true, false, not, ap}
use Rattle.std.proofs.lemmas.Bool.{and_parts, not-false, or_parts, eqb-true}
use Rattle.pci_spec.specs.Window.{WindowKind}
use Rattle.pci_spec.specs.System.{System, Function, Window, Part}
use Rattle.plan_spec.specs.Plan.{is_open}
use Rattle.settle_spec.specs.Lists.{Request}
use Rattle.settle_spec.specs.Kept.{Kept, unwished}
use Rattle.settle_spec.specs.Keeping.Writes.{changes_at, changes_window}
use Rattle.settle_laws.proofs.Held.{and_second_false}
use Rattle.std.specs.Bool.{◌==◌}
use Rattle.pci_spec.specs.Number.{number_at}
use Rattle.settle_spec.specs.Writes.{differs_at, part_registers}
use Rattle.settle_spec.specs.Keeping.Registers.{settled_function}
use Rattle.settle_laws.proofs.NonePasses.{none_passes}
use Rattle.settle_laws.proofs.Stages.{ShowsSame}

module _ (q : Request) (s : System) (k : Kept) where
  -- the registers of a part that doesn't change
  pub unchanged : (f : Function) (p : Part) → changes_at q s k f p ≡ false → ShowsSame f (settled_function q s k f) p
  unchanged f p none r has =
      let g = settled_function q s k f in
      eqb-true (number_at g.image r.0 r.1) (number_at f.image r.0 r.1)
      (not-false (number_at g.image r.0 r.1 == number_at f.image r.0 r.1) (none_passes (differs_at f g) (part_registers f p) none r has))

  pub window_changes : (c : WindowKind) (b : Function) → changes_window q s k c b ≡ true → changes_at q s k b (Window c) ≡ true
  window_changes c b changes = (and_parts (changes_at q s k b (Window c)) (not (is_open b c) || changes_at q s (unwished k) b (Window c)) changes).0

  pub no_window_changes : (c : WindowKind) (b : Function) → changes_at q s k b (Window c) ≡ false → changes_window q s k c b ≡ false
  no_window_changes c b none = ap (λ t. t && (not (is_open b c) || changes_at q s (unwished k) b (Window c))) none

  -- one whose registers change is open, and without wishes they don't
  pub for_wishes : (c : WindowKind) (b : Function) → changes_window q s k c b ≡ false → changes_at q s k b (Window c) ≡ true → (is_open b c ≡ true) × (changes_at q s (unwished k) b (Window c) ≡ false)
  for_wishes c b none changes =
      let more = or_parts (not (is_open b c)) (changes_at q s (unwished k) b (Window c)) (and_second_false (changes_at q s k b (Window c)) (not (is_open b c) || changes_at q s (unwished k) b (Window c)) changes none) in
      (not-false (is_open b c) more.0, more.1)
