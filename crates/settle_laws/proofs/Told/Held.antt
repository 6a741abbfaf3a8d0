-- Bridges above a told range that stands and stays hold it in windows of its class, which are kept: where they are on, they pass it.
use Rattle.std.proofs.Common.{◌≡◌, ◌&&◌, ℕ, true, not, arith, sym, ◌∙◌, ap, subst}
use Rattle.std.specs.List.{Contains, list_all}
use Rattle.std.proofs.lemmas.Bool.{and_parts, and_from}
use Rattle.pci_spec.specs.Window.{WindowKind, has_window, holds, is_closed}
use Rattle.pci_spec.specs.Decoded.{InRange}
use Rattle.pci_spec.specs.System.{System, Function, is_bridge, is_space_on, passes, window_space}
use Rattle.pci_spec.proofs.WindowLaws.{window_holds_its_pages}
use Rattle.plan_spec.specs.Plan.{bridges_above}
use Rattle.plan_spec.proofs.Planning.AboveBuses.{above_to}
use Rattle.plan_spec.proofs.Planning.Behind.{all_gives}
use Rattle.judge_spec.specs.ToldRegion.{ToldRegion}
use Rattle.settle_spec.specs.Lines.{line_bus, line_range}
use Rattle.settle_spec.specs.Lists.{Request}
use Rattle.settle_spec.specs.Parts.{addresses}
use Rattle.settle_spec.specs.Stands.{window_part, range_class, range_stands}
use Rattle.settle_spec.specs.Items.{range_stays}
use Rattle.settle_spec.specs.Kept.{Kept}
use Rattle.settle_spec.specs.Keeping.Registers.{settled_function}
use Rattle.settle_spec.specs.Keeping.Writes.{closed_function}
use Rattle.settle_spec.proofs.Reaching.{within_gives}
use Rattle.settle_laws.proofs.Standing.{part_of}
use Rattle.settle_laws.specs.Keeping.PlacesLaws.{CanSettle}
use Rattle.settle_laws.proofs.Keeping.ClosedImages.{staying_unreplaced}
use Rattle.settle_laws.proofs.Keeping.ClosedMoves.{kept_window}
use Rattle.settle_laws.proofs.Keeping.Moves.{moves}
use Rattle.settle_laws.proofs.SettledSound.{passes_by}
use Rattle.settle_laws.proofs.StageBounds.{holds_within, holds_out}
use Rattle.settle_laws.proofs.Stages.{IsKeptWindow, IsHeldBy}
use Rattle.settle_laws.proofs.Told.Reached.{IsAroundRange, range_above, range_space, range_prefetch}

module _ (q : Request) (s : System) (k : Kept) (can : CanSettle q s k) (x : ToldRegion) (stand : range_stands q s x ≡ true) (stays : range_stays q s k.stays x ≡ true) (b : Function) (above : Contains (bridges_above s (line_bus x)) b) where
  abbrev c : WindowKind
  c = range_class q s x

  abbrev closed : Function
  closed = closed_function q s k b

  abbrev final : Function
  final = settled_function q s k b

  in_b : Contains s b
  in_b = (above_to s (line_bus x) b above).listed

  bridge_b : is_bridge b ≡ true
  bridge_b = (above_to s (line_bus x) b above).bridge

  around : IsAroundRange q s can.system can.nested (line_range x) c b
  around = range_above q s can.system can.nested x stand b above

  keeps_window : k.stays (window_part c b) ≡ true
  keeps_window =
      all_gives (λ d. k.stays (window_part c d)) (bridges_above s (line_bus x)) b
      (and_parts (range_stands q s x) (list_all (λ d. k.stays (window_part c d)) (bridges_above s (line_bus x))) stays).1 above

  kept : IsKeptWindow b closed final c
  kept = kept_window q s k can b c in_b bridge_b (staying_unreplaced q s k b c keeps_window)

  window_there : has_window c b.probe ≡ true
  window_there =
      (and_parts (is_bridge b) (has_window c b.probe) (and_parts (is_bridge b && has_window c b.probe) (not (is_closed c b.image)) (part_of q s (window_part c b) around.listed).is).0).1

  module _ (a : ℕ) (in_range : InRange (line_range x) a) where
    holds_before : holds c b.image b.probe a ≡ true
    holds_before =
        let inside = within_gives (line_range x) (addresses (window_part c b)) around.within in
        let first = inside.first in
        let last = inside.last in
        let from = in_range.0 in
        let to = in_range.1 in
        (window_holds_its_pages c b.image b.probe a window_there).1 (omega (arith, first, from), omega (arith, last, to))

    holds_then : holds c final.image b.probe a ≡ true
    holds_then = holds_within c b.image final.image (holds_out c b.image final.image kept.final_out) b.probe a holds_before

    -- as long as the bridge is on it passes the range
    pub held_by : is_space_on closed x.told.space ≡ true → IsHeldBy b closed final x.told.prefetchable x.told.space a
    held_by on = record {
      class = c;
      at = range_space q s x;
      may = range_prefetch q s x;
      kept = kept;
      held = holds_before;
      on = on;
    }

    -- and so it does once settled
    pub passes_then : is_space_on final x.told.space ≡ true → passes x.told.space x.told.prefetchable a final ≡ true
    passes_then on =
        passes_by c x.told.space x.told.prefetchable a final (range_space q s x) (range_prefetch q s x)
        (and_from (is_space_on final (window_space c)) (holds c final.image final.probe a) (ap (is_space_on final) (range_space q s x) ∙ on)
        (subst (λ t. holds c final.image t a ≡ true) (sym (moves q s k can b in_b).probe) holds_then))
