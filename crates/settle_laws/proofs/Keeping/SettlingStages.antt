-- The writes of settling beside what is kept lead to the settled system in three stages.
use Rattle.std.proofs.Common.{◌≡◌, [], ◌∷◌, ◌++◌, refl, ap}
use Rattle.std.specs.List.{flat_map}
use Rattle.pci_spec.specs.System.{System}
use Rattle.settle_spec.specs.Lists.{Request}
use Rattle.settle_spec.specs.Kept.{Kept}
use Rattle.settle_spec.specs.Keeping.Registers.{settled_function}
use Rattle.settle_spec.specs.Keeping.Writes.{closed_function, closing_from, setting_from, opening_from, closings, settle_writes}
use Rattle.settle_laws.specs.Keeping.PlacesLaws.{CanSettle}
use Rattle.settle_laws.proofs.Stages.{AreStages, AreStates, all_closings, all_stages}
use Rattle.settle_laws.proofs.Keeping.ClosedMoves.{closed_moved, closed_rest, final_rest, windows}
use Rattle.settle_laws.proofs.Keeping.Moves.{moves}
use Rattle.settle_laws.proofs.Keeping.StillHeld.{held}
use Rattle.settle_laws.proofs.Keeping.StillShown.{was_on, ends_on, bar_rests, rom_rests}

pub are_states : (q : Request) (s : System) (k : Kept) → CanSettle q s k → AreStates s (closed_function q s k) (settled_function q s k)
are_states q s k can = record {
  closed_moved = closed_moved q s k can;
  final_moved = moves q s k can;
  closed_rest = closed_rest q s k can;
  final_rest = final_rest q s k can;
}

pub are_stages : (q : Request) (s : System) (k : Kept) → CanSettle q s k → AreStages s (closed_function q s k) (settled_function q s k)
are_stages q s k can = record {
  states = are_states q s k can;
  was_on = was_on q s k can;
  ends_on = ends_on q s k can;
  bar_rests = bar_rests q s k can;
  rom_rests = rom_rests q s k can;
  windows = windows q s k can;
  held = held q s k can;
}

module _ (q : Request) (s : System) (k : Kept) where
  pub closings_same : (t : System) → closings q s k t ≡ all_closings (closed_function q s k) (settled_function q s k) t
  closings_same [] = refl
  closings_same (f ∷ t) = ap (λ ws. ws ++ closing_from q s k f) (closings_same t)

  pub writes_same : settle_writes q s k ≡ all_stages (closed_function q s k) (settled_function q s k) s
  writes_same = ap (λ ws. ws ++ (flat_map (setting_from q s k) s ++ flat_map (opening_from q s k) s)) (closings_same s)
