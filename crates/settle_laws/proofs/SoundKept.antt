-- What stays, as it stands or where windows grow, is kept soundly.
use Rattle.std.proofs.Common.{◌≡◌, ◌&&◌, ◌≤◌, Bool, true, false, arith, ap, ◌∙◌, refl}
use Rattle.std.specs.List.{Contains}
use Rattle.pci_spec.specs.Window.{WindowKind}
use Rattle.pci_spec.specs.System.{System, Function, IsSystem}
use Rattle.pci_spec.specs.Bus.{IsNested}
use Rattle.pci_spec.specs.Sound.{IsInProfile}
use Rattle.settle_spec.specs.Lists.{Request}
use Rattle.settle_spec.specs.Parts.{FunctionPart, system_parts, addresses}
use Rattle.settle_spec.specs.Stands.{part_space, window_part, stands}
use Rattle.settle_spec.specs.Items.{has_room_behind, stays, place_in}
use Rattle.settle_spec.specs.Kept.{stays_growing, range_growing, as_it_stands, growing}
use Rattle.settle_spec.proofs.Grown.{growth_holds_all, only_windows_grow}
use Rattle.plan_spec.specs.Planning.Layout.{LieApart}
use Rattle.judge_spec.specs.ToldRegion.{ToldRegion, told_regions}
use Rattle.settle_spec.specs.Lines.{line_range, can_keep_off}
use Rattle.settle_spec.proofs.Reaching.{within_from, window_first, window_last}
use Rattle.settle_laws.specs.Reach.{WindowsAreLow}
use Rattle.settle_laws.proofs.GrowingKept.{growing_kept}
use Rattle.settle_laws.proofs.StandingTold.Kept.{grown_off}
use Rattle.settle_laws.proofs.StandingKept.{standing_kept}
use Rattle.settle_laws.specs.KeptLaws.{IsGrown, IsSoundKept}
use Rattle.settle_laws.proofs.AllInPlace.{apart_from}
use Rattle.settle_laws.proofs.GrowingPlaces.{growing_places, growing_grown}
use Rattle.settle_laws.proofs.Kept.{lie_apart, stays_holds, stays_over}
use Rattle.settle_laws.proofs.Keeping.Wishless.{none_wished}
use Rattle.settle_laws.proofs.LowWindows.{windows_low}
use Rattle.settle_laws.proofs.KeptTaken.{items_aligned, on_bus, standing_places}

module _ (q : Request) (s : System) (system : IsSystem s) (nested : IsNested q.roots s) (profile : IsInProfile q.roots s) where
  low : WindowsAreLow q s
  low = windows_low q s system nested profile

  as_it_was : (c : WindowKind) (b : Function) → Contains s b → stands q s (window_part c b) ≡ true → IsGrown c b (addresses (window_part c b))
  as_it_was c b listed stand = record {
    first = window_first c b;
    last = window_last c b;
    low = low c b listed stand;
    outward = λ n. record { base = omega arith; limit = omega arith; base_upper = omega arith; limit_upper = omega arith };
  }

  pub standing_is_sound : IsSoundKept q s (as_it_stands q s)
  standing_is_sound = record {
    apart = standing_kept q s system nested;
    holds = λ r. within_from (addresses r) (addresses r) (record { first = omega arith; last = omega arith });
    plain = λ r is. refl;
    grown = λ c b listed bridge keeps. as_it_was c b listed ((standing_kept q s system nested).stands (window_part c b) keeps);
    places = λ c b taken listed bridge keeps to back.
        standing_places q s (as_it_stands q s) system nested b listed bridge (standing_kept q s system nested) c keeps refl (stays_holds q s (window_part c b) keeps)
        (λ t in_t there beside class.
        stays_over q s system nested b listed bridge t in_t (on_bus q s (as_it_stands q s) system nested b listed bridge t.function.slot.bus beside)
        ∙ ap (λ d. has_room_behind q s t && stays q s (window_part d b)) class ∙ ap (λ x. has_room_behind q s t && x) keeps ∙ and_true (has_room_behind q s t))
        (λ t beside class is. refl)
        (λ i xs class. ap (λ d. place_in (addresses (window_part d b)) i xs) class)
        taken to back;
    off = λ r x listed keeps told can_be forward apart. apart;
    wished = none_wished q s (as_it_stands q s) refl;
  }
    where
      and_true : (x : Bool) → (x && true) ≡ x
      and_true true = refl
      and_true false = refl

  -- what a window comes to is off lines, where it is off them itself
  growing_off : (r : FunctionPart) (x : ToldRegion) → Contains (system_parts q s) r → stays_growing q s r ≡ true → Contains (told_regions q.told) x → can_keep_off q x r.function.slot (part_space r) ≡ true → x.told.first ≤ x.told.last
      → LieApart (addresses r) (line_range x) → LieApart (range_growing q s r) (line_range x)
  growing_off r x listed keeps told can_be forward apart =
      lie_apart (range_growing q s r) (line_range x) (grown_off q s system nested low (items_aligned q s (growing q s)) x told forward r listed can_be (apart_from (addresses r) (line_range x) apart))

  pub growing_is_sound : IsSoundKept q s (growing q s)
  growing_is_sound = record {
    apart = growing_kept q s system nested low (items_aligned q s (growing q s));
    holds = growth_holds_all q s;
    plain = only_windows_grow q s;
    grown = growing_grown q s system nested low;
    places = growing_places q s system nested low;
    off = growing_off;
    wished = none_wished q s (growing q s) refl;
  }
