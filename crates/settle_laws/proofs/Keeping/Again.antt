-- What is settled is alike to what it was, so where all is placed anew everything gets the place that it got.
use Rattle.settle_laws.specs.ToldAgainLaws.{AllLinesAreHeld}
use Rattle.std.proofs.Common.{◌≡◌, refl, sym, ◌∙◌, Option, None, Some, ap}
use Rattle.std.specs.Bool.{IsTrue}
use Rattle.std.specs.List.{AllZip, Contains}
use Rattle.pci_spec.specs.System.{System, Function, Part}
use Rattle.plan_spec.specs.Place.{range_from}
use Rattle.plan_spec.proofs.Planning.Moved.{secondary_same, subordinate_same}
use Rattle.plan_spec.proofs.Planning.OtherRules.{has_rom_same}
use Rattle.settle_spec.specs.Lists.{Request}
use Rattle.settle_spec.specs.Items.{Placed}
use Rattle.settle_spec.specs.Parts.{FunctionPart}
use Rattle.settle_spec.specs.Kept.{Kept, as_it_stands}
use Rattle.settle_spec.specs.Keeping.Places.{new_place, lacking}
use Rattle.settle_spec.specs.Keeping.Registers.{settled, settled_function}
use Rattle.settle_laws.proofs.Told.OnlyHeld.{none_stays}
use Rattle.settle_laws.specs.PlacesLaws.{place_range}
use Rattle.settle_laws.specs.Keeping.PlacesLaws.{CanSettle, end_range}
use Rattle.settle_laws.proofs.Alike.{IsAlike}
use Rattle.settle_laws.proofs.AlikePlaces.{IsAlikePlaced, new_places_alike, none_lacks}
use Rattle.settle_laws.proofs.KeptAside.{each_by}
use Rattle.settle_laws.proofs.Zipped.{BothOrNone}
use Rattle.settle_laws.proofs.Keeping.Claimed.{rom_switch}
use Rattle.settle_laws.proofs.Keeping.Fits.{was}
use Rattle.settle_laws.specs.KeptLaws.{WishesNothing}
use Rattle.settle_laws.proofs.Keeping.Ends.{unwished_end}
use Rattle.settle_laws.proofs.Keeping.InWindows.{placed_range}
use Rattle.settle_laws.proofs.Keeping.Kept.{none_kept}
use Rattle.settle_laws.proofs.Keeping.Moves.{moves}
use Rattle.settle_laws.proofs.Keeping.SettledMoved.{kind_stays}

module _ (q : Request) (s : System) (k : Kept) (can : CanSettle q s k) where
  pub settled_alike : (f : Function) → Contains s f → IsAlike f (settled_function q s k f)
  settled_alike f listed =
      let g = settled_function q s k f in
      let moved = moves q s k can f listed in
      let image = (was q s k can f listed).image in
      record {
        slot = refl;
        probe = refl;
        kind = sym (kind_stays q s k can f listed);
        secondary = λ bridge. sym (secondary_same f g moved image bridge);
        subordinate = λ bridge. sym (subordinate_same f g moved image bridge);
        rom = sym (has_rom_same f g moved image);
        on = sym (rom_switch q s k can f listed);
      }

  pub all_alike : AllZip IsAlike s (settled q s k)
  all_alike = each_by IsAlike (settled_function q s k) s settled_alike

module _ (q : Request) (held : AllLinesAreHeld q) (s : System) (k : Kept) (can : CanSettle q s k) (anew : IsTrue q.anew) where
  abbrev t : System
  t = settled q s k

  abbrev j : Kept
  j = as_it_stands q t

  pub room_again : lacking q t j ≡ None
  room_again = none_lacks q anew s t (all_alike q s k can) k j (none_kept q held s k can anew) (none_stays q t anew held) can.room

  -- the places of a part before and again
  pub again_alike : (f : Function) (p : Part) → Contains s f → BothOrNone IsAlikePlaced (new_place q s k record { function = f; part = p }) (new_place q t j record { function = settled_function q s k f; part = p })
  again_alike f p listed =
      new_places_alike q anew s t (all_alike q s k can) k j (none_kept q held s k can anew) (none_stays q t anew held) record { function = f; part = p } record { function = settled_function q s k f; part = p } record { function = settled_alike q s k can f listed; part = refl }

  -- so it ends where it ended
  pub ends_again : WishesNothing k → (f : Function) (p : Part) → Contains s f → end_range q t j record { function = settled_function q s k f; part = p } ≡ end_range q s k record { function = f; part = p }
  ends_again wishless f p listed =
      let r : FunctionPart = record { function = f; part = p } in
      let u : FunctionPart = record { function = settled_function q s k f; part = p } in
      placed_range q t j u (none_stays q t anew held u)
      ∙ sym (by (new_place q s k r) (new_place q t j u) (again_alike f p listed))
      ∙ sym (unwished_end q s k r (ap (λ wish. wish r) wishless) ∙ placed_range q s k r (none_kept q held s k can anew r))
    where
      by : (o n : Option Placed) → BothOrNone IsAlikePlaced o n → place_range o ≡ place_range n
      by None None both = refl
      by None (Some y) both = absurd both
      by (Some x) None both = absurd both
      by (Some x) (Some y) both = (let at = both.at in let extent = both.item.extent in λ i. Some (range_from (at i) (extent i).size))
