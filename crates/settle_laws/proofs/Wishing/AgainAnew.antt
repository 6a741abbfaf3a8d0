-- Where all is placed anew, wishes come to the same beside what they came to.
use Rattle.settle_laws.proofs.Told.OnlyHeld.{held_of}
use Rattle.std.proofs.Common.{◌≡◌, ◌&&◌, false, cond, [], refl, sym, ◌∙◌, ap, Option, None, Some}
use Rattle.std.specs.Bool.{nat_lt, IsTrue}
use Rattle.std.specs.List.{Contains, list_any}
use Rattle.pci_spec.specs.Slot.{same_slot}
use Rattle.pci_spec.specs.Window.{WindowKind}
use Rattle.pci_spec.specs.System.{System, Function, Part}
use Rattle.plan_spec.specs.Place.{range_from}
use Rattle.settle_spec.specs.Lists.{Request, wanted_in}
use Rattle.settle_spec.specs.Spares.{spare_extent}
use Rattle.settle_spec.specs.Parts.{FunctionPart}
use Rattle.settle_spec.specs.Items.{Placed, highest_in, spare_of}
use Rattle.settle_spec.specs.Kept.{Kept, no_wish, unwished}
use Rattle.settle_spec.specs.Keeping.Places.{new_place}
use Rattle.settle_spec.specs.Keeping.Registers.{settled, settled_function}
use Rattle.settle_spec.specs.Wishes.{Granted, granted}
use Rattle.settle_laws.specs.KeptLaws.{WishesNothing}
use Rattle.settle_laws.specs.PlacesLaws.{place_range}
use Rattle.settle_laws.specs.SparingLaws.{AnewWishesAgain}
use Rattle.settle_laws.specs.Keeping.PlacesLaws.{CanSettle}
use Rattle.settle_laws.proofs.AlikePlaces.{IsAlikePlaced, new_places_alike}
use Rattle.settle_laws.proofs.Zipped.{BothOrNone}
use Rattle.settle_laws.proofs.Keeping.Again.{settled_alike, all_alike}
use Rattle.settle_laws.proofs.Keeping.Claimed.{bridge_stays}
use Rattle.settle_laws.proofs.Keeping.Ends.{unwished_end}
use Rattle.settle_laws.proofs.Keeping.InWindows.{placed_range}
use Rattle.settle_laws.proofs.Keeping.Kept.{none_kept}
use Rattle.settle_laws.proofs.Keeping.Wishless.{new_same}
use Rattle.settle_laws.proofs.Wishing.AgainGranted.{Match, IsSame, all_same}
use Rattle.settle_laws.proofs.Wishing.Granted.{all_granted, spare_is}

module _ (q asked : Request) (untold : q.told.ranges ≡ []) (s : System) (k m : Kept) (could : CanSettle q s k) (anew : IsTrue q.anew) (wishless : WishesNothing k) (without : WishesNothing m) (none : (r : FunctionPart) → m.stays r ≡ false) where
  abbrev g : Granted
  g = granted q s (spare_of asked) k

  abbrev t : System
  t = settled q s g.kept

  abbrev now : Function → Function
  now f = settled_function q s g.kept f

  pub can : CanSettle q s g.kept
  can = (all_granted q asked s k could).can

  beside : unwished g.kept ≡ unwished k
  beside = (all_granted q asked s k could).alike

  -- ---- before wishes

  alike_ranges : (o n : Option Placed) → BothOrNone IsAlikePlaced o n → place_range o ≡ place_range n
  alike_ranges None None both = refl
  alike_ranges None (Some y) both = absurd both
  alike_ranges (Some x) None both = absurd both
  alike_ranges (Some x) (Some y) both = (let at = both.at in let extent = both.item.extent in λ i. Some (range_from (at i) (extent i).size))

  pub again_placed : (f : Function) (p : Part) → Contains s f → BothOrNone IsAlikePlaced (new_place q s g.kept record { function = f; part = p }) (new_place q t m record { function = now f; part = p })
  again_placed f p listed =
      new_places_alike q anew s t (all_alike q s g.kept can) g.kept m (none_kept q (held_of q untold) s g.kept can anew) none record { function = f; part = p } record { function = now f; part = p } record { function = settled_alike q s g.kept can f listed; part = refl }

  first_match : Match q untold s g.kept can anew k m
  first_match = record {
    range = λ f p listed.
        let r : FunctionPart = record { function = f; part = p } in
        let u : FunctionPart = record { function = now f; part = p } in
        let moves : k.stays r ≡ false = ap (λ (x : Kept). x.stays r) (sym beside) ∙ none_kept q (held_of q untold) s g.kept can anew r in
        unwished_end q t m u (ap (λ wish. wish u) without) ∙ placed_range q t m u (none u)
        ∙ sym (alike_ranges (new_place q s g.kept r) (new_place q t m u) (again_placed f p listed))
        ∙ ap place_range (sym (new_same q s g.kept no_wish r) ∙ ap (λ x. new_place q s x r) beside ∙ new_same q s k no_wish r)
        ∙ sym (unwished_end q s k r (ap (λ wish. wish r) wishless) ∙ placed_range q s k r moves);
  }

  -- ---- with them

  spare_alike : (c : WindowKind) (b : Function) → Contains s b → spare_of asked c (now b) ≡ spare_of asked c b
  spare_alike c b listed = ap
      (λ bridge. cond (list_any (same_slot b.slot) asked.slots && bridge && nat_lt 0 (wanted_in asked.spares c)) (Some (spare_extent c (wanted_in asked.spares c) (highest_in c b.probe))) None)
      (bridge_stays q s g.kept can b listed)

  pub same : IsSame q untold s g.kept can anew g (granted q t (spare_of asked) m)
  same = all_same q untold s g.kept can anew (spare_of asked) (λ c b e at. (spare_is asked c b e at).bridge) spare_alike s (λ f has. has) (record { kept = k; denied = [] }) (record { kept = m; denied = [] }) record { kept = first_match; denied = refl }

-- The law: wishes come to the same.
pub anew_wishes_again : AnewWishesAgain
anew_wishes_again q asked untold s k m could anew wishless without none =
    let all = same q asked untold s k m could anew wishless without none in
    record { ranges = all.kept.range; denied = all.denied }
