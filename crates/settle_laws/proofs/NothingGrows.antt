-- Where all is placed anew nothing stays and no window grows, so settling is beside what stays as it stands.
use Rattle.settle_laws.specs.ToldAgainLaws.{AllLinesAreHeld}
use Rattle.std.proofs.Common.{◌≡◌, ◌&&◌, List, false, length, ap, sym, ◌∙◌, refl, None}
use Rattle.std.specs.Bool.{IsTrue, if◌then◌else◌}
use Rattle.std.specs.List.{list_all}
use Rattle.std.proofs.Math.Path.{fun_ext}
use Rattle.std.proofs.lemmas.Bool.{both_ways, false_from_ne_true}
use Rattle.pci_spec.specs.Decoded.{Range}
use Rattle.pci_spec.specs.System.{System, Function, Part, Bar, Rom, Window}
use Rattle.plan_spec.specs.Plan.{bridges_above}
use Rattle.settle_spec.specs.Lists.{Request}
use Rattle.settle_spec.specs.Parts.{FunctionPart, system_parts, addresses, class_in}
use Rattle.settle_spec.specs.Stands.{window_part, stands}
use Rattle.settle_spec.specs.Items.{PlacingItem, stays, place_in}
use Rattle.settle_spec.specs.Places.{placed_of, place_among}
use Rattle.settle_spec.specs.Growth.{taken_around, window_comes_to, part_comes_to, is_clear, takes_growth, there, comes_to, has_grown}
use Rattle.settle_spec.specs.Writes.{Settling, BadLists, Fixed, NoRoom, Settled, NotKept}
use Rattle.settle_spec.specs.Kept.{no_wish, as_it_stands, stays_growing, range_or, range_growing, address_of_placed, place_growing, growing}
use Rattle.settle_spec.specs.Keeping.Writes.{settle_keeping}
use Rattle.settle_spec.specs.Growing.{or_else, settle_growing}
use Rattle.settle_laws.proofs.Told.OnlyHeld.{held_of, none_stands, none_stays}
use Rattle.settle_laws.proofs.GrowingKept.{growing_stands}
use Rattle.settle_laws.specs.GrowingLaws.{AnewNothingGrows}

module _ (q : Request) (held : AllLinesAreHeld q) (s : System) (anew : IsTrue q.anew) where
  none_come : (f : Function) (p : Part) → part_comes_to q s (there q s) f p ≡ None
  none_come f (Bar n) = refl
  none_come f Rom = refl
  none_come f (Window c) = ap (λ b. if b then window_comes_to q s (there q s) c f else None) (none_stands q s anew held (length (system_parts q s)) (window_part c f))

  none_takes : (r : FunctionPart) → takes_growth q s r ≡ false
  none_takes r = ap (is_clear q s (there q s) r) (none_come r.function r.part)

  none_grows : (r : FunctionPart) → has_grown q s r ≡ false
  none_grows r = ap (λ b. b && list_all (λ b. takes_growth q s (window_part (class_in q s r.function r.part) b)) (bridges_above s r.function.slot.bus)) (none_takes r)

  same_stays : (r : FunctionPart) → stays_growing q s r ≡ stays q s r
  same_stays r =
      false_from_ne_true (stays_growing q s r) (λ is. both_ways (stands q s r) (none_stands q s anew held (length (system_parts q s)) r) (growing_stands q s r is))
      ∙ sym (none_stays q s anew held r)

  same_range : (r : FunctionPart) → range_growing q s r ≡ addresses r
  same_range r = ap (λ b. if b then range_or (comes_to q s r) (addresses r) else addresses r) (none_grows r)

  same_place : (b : Function) (i : PlacingItem) (taken : List Range) → place_growing q s b i taken ≡ place_in (addresses (window_part i.class b)) i taken
  same_place b i taken = ap (λ g. if g then address_of_placed (place_among i.region (placed_of (taken_around q s (there q s) i.class b))) else place_in (addresses (window_part i.class b)) i taken) (none_grows (window_part i.class b))

  -- the same is kept
  pub growing_is_standing : growing q s ≡ as_it_stands q s
  growing_is_standing =
      ap (λ x. record { stays = x; range = range_growing q s; place = place_growing q s; wished = no_wish }) (fun_ext same_stays)
      ∙ ap (λ x. record { stays = stays q s; range = x; place = place_growing q s; wished = no_wish }) (fun_ext same_range)
      ∙ ap (λ x. record { stays = stays q s; range = addresses; place = x; wished = no_wish }) (fun_ext (λ b. fun_ext (λ i. fun_ext (same_place b i))))

itself : (o : Settling) → or_else o o ≡ o
itself (Settled writes) = refl
itself BadLists = refl
itself (Fixed slot register) = refl
itself (NoRoom class slot register size alignment) = refl
itself (NotKept slot register) = refl

pub held_nothing_grows : (q : Request) → AllLinesAreHeld q → (s : System) → IsTrue q.anew → settle_growing q s ≡ settle_keeping q s (as_it_stands q s)
held_nothing_grows q held s anew =
    ap (λ k. or_else (settle_keeping q s k) (settle_keeping q s (as_it_stands q s))) (growing_is_standing q held s anew)
    ∙ itself (settle_keeping q s (as_it_stands q s))

-- The law: no window grows.
pub anew_nothing_grows : AnewNothingGrows
anew_nothing_grows q untold s anew = held_nothing_grows q (held_of q untold) s anew
