-- What a new place beside what is kept is like: how large its part is, and by which address it ends.
use Rattle.std.proofs.Common.{◌≡◌, inl, inr, true, sym, ◌∙◌, ap, subst, Some}
use Rattle.std.specs.List.{Contains}
use Rattle.std.proofs.lemmas.Bool.{both_ways, cases_Bool}
use Rattle.pci_spec.specs.System.{System, Function, Part, has_part, is_window, space_of}
use Rattle.settle_spec.specs.Lists.{Request}
use Rattle.settle_spec.specs.Items.{PlacingItem, Placed, new_window}
use Rattle.settle_spec.specs.Places.{placed_of}
use Rattle.settle_spec.specs.Kept.{Kept}
use Rattle.settle_spec.specs.Keeping.Places.{taken_at, new_place}
use Rattle.settle_spec.proofs.LastSpot.{place_gives}
use Rattle.settle_laws.specs.Keeping.PlacesLaws.{CanSettle}
use Rattle.settle_laws.proofs.HeaderParts.{IsPart, part_cases}
use Rattle.settle_laws.proofs.ItemForms.{extent_by, own_by_part, header_has}
use Rattle.settle_laws.proofs.NewPlaces.{HasPlace}
use Rattle.settle_laws.proofs.Keeping.BusPlaced.{placed_bus}
use Rattle.settle_laws.proofs.Keeping.PartPlaces.{new_place_is as place_of_part}

pub there_by : (f : Function) (p : Part) → IsPart f p → has_part f p ≡ true
there_by f p part = elim (cases_Bool (is_window p)) [
  | inl window ↦ by_window window
  | inr plain ↦ header_has f p part.there plain
]
  where
    by_window : is_window p ≡ true → has_part f p ≡ true
    by_window window = elim (part_cases f p part.there) [
      | inl bar ↦ absurd (both_ways (is_window p) (sym (ap is_window bar.is)) window)
      | inr (inl w) ↦ subst (λ o. has_part f o ≡ true) w.is (part.bridge window)
      | inr (inr rom) ↦ absurd (both_ways (is_window p) (sym (ap is_window rom)) window)
    ]

module _ (q : Request) (s : System) (k : Kept) (can : CanSettle q s k) (f : Function) (listed : Contains s f) (part : Part) (is_part_of : IsPart f part) where
  pub new_place_is : (p : Placed) → new_place q s k record { function = f; part = part } ≡ Some p → HasPlace q s (space_of f part) f part p
  new_place_is p e =
      let is = place_of_part q s k can f part listed (there_by f part is_part_of) p e in
      let here = placed_bus q s k can (space_of f part) f listed in
      let own = here.are.each p (subst (λ xs. Contains xs p) (ap placed_of here.is) is.listed) in
      let at = place_gives own.0 (taken_at q s k (space_of f part) f.slot.bus) p.item.extent p.at own.2 in
      record {
        own = λ plain. own_by_part (new_window q s) f part plain ∙ ap (λ (i : PlacingItem). i.extent) (sym is.item);
        new = λ c window. ap (extent_by (new_window q s) f) window ∙ ap (λ (i : PlacingItem). i.extent) (sym is.item);
        multiple = at.multiple;
        low = at.highest;
      }
