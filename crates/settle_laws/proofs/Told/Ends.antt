-- Where a part ends is off each line that is on, or stands, where that can keep the part off.
use Rattle.std.proofs.Common.{◌≡◌, ◌||◌, ◌&&◌, ◌≤◌, not, true, inl, inr, refl, sym, ◌∙◌, ap, subst, Option, None, Some}
use Rattle.std.specs.List.{Contains}
use Rattle.std.proofs.lemmas.Bool.{and_parts, cases_Bool}
use Rattle.pci_spec.specs.Slot.{same_slot}
use Rattle.pci_spec.specs.Decoded.{Range}
use Rattle.pci_spec.specs.System.{System, Function, Part, Bar, Rom, Window, has_part, space_of}
use Rattle.plan_spec.specs.Planning.Layout.{LieApart}
use Rattle.judge_spec.specs.ToldRegion.{ToldRegion, told_regions}
use Rattle.settle_spec.specs.Lines.{line_range, is_held_line, is_line_of, can_keep_off}
use Rattle.settle_spec.specs.Lists.{Request}
use Rattle.settle_spec.specs.Parts.{FunctionPart}
use Rattle.settle_spec.specs.Stands.{is_line_on, range_stands}
use Rattle.settle_spec.specs.Items.{Placed, taken_by}
use Rattle.settle_spec.specs.Places.{placed_of}
use Rattle.settle_spec.specs.Kept.{Kept}
use Rattle.settle_spec.specs.Keeping.Places.{new_place}
use Rattle.settle_spec.specs.Wishes.{place_then}
use Rattle.settle_laws.specs.Keeping.PlacesLaws.{CanSettle, end_range}
use Rattle.settle_laws.proofs.HeaderParts.{header_of}
use Rattle.settle_laws.proofs.KeptTaken.{there_line}
use Rattle.settle_laws.proofs.Keeping.BusPlaced.{placed_bus}
use Rattle.settle_laws.proofs.Keeping.Ends.{unwished_end, wished_end, no_plain_wish}
use Rattle.settle_laws.proofs.Keeping.InWindows.{kept_range, placed_range, place_of_range}
use Rattle.settle_laws.proofs.Keeping.Kept.{stays_stands, stays_listed}
use Rattle.settle_laws.proofs.Keeping.PartPlaces.{new_place_is}
use Rattle.settle_laws.proofs.Keeping.PlacedBus.{off_taken}
use Rattle.settle_laws.proofs.Told.Behind.{line_on}
use Rattle.settle_laws.proofs.Told.OffStanding.{stand_off_line}

module _ (q : Request) (s : System) (k : Kept) (can : CanSettle q s k) (x : ToldRegion) (told : Contains (told_regions q.told) x) (forward : x.told.first ≤ x.told.last)
    (counts : (is_line_on q s x || range_stands q s x) ≡ true) (f : Function) (listed : Contains s f) where
  -- what stays
  kept_off : (p : Part) → has_part f p ≡ true → can_keep_off q x f.slot (space_of f p) ≡ true → k.stays record { function = f; part = p } ≡ true → LieApart (k.range record { function = f; part = p }) (line_range x)
  kept_off p there can_be keeps =
      let r : FunctionPart = record { function = f; part = p } in
      let in_r = stays_listed q s k can f p listed (header_of f p there) keeps in
      can.sound.off r x in_r keeps told can_be forward (stand_off_line q s r x in_r (stays_stands q s k can r keeps) told can_be counts)

  -- what is placed is off all lines on its bus
  placed_off : (p : Part) → has_part f p ≡ true → can_keep_off q x f.slot (space_of f p) ≡ true → (y : Placed) → new_place q s k record { function = f; part = p } ≡ Some y → LieApart (taken_by y.item y.at) (line_range x)
  placed_off p there can_be y shown =
      let space = space_of f p in
      let bus = placed_bus q s k can space f listed in
      let has : Contains bus.placed y = subst (λ ps. Contains ps y) (ap placed_of bus.is) (new_place_is q s k can f p listed there y shown).listed in
      let on = (and_parts (is_line_of q space f.slot.bus x) (not (is_held_line x && same_slot x.told.slot f.slot)) can_be).0 in
      off_taken q s k can space f.slot.bus bus y (line_range x) has (there_line q s k space f.slot.bus (line_range x) (line_on q space f.slot.bus x told on))

  place_off : (p : Part) → has_part f p ≡ true → can_keep_off q x f.slot (space_of f p) ≡ true → (t : Range) → place_then q s k record { function = f; part = p } ≡ Some t → LieApart t (line_range x)
  place_off p there can_be t placed =
      let r : FunctionPart = record { function = f; part = p } in
      elim (cases_Bool (k.stays r)) [
        | inl keeps ↦
            let is : Some (k.range r) ≡ Some t = sym (kept_range q s k r keeps) ∙ placed in
            let same : k.range r ≡ t = cc in
            subst (λ v. LieApart v (line_range x)) same (kept_off p there can_be keeps)
        | inr moves ↦
            let y = place_of_range q s k (new_place q s k r) t (sym (placed_range q s k r moves) ∙ placed) in
            subst (λ v. LieApart v (line_range x)) y.2 (placed_off p there can_be y.0 y.1)
      ]

  -- The law: where a part ends is off it.
  pub end_off : (p : Part) → has_part f p ≡ true → can_keep_off q x f.slot (space_of f p) ≡ true → (t : Range) → end_range q s k record { function = f; part = p } ≡ Some t → LieApart t (line_range x)
  end_off p there can_be t ends = by (k.wished r) refl
    where
      r : FunctionPart
      r = record { function = f; part = p }

      wished_off : (p : Part) → has_part f p ≡ true → can_keep_off q x f.slot (space_of f p) ≡ true → (w : Range) → k.wished record { function = f; part = p } ≡ Some w → LieApart w (line_range x)
      wished_off (Bar n) there can_be w wished = absurd (no_plain_wish q s k can f (Bar n) listed there refl w wished)
      wished_off Rom there can_be w wished = absurd (no_plain_wish q s k can f Rom listed there refl w wished)
      wished_off (Window c) there can_be w wished = (can.sound.wished.windows c f w listed there wished).off x told can_be forward (λ u placed. place_off (Window c) there can_be u placed)

      by : (o : Option Range) → k.wished r ≡ o → LieApart t (line_range x)
      by None none = place_off p there can_be t (sym (unwished_end q s k r none) ∙ ends)
      by (Some w) wished =
          let is : Some w ≡ Some t = sym (wished_end q s k r w wished) ∙ ends in
          let same : w ≡ t = cc in
          subst (λ v. LieApart v (line_range x)) same (wished_off p there can_be w wished)
