-- Where parts end they are off lines, but where they stood on one that is off.
use Rattle.std.proofs.Common.{◌≡◌, Bool, inl, inr, true, ◌&&◌, not, sym, ◌∙◌, ap, subst, refl, Option, None, Some}
use Rattle.std.specs.List.{Contains, filter}
use Rattle.std.proofs.lemmas.Bool.{cases_Bool, and_from, and_parts, both_ways, not-true, not_from_false}
use Rattle.std.proofs.lemmas.List.Elements.{Contains-append_left}
use Rattle.pci_spec.specs.Decoded.{Range}
use Rattle.pci_spec.specs.Window.{WindowKind}
use Rattle.pci_spec.specs.Slot.{same_slot}
use Rattle.pci_spec.specs.System.{System, Function, Part, Bar, Rom, Window, has_part, is_bridge, space_of, window_space}
use Rattle.pci_spec.proofs.Members.{in_map_from, in_filter_from}
use Rattle.plan_spec.specs.Planning.Layout.{LieApart}
use Rattle.judge_spec.specs.ToldRegion.{ToldRegion, told_regions}
use Rattle.settle_spec.specs.FirstPlace.{ranges_are_apart, is_spot, ends_by}
use Rattle.settle_spec.specs.Lines.{line_range, is_held_line, is_line_of, can_keep_off, keeps_off, keeps_off_part, lines_on}
use Rattle.settle_spec.specs.Lists.{Request}
use Rattle.settle_spec.specs.Parts.{FunctionPart, system_parts, addresses}
use Rattle.settle_spec.specs.Stands.{part_space, window_part}
use Rattle.settle_spec.specs.Items.{Placed, taken_by}
use Rattle.settle_spec.specs.Places.{placed_of}
use Rattle.settle_spec.specs.Kept.{Kept}
use Rattle.settle_spec.specs.Keeping.Places.{taken_at, new_place}
use Rattle.settle_spec.specs.Keeping.Registers.{settled, settled_function}
use Rattle.settle_spec.specs.Wishes.{place_then}
use Rattle.settle_spec.proofs.Reaching.{ends_apart}
use Rattle.settle_spec.proofs.FirstSpot.{spot_gives}
use Rattle.settle_spec.proofs.ToldStanding.{stands_off_lines}
use Rattle.settle_laws.specs.StandingTold.Kept.{LinesAreForward}
use Rattle.settle_laws.specs.Keeping.PlacesLaws.{CanSettle, EndsAt}
use Rattle.settle_laws.specs.Told.OffLines.{StaysOnOff, StoodFirst}
use Rattle.settle_laws.proofs.Alike.{space_alike}
use Rattle.settle_laws.proofs.AllInPlace.{apart_from}
use Rattle.settle_laws.proofs.HeaderParts.{header_of}
use Rattle.settle_laws.proofs.Keeping.Again.{settled_alike}
use Rattle.settle_laws.proofs.Keeping.AgainParts.{IsSettledPart, settled_part, settled_end}
use Rattle.settle_laws.proofs.Keeping.BusPlaced.{placed_bus}
use Rattle.settle_laws.proofs.Keeping.Ends.{unwished_end, wished_end, no_plain_wish}
use Rattle.settle_laws.proofs.Keeping.InWindows.{kept_range, placed_range, place_of_range}
use Rattle.settle_laws.proofs.Keeping.Kept.{stays_listed}
use Rattle.settle_laws.proofs.Keeping.PartPlaces.{new_place_is}

none_some : {P : Type 0} (t : Range) → None ≡ Some t → P
none_some t e = absurd (let no : ⊥ = cc in no)

some_range : (t u : Range) → Some t ≡ Some u → t ≡ u
some_range t u e = cc

apart_swap : (r t : Range) → LieApart r t → LieApart t r
apart_swap r t (inl under) = inr under
apart_swap r t (inr over) = inl over

module _ (q : Request) (s : System) (k : Kept) (can : CanSettle q s k) where
  -- a new place is off all lines on its bus
  pub place_off_lines : (f : Function) (p : Part) (at : Placed) (x : ToldRegion) → Contains s f → has_part f p ≡ true → new_place q s k record { function = f; part = p } ≡ Some at
      → Contains (told_regions q.told) x → is_line_of q (space_of f p) f.slot.bus x ≡ true → LieApart (taken_by at.item at.at) (line_range x)
  place_off_lines f p at x listed there shown is_told line =
      let space = space_of f p in
      let bus = f.slot.bus in
      let b = placed_bus q s k can space f listed in
      let has : Contains b.placed at = subst (λ xs. Contains xs at) (ap placed_of b.is) (new_place_is q s k can f p listed there at shown).listed in
      let own = b.are.each at has in
      let taken : Contains (taken_at q s k space bus) (line_range x) = Contains-append_left (lines_on q space bus) _ (line_range x)
      (in_map_from line_range (filter (is_line_of q space bus) (told_regions q.told)) x (in_filter_from (is_line_of q space bus) (told_regions q.told) x is_told line)) in
      let spot = (and_parts (is_spot own.0.first (taken_at q s k space bus) at.item.extent at.at) (ends_by own.0 at.item.extent at.at) own.2).0 in
      (spot_gives own.0.first (taken_at q s k space bus) at.item.extent at.at spot).free (line_range x) taken

  -- so no line keeps it off
  never_placed_on : (f : Function) (p : Part) (at : Placed) (x : ToldRegion) → Contains s f → has_part f p ≡ true → new_place q s k record { function = f; part = p } ≡ Some at
      → Contains (told_regions q.told) x → keeps_off q x f.slot (space_of f p) (taken_by at.item at.at) ≡ true → ⊥
  never_placed_on f p at x listed there shown is_told keeps =
      let own = is_held_line x && same_slot x.told.slot f.slot in
      let line = is_line_of q (space_of f p) f.slot.bus x in
      let both = and_parts (can_keep_off q x f.slot (space_of f p)) (not (ranges_are_apart (line_range x) (taken_by at.item at.at))) keeps in
      let lie = place_off_lines f p at x listed there shown is_told (and_parts line (not own) both.0).0 in
      both_ways (ranges_are_apart (line_range x) (taken_by at.item at.at)) (not-true (ranges_are_apart (line_range x) (taken_by at.item at.at)) both.1)
      (apart_from (line_range x) (taken_by at.item at.at) (apart_swap (taken_by at.item at.at) (line_range x) lie))

  module _ (forward : LinesAreForward q) where
    -- a line that shares an address with what stays keeps it off where it is
    kept_off : (r : FunctionPart) (x : ToldRegion) → Contains (system_parts q s) r → k.stays r ≡ true → Contains (told_regions q.told) x → keeps_off q x r.function.slot (part_space r) (k.range r) ≡ true → keeps_off_part q x r ≡ true
    kept_off r x listed stay is_told keeps =
        let line = line_range x in
        let can_be = can_keep_off q x r.function.slot (part_space r) in
        let both = and_parts can_be (not (ranges_are_apart line (k.range r))) keeps in
        elim (cases_Bool (ranges_are_apart line (addresses r))) [
          | inr shares ↦ and_from can_be (not (ranges_are_apart line (addresses r))) both.0 (not_from_false (ranges_are_apart line (addresses r)) shares)
          | inl apart ↦
              let lie = can.sound.off r x listed stay is_told both.0 (forward x is_told) (apart_swap line (addresses r) (ends_apart line (addresses r) apart)) in
              absurd (both_ways (ranges_are_apart line (k.range r)) (not-true (ranges_are_apart line (k.range r)) both.1) (apart_from line (k.range r) (apart_swap (k.range r) line lie)))
        ]

    -- and one that shares an address with a window in which room is kept free does so with the window without it
    wishes_off : (c : WindowKind) (b : Function) (w : Range) (x : ToldRegion) → Contains s b → is_bridge b ≡ true → k.wished (window_part c b) ≡ Some w → Contains (told_regions q.told) x → keeps_off q x b.slot (window_space c) w ≡ true
        → (t : Range) × (place_then q s k (window_part c b) ≡ Some t) × (keeps_off q x b.slot (window_space c) t ≡ true)
    wishes_off c b w x listed bridge wished is_told keeps = by (place_then q s k (window_part c b)) refl
      where
        line : Range
        line = line_range x

        can_be : Bool
        can_be = can_keep_off q x b.slot (window_space c)

        both : (can_be ≡ true) × (not (ranges_are_apart line w) ≡ true)
        both = and_parts can_be (not (ranges_are_apart line w)) keeps

        apart_none : ((t : Range) → place_then q s k (window_part c b) ≡ Some t → LieApart t line) → ⊥
        apart_none all =
            let lie = (can.sound.wished.windows c b w listed bridge wished).off x is_told both.0 (forward x is_told) all in
            both_ways (ranges_are_apart line w) (not-true (ranges_are_apart line w) both.1) (apart_from line w (apart_swap w line lie))

        by : (o : Option Range) → place_then q s k (window_part c b) ≡ o → (t : Range) × (place_then q s k (window_part c b) ≡ Some t) × (keeps_off q x b.slot (window_space c) t ≡ true)
        by None none = absurd (apart_none (λ t placed. none_some t (sym none ∙ placed)))
        by (Some u) placed = elim (cases_Bool (ranges_are_apart line u)) [
          | inr shares ↦ (u, placed, and_from can_be (not (ranges_are_apart line u)) both.0 (not_from_false (ranges_are_apart line u) shares))
          | inl apart ↦ absurd (apart_none (λ t other. subst (λ v. LieApart v line) (some_range u t (sym placed ∙ other)) (apart_swap line u (ends_apart line u apart))))
        ]

    place_off : (f : Function) (p : Part) (t : Range) (x : ToldRegion) → Contains s f → has_part f p ≡ true → place_then q s k record { function = f; part = p } ≡ Some t
        → Contains (told_regions q.told) x → keeps_off q x f.slot (space_of f p) t ≡ true → StaysOnOff q s k record { function = f; part = p } x
    place_off f p t x listed there ends is_told keeps = elim (cases_Bool (k.stays r)) [
      | inl stay ↦
          let is : k.range r ≡ t = some_range (k.range r) t (sym (kept_range q s k r stay) ∙ ends) in
          let stand = can.sound.apart.stands r stay in
          let part = stays_listed q s k can f p listed (header_of f p there) stay in
          let shares = kept_off r x part stay is_told (subst (λ u. keeps_off q x f.slot (space_of f p) u ≡ true) (sym is) keeps) in
          let off = stands_off_lines q s r x stand is_told shares in
          record { off = off.0; stood = stand; first = off.1; shares = shares; stays = stay; listed = part }
      | inr moves ↦
          let at = place_of_range q s k (new_place q s k r) t (sym (placed_range q s k r moves) ∙ ends) in
          absurd (never_placed_on f p at.0 x listed there at.1 is_told (subst (λ u. keeps_off q x f.slot (space_of f p) u ≡ true) (sym at.2) keeps))
    ]
      where
        r : FunctionPart
        r = record { function = f; part = p }

    pub ends_off : (f : Function) (p : Part) (t : Range) (x : ToldRegion) → EndsAt q s k f p t → Contains (told_regions q.told) x → keeps_off q x f.slot (space_of f p) t ≡ true
        → StaysOnOff q s k record { function = f; part = p } x
    ends_off f p t x (listed, there, ends) is_told keeps = by (k.wished r) refl
      where
        r : FunctionPart
        r = record { function = f; part = p }

        by_wish : (p : Part) (w : Range) → has_part f p ≡ true → k.wished record { function = f; part = p } ≡ Some w → keeps_off q x f.slot (space_of f p) w ≡ true → StaysOnOff q s k record { function = f; part = p } x
        by_wish (Bar n) w has wished on = absurd (no_plain_wish q s k can f (Bar n) listed has refl w wished)
        by_wish Rom w has wished on = absurd (no_plain_wish q s k can f Rom listed has refl w wished)
        by_wish (Window c) w has wished on = (let own = wishes_off c f w x listed has wished is_told on in place_off f (Window c) own.0 x listed has own.1 is_told own.2)

        by : (o : Option Range) → k.wished r ≡ o → StaysOnOff q s k record { function = f; part = p } x
        by None unwished = place_off f p t x listed there (sym (unwished_end q s k r unwished) ∙ ends) is_told keeps
        by (Some w) wished =
            let is : w ≡ t = some_range w t (sym (wished_end q s k r w wished) ∙ ends) in
            by_wish p w there wished (subst (λ u. keeps_off q x f.slot (space_of f p) u ≡ true) (sym is) keeps)

    pub settled_off_lines : (r : FunctionPart) (x : ToldRegion) → Contains (system_parts q (settled q s k)) r → Contains (told_regions q.told) x → keeps_off_part q x r ≡ true
        → StoodFirst q s k r.function.slot r.part x
    settled_off_lines r x has is_told keeps =
        let is : IsSettledPart q s k can r = settled_part q s k can r has in
        let h = settled_end q s k can is.f is.p is.listed is.there is.part in
        let now = settled_function q s k is.f in
        let here : keeps_off q x is.f.slot (space_of now is.p) (addresses record { function = now; part = is.p }) ≡ true = subst (λ u. keeps_off_part q x u ≡ true) (sym is.is) keeps in
        let there : keeps_off q x is.f.slot (space_of is.f is.p) h.at ≡ true =
        subst (λ sp. keeps_off q x is.f.slot sp h.at ≡ true) (sym (space_alike is.f now (settled_alike q s k can is.f is.listed) is.p))
        (subst (λ u. keeps_off q x is.f.slot (space_of now is.p) u ≡ true) h.shown here) in
        let first = ends_off is.f is.p h.at x (is.listed, is.there, h.ends) is_told there in
        subst (λ (u : FunctionPart). StoodFirst q s k u.function.slot u.part x) is.is
        record { f = is.f; listed = is.listed; slot_is = refl; stood = first }
