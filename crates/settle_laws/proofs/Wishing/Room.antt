-- In the result a window has room for each spare that isn't denied, and what stays has all that it had.
use Rattle.std.proofs.Common.{◌≡◌, ◌&&◌, ℕ, ◌<◌, inl, inr, List, [], ◌∷◌, ◌++◌, Bool, true, false, cond, refl, sym, ◌∙◌, ap, subst, Option, None, Some}
use Rattle.std.specs.List.{Contains}
use Rattle.std.specs.Option.{is_some}
use Rattle.std.proofs.lemmas.Bool.{and_from, and_parts, both_ways, cond_both}
use Rattle.std.proofs.lemmas.List.Elements.{Contains-append_cases}
use Rattle.pci_spec.specs.Decoded.{Range}
use Rattle.pci_spec.specs.Window.{WindowKind, has_window}
use Rattle.pci_spec.specs.System.{System, Function, Part, Bar, Rom, Window, has_part, is_bridge, is_window, space_of, window_space}
use Rattle.pci_spec.specs.Bus.{secondary, are_siblings}
use Rattle.pci_spec.proofs.Members.{in_nil, in_cons_cases, IsInPiece, in_flat_map_to}
use Rattle.plan_spec.specs.Plan.{is_open}
use Rattle.plan_spec.specs.Place.{range_from}
use Rattle.plan_spec.specs.Planning.Layout.{LieApart}
use Rattle.plan_spec.proofs.Planning.Moved.{secondary_same}
use Rattle.settle_spec.specs.FirstPlace.{Extent, is_place, first_place_in}
use Rattle.settle_spec.specs.Lines.{lines_on}
use Rattle.settle_spec.specs.Lists.{Request}
use Rattle.settle_spec.specs.Parts.{FunctionPart, system_parts, is_part, addresses, are_same_space, lies_within}
use Rattle.settle_spec.specs.Stands.{part_space, window_part}
use Rattle.settle_spec.specs.Items.{spare_of}
use Rattle.settle_spec.specs.Growth.{there_on}
use Rattle.settle_spec.specs.Kept.{Kept}
use Rattle.settle_spec.specs.Keeping.Registers.{settled, settled_function}
use Rattle.settle_spec.specs.Growing.{finally_kept}
use Rattle.settle_spec.specs.Wishes.{place_then, range_then}
use Rattle.settle_spec.specs.Sparing.{without_slots, have_spares, denied, placing_request}
use Rattle.settle_spec.specs.SpareLaws.{kept_sparing, has_room_for, result_sparing, result_of}
use Rattle.settle_spec.proofs.FirstPlace.{in_none}
use Rattle.settle_spec.proofs.LastSpot.{place_from}
use Rattle.settle_spec.proofs.Nested.{on_it}
use Rattle.settle_laws.specs.Keeping.PlacesLaws.{CanSettle}
use Rattle.settle_laws.specs.ToldAgainLaws.{has_room_off}
use Rattle.settle_laws.proofs.Alike.{space_alike}
use Rattle.settle_laws.proofs.InLists.{within_from, within_gives}
use Rattle.settle_laws.proofs.Kept.{one_space}
use Rattle.settle_laws.proofs.Keeping.Again.{settled_alike}
use Rattle.settle_laws.proofs.Keeping.AgainParts.{IsSettledPart, settled_part, settled_end}
use Rattle.settle_laws.proofs.Keeping.Claimed.{ends_open, part_shown}
use Rattle.settle_laws.proofs.Keeping.Ends.{unwished_end, wished_end}
use Rattle.settle_laws.proofs.Keeping.Fits.{was}
use Rattle.settle_laws.proofs.Keeping.InWindows.{kept_range}
use Rattle.settle_laws.proofs.Keeping.Moves.{moves}
use Rattle.settle_laws.proofs.Wishing.Added.{within}
use Rattle.settle_laws.proofs.Wishing.Granted.{spare_is}
use Rattle.settle_laws.proofs.Wishing.Spots.{HasSpot, spare_has_spot}

-- ---- a spot is there in the result

module _ (q : Request) (s : System) (j : Kept) (can : CanSettle q s j) (c : WindowKind) (b : Function) (listed : Contains s b) (bridge : is_bridge b ≡ true) (e : Extent) (aligned : 0 < e.alignment) (spot : HasSpot q s c j b e) where
  abbrev t : System
  t = settled q s j

  abbrev now : Function → Function
  now f = settled_function q s j f

  abbrev taken : List Range
  taken = there_on q t (λ r. Some (addresses r)) (λ r. are_same_space (window_space c) (part_space r)) (secondary (now b))

  shown : addresses (window_part c (now b)) ≡ spot.v
  shown = part_shown q s j can b (Window c) listed bridge spot.v spot.ends

  behind_same : secondary (now b) ≡ secondary b
  behind_same = secondary_same b (now b) (moves q s j can b listed) (was q s j can b listed).image bridge

  -- what is there on the bus behind is off it
  part_off : (f : Function) (p : Part) → Contains s f → has_part f p ≡ true → is_part q t (now f) p ≡ true → (are_siblings q.roots (secondary (now b)) f.slot.bus && are_same_space (window_space c) (space_of (now f) p)) ≡ true
      → LieApart (range_from spot.at e.size) (addresses record { function = now f; part = p })
  part_off f p in_f there part beside =
      let parts = and_parts (are_siblings q.roots (secondary (now b)) f.slot.bus) (are_same_space (window_space c) (space_of (now f) p)) beside in
      let end = settled_end q s j can f p in_f there part in
      let bus = on_it q.roots s can.system can.nested b f.slot.bus listed bridge (ap (λ n. are_siblings q.roots n f.slot.bus) (sym behind_same) ∙ parts.0) in
      let space = one_space (window_space c) (space_of (now f) p) parts.1 ∙ sym (space_alike f (now f) (settled_alike q s j can f in_f) p) in
      subst (LieApart (range_from spot.at e.size)) (sym end.shown) (spot.free record { function = f; part = p } end.at in_f there (sym bus) space end.ends)

  taken_if : (t : Bool) (r : FunctionPart) (u : Range) → Contains (cond t (addresses r ∷ []) []) u → (t ≡ true) × (addresses r ≡ u)
  taken_if false r u has = absurd (in_nil u has)
  taken_if true r u has = (refl, elim (in_cons_cases (addresses r) [] u has) [ inl is ↦ is | inr none ↦ absurd (in_nil u none) ])

  all_off : (u : Range) → Contains taken u → LieApart (range_from spot.at e.size) u
  all_off u has =
      let piece : IsInPiece (λ r. cond (are_siblings q.roots (secondary (now b)) r.function.slot.bus && are_same_space (window_space c) (part_space r)) (addresses r ∷ []) []) (system_parts q t) u =
      in_flat_map_to (λ r. cond (are_siblings q.roots (secondary (now b)) r.function.slot.bus && are_same_space (window_space c) (part_space r)) (addresses r ∷ []) []) (system_parts q t) u has in
      let r = piece.of in
      let is : IsSettledPart q s j can r = settled_part q s j can r piece.has in
      let own = taken_if (are_siblings q.roots (secondary (now b)) r.function.slot.bus && are_same_space (window_space c) (part_space r)) r u piece.piece in
      let beside = ap (λ (x : FunctionPart). are_siblings q.roots (secondary (now b)) x.function.slot.bus && are_same_space (window_space c) (part_space x)) is.is ∙ own.0 in
      subst (LieApart (range_from spot.at e.size)) (ap addresses is.is ∙ own.1) (part_off is.f is.p is.listed is.there is.part beside)

  spot_there : is_place spot.v taken e spot.at ≡ true
  spot_there = place_from spot.v taken e spot.at record { multiple = spot.multiple; from = spot.inside.0; free = all_off; last = spot.inside.1; highest = spot.high }

  found : is_some (first_place_in spot.v taken e) ≡ true
  found = by (first_place_in spot.v taken e) refl
    where
      by : (o : Option ℕ) → first_place_in spot.v taken e ≡ o → is_some (first_place_in spot.v taken e) ≡ true
      by (Some a) is = ap is_some is
      by None none = absurd (both_ways (is_place spot.v taken e spot.at) (in_none spot.v taken e aligned none spot.at) spot_there)

  pub room_there : has_room_for q t c (now b) e ≡ true
  room_there =
      and_from (is_open (now b) c) (is_some (first_place_in (addresses (window_part c (now b))) taken e)) (ends_open q s j can b c listed bridge spot.v spot.ends)
      (ap (λ v. is_some (first_place_in v taken e)) shown ∙ found)

  -- and off lines
  pub room_off_there : has_room_off q t c (now b) e ≡ true
  room_off_there =
      and_from (is_open (now b) c) (is_some (first_place_in (addresses (window_part c (now b))) more e)) (ends_open q s j can b c listed bridge spot.v spot.ends)
      (ap (λ v. is_some (first_place_in v more e)) shown ∙ found_off)
    where
      lines : List Range
      lines = lines_on q (window_space c) (secondary (now b))

      more : List Range
      more = lines ++ taken

      more_off : (u : Range) → Contains more u → LieApart (range_from spot.at e.size) u
      more_off u has = elim (Contains-append_cases lines taken u has) [
        | inl line ↦ spot.lines u (subst (λ n. Contains (lines_on q (window_space c) n) u) behind_same line)
        | inr there ↦ all_off u there
      ]

      found_off : is_some (first_place_in spot.v more e) ≡ true
      found_off = by (first_place_in spot.v more e) refl
        where
          by : (o : Option ℕ) → first_place_in spot.v more e ≡ o → is_some (first_place_in spot.v more e) ≡ true
          by (Some a) is = ap is_some is
          by None none = absurd (both_ways (is_place spot.v more e spot.at) (in_none spot.v more e aligned none spot.at)
              (place_from spot.v more e spot.at record { multiple = spot.multiple; from = spot.inside.0; free = more_off; last = spot.inside.1; highest = spot.high }))

-- ---- of a request

-- what is kept in the end can be settled, without wishes and with them
pub record CanAll (q : Request) (s : System) : Type 0 where
  pub before : CanSettle (placing_request q s) s (finally_kept (placing_request q s) s)
  pub then : CanSettle (placing_request q s) s (kept_sparing q s)

module _ (q : Request) (s : System) (all : CanAll q s) where
  abbrev p : Request
  p = placing_request q s

  abbrev j : Kept
  j = kept_sparing q s

  pub has_room : (c : WindowKind) (b : Function) (e : Extent) → Contains s b → spare_of q c b ≡ Some e → has_window c b.probe ≡ true → (Contains (denied q s) (window_part c b) → ⊥)
      → has_room_for q (result_sparing q s) c (result_of q s b) e ≡ true
  has_room c b e listed spare there free =
      let of = spare_is q c b e spare in
      let spot = spare_has_spot p q s (finally_kept p s) all.before c b listed e there spare free in
      cond_both (have_spares q s) q (without_slots q) (λ r. has_room_for q (result_sparing q s) c (result_of q s b) e ≡ has_room_for r (result_sparing q s) c (result_of q s b) e) (λ spares. refl) (λ none. refl)
      ∙ room_there p s j all.then c b listed of.bridge e of.spare.aligned spot

  pub keeps_all : (r : FunctionPart) → Contains s r.function → has_part r.function r.part ≡ true → j.stays r ≡ true
      → (w : Range) × (range_then p s j r ≡ Some w) × (lies_within (addresses r) w ≡ true) × (is_window r.part ≡ false → w ≡ addresses r)
  keeps_all r listed there keeps = by r.part refl (j.wished r) refl
    where
      own : (lies_within (addresses r) (j.range r) ≡ true)
      own = all.then.sound.holds r

      by : (o : Part) → r.part ≡ o → (n : Option Range) → j.wished r ≡ n → (w : Range) × (range_then p s j r ≡ Some w) × (lies_within (addresses r) w ≡ true) × (is_window r.part ≡ false → w ≡ addresses r)
      by o at None none = (j.range r, unwished_end p s j r none ∙ kept_range p s j r keeps, own, λ plain. all.then.sound.plain r plain)
      by (Window c) at (Some w) wished =
          let f = r.function in
          let same : r ≡ window_part c f = (λ i. record { function = f; part = at i }) in
          let wish = all.then.sound.wished.windows c f w listed (ap (has_part f) (sym at) ∙ there) (ap j.wished (sym same) ∙ wished) in
          let holds = wish.holds (j.range r) (ap (place_then p s j) (sym same) ∙ kept_range p s j r keeps) in
          (w, wished_end p s j r w wished, within_from (addresses r) w (within (addresses r) (j.range r) w (within_gives (addresses r) (j.range r) own) holds), λ plain. absurd (both_ways (is_window r.part) plain (ap is_window at)))
      by (Bar n) at (Some w) wished = absurd (none_plain (ap is_window at) w wished)
        where
          none_plain : is_window r.part ≡ false → (w : Range) → j.wished r ≡ Some w → ⊥
          none_plain plain w wished = (let is : None ≡ Some w = sym (all.then.sound.wished.plain r listed there plain) ∙ wished in let no : ⊥ = cc in no)
      by Rom at (Some w) wished = absurd (none_plain (ap is_window at) w wished)
        where
          none_plain : is_window r.part ≡ false → (w : Range) → j.wished r ≡ Some w → ⊥
          none_plain plain w wished = (let is : None ≡ Some w = sym (all.then.sound.wished.plain r listed there plain) ∙ wished in let no : ⊥ = cc in no)
