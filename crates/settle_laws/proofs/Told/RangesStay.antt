-- A told range that stands is reached in the result, and stands there but where one of an earlier line is.
use Rattle.std.proofs.Common.{◌≡◌, ◌≢◌, ◌⊎◌, inl, inr, Bool, true, false, ◌&&◌, not, refl, ◌∙◌, ap, subst}
use Rattle.std.specs.Bool.{IsTrue, nat_lt}
use Rattle.std.specs.List.{Contains, list_all}
use Rattle.std.proofs.lemmas.Bool.{cases_Bool, and_from, and_parts, both_ways, false_from_ne_true, ltb-true, not_from_false, not_from_true, not-true}
use Rattle.pci_spec.specs.System.{System}
use Rattle.pci_spec.proofs.BusRanges.{all_from}
use Rattle.judge_spec.specs.ToldRegion.{ToldRegion, told_regions}
use Rattle.settle_spec.specs.FirstPlace.{ranges_are_apart}
use Rattle.settle_spec.specs.Kept.{Kept}
use Rattle.settle_spec.specs.Lines.{line_bus, line_range, is_held_line, is_line_of, can_keep_off}
use Rattle.settle_spec.specs.Lists.{Request}
use Rattle.settle_spec.specs.Parts.{FunctionPart, system_parts, addresses}
use Rattle.settle_spec.specs.Stands.{first_by, range_precedes, part_space, is_line_on, is_range_in_place, is_range_kept_off, range_takes_from, range_stands, stands}
use Rattle.settle_spec.specs.Keeping.Registers.{settled}
use Rattle.settle_spec.proofs.ToldStanding.{ranges_stand_in_place}
use Rattle.settle_laws.specs.StandingTold.Standing.{shares_with_line}
use Rattle.settle_laws.proofs.StandingTold.Beside.{range_sides, ranges_apart, ranges_off_parts, keeps_off_sharing, ranges_stand_beside_all, apart_back}
use Rattle.settle_laws.proofs.StandingTold.Order.{range_not_itself}
use Rattle.settle_laws.proofs.StandingTold.Passes.{one_line}
use Rattle.settle_laws.proofs.StandingTold.Standing.{RangeTakes, range_stands_is, range_taking}
use Rattle.settle_laws.specs.Told.Ranges.{IsReached, share_lines, IsFirstLineThere}
use Rattle.settle_laws.specs.StandingTold.Kept.{LinesAreForward}
use Rattle.settle_laws.specs.Keeping.PlacesLaws.{CanSettle}
use Rattle.settle_laws.specs.ToldSoundLaws.{KeepsTold}
use Rattle.settle_laws.proofs.Told.AgainLines.{on_stood}
use Rattle.settle_laws.proofs.Told.AnewStands.{in_place_anew}
use Rattle.settle_laws.proofs.Told.OffLines.{settled_off_lines}

-- what is off comes before what is off alone, on an earlier line
off_first : (a b earlier : Bool) → a ≡ false → first_by a b earlier ≡ true → (b ≡ false) × (earlier ≡ true)
off_first false false earlier off first = (refl, first)
off_first false true earlier off first = absurd (both_ways false refl first)
off_first true b earlier off first = absurd (both_ways true off refl)

module _ (q : Request) (s : System) (k : Kept) (can : CanSettle q s k) (keeps : KeepsTold q s k) (forward : LinesAreForward q) where
  abbrev t : System
  t = settled q s k

  -- ---- parts of the result

  module _ (x : ToldRegion) (is_told : Contains (told_regions q.told) x) (stand : range_stands q s x ≡ true) where
    told : is_held_line x ≡ false
    told = (ranges_stand_in_place q s x stand).not_held

    pub parts_off : (r : FunctionPart) → Contains (system_parts q t) r → shares_with_line q r x ≡ false
    parts_off r listed = false_from_ne_true (shares_with_line q r x) (λ shares.
        let first = settled_off_lines q s k can forward r x listed is_told (keeps_off_sharing q r x told shares) in
        let before : FunctionPart = record { function = first.f; part = r.part } in
        let both = and_parts (can_keep_off q x before.function.slot (part_space before)) (not (ranges_are_apart (line_range x) (addresses before))) first.stood.shares in
        let line = (and_parts (is_line_of q (part_space before) before.function.slot.bus x) _ both.0).0 in
        both_ways (ranges_are_apart (line_range x) (addresses before)) (not-true (ranges_are_apart (line_range x) (addresses before)) both.1)
        (apart_back (line_range x) (addresses before) ∙ ranges_off_parts q s before x first.stood.listed is_told first.stood.stood stand line))

    pub reached : IsReached q t x
    reached = record {
      place = in_place_anew q s k can keeps forward x is_told stand;
      off_held = (range_sides q s x is_told stand).off_held;
    }

    -- another told range that stands takes no address from it
    none_takes : IsTrue (is_line_on q t x) ⊎ IsFirstLineThere q x → (y : ToldRegion) → Contains (told_regions q.told) y → not (range_takes_from q t y x && range_stands q t y) ≡ true
    none_takes either y in_y =
        not_from_false (range_takes_from q t y x && range_stands q t y)
        (false_from_ne_true (range_takes_from q t y x && range_stands q t y) (λ both.
        let parts = and_parts (range_takes_from q t y x) (range_stands q t y) both in
        let takes : RangeTakes q t y x = range_taking q t y x parts.0 in
        let not_held = (ranges_stand_in_place q t y parts.1).not_held in
        let shares = and_from (is_line_of q y.told.space (line_bus y) x) (not (ranges_are_apart (line_range y) (line_range x))) takes.beside takes.shares in
        let differ : y.register ≢ x.register = λ same.
        both_ways (range_precedes q t x x) (range_not_itself q t x) (subst (λ z. range_precedes q t z x ≡ true) (one_line q y x in_y is_told same) takes.before) in
        -- one that is on stood
        let apart = λ (on : is_line_on q t y ≡ true).
        both_ways (not (ranges_are_apart (line_range y) (line_range x)))
        (not_from_true (ranges_are_apart (line_range y) (line_range x)) (ranges_apart q s y x in_y is_told (on_stood q s k can keeps y in_y not_held on) stand takes.beside differ)) takes.shares in
        elim (cases_Bool (is_line_on q t y)) [
          | inl on ↦ apart on
          | inr off ↦ (
              let both_off = off_first (is_line_on q t y) (is_line_on q t x) (nat_lt y.register x.register) off takes.before in
              elim either [
                | inl lit ↦ both_ways (is_line_on q t x) both_off.0 lit
                | inr first ↦ both_ways (share_lines q y x) (first y in_y not_held (ltb-true y.register x.register both_off.1)) shares
              ])
        ]))

    pub range_stays : IsTrue (is_line_on q t x) ⊎ IsFirstLineThere q x → range_stands q t x ≡ true
    range_stays either =
        let told_one = not (is_held_line x) in
        let place = is_range_in_place q t (stands q t) x in
        let off = not (is_range_kept_off q x) in
        let parts = list_all (λ r. not (shares_with_line q r x && stands q t r)) (system_parts q t) in
        let ranges = list_all (λ y. not (range_takes_from q t y x && range_stands q t y)) (told_regions q.told) in
        range_stands_is q t x is_told
        ∙ ranges_stand_beside_all q t (range_stands q t) x is_told
        ∙ and_from (told_one && place && off && parts) ranges
        (and_from (told_one && place && off) parts
        (and_from (told_one && place) off
        (and_from told_one place (not_from_false (is_held_line x) told) reached.place)
        (not_from_false (is_range_kept_off q x) reached.off_held))
        (all_from (λ r. not (shares_with_line q r x && stands q t r)) (system_parts q t)
        (λ r listed. not_from_false (shares_with_line q r x && stands q t r) (ap (λ b. b && stands q t r) (parts_off r listed)))))
        (all_from (λ y. not (range_takes_from q t y x && range_stands q t y)) (told_regions q.told) (none_takes either))

  -- One that is on in the result stood before, so it stands.
  pub on_stands : (x : ToldRegion) → Contains (told_regions q.told) x → is_held_line x ≡ false → is_line_on q t x ≡ true → range_stands q t x ≡ true
  on_stands x is_told told on = range_stays x is_told (on_stood q s k can keeps x is_told told on) (inl on)
