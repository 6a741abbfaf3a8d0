-- The reach of one window of the rows, by what it is in.
use Rattle.std.proofs.Common.{◌≡◌, ℕ, ◌+◌, ◌*◌, ◌<◌, ◌≤◌, inl, inr, List, ◌++◌, length, get_or, Bool, true, false, cond, ◌&&◌, not, arith, ap, sym, subst, ◌∙◌, Option, None, Some}
use Rattle.std.specs.Bool.{nat_lt, if◌then◌else◌}
use Rattle.std.specs.Option.{option_map}
use Rattle.std.specs.List.{Contains, fold}
use Rattle.std.proofs.lemmas.Bool.{and_parts}
use Rattle.std.proofs.lemmas.List.{get_or_default}
use Rattle.std.proofs.lemmas.List.Elements.{Contains-append_cases, Contains-append_left, Contains-append_right}
use Rattle.std.proofs.lemmas.Option.{slice_get-get_or, get_or_from_slice_get}
use Rattle.pci_spec.specs.Slot.{Slot}
use Rattle.pci_spec.specs.Window.{WindowKind, IoWindow, MemoryWindow, PrefetchWindow, has_window, is_closed, page_size}
use Rattle.pci_spec.specs.Decoded.{Range as DecodedRange}
use Rattle.pci_spec.specs.System.{System, Function, Part, is_bridge}
use Rattle.plan_spec.specs.Plan.{raised_to}
use Rattle.plan_spec.proofs.Planning.Safe.{slots_of}
use Rattle.settle_spec.specs.Lists.{Request}
use Rattle.settle_spec.specs.Parts.{system_parts, addresses}
use Rattle.settle_spec.specs.Stands.{is_fixed_part, part_space, window_part, stands}
use Rattle.settle_spec.specs.Items.{highest_in}
use Rattle.settle_spec.specs.Reach.{half_size, upper_of, lower_of, cut_first, clear_of, no_higher, lines_beside, standing_beside, room_around, reach_in, reach_if, reach}
use Rattle.settle_spec.proofs.SameTaken.{HaveSame}
use Rattle.settle_laws.specs.Order.{level}
use Rattle.settle_laws.specs.Reach.{IsStandingWindow}
use Rattle.settle_laws.proofs.Standing.{part_of}
use Rattle.settle_laws.proofs.Reach.{reaches_are_around}
use Rattle.pci_base.specs.declared.range.Range.{Range as CodeRange}
use Rattle.pci_base.specs.declared.window_kind.WindowKind.{WindowKind as CodeKind}
use Rattle.pci_base.specs.WindowKinds.{kind_value}
use Rattle.pci_base.specs.Ranges.{decoded_range_of}
use Rattle.pci_base.specs.Space.{space_of}
use Rattle.pci_function.specs.declared.record.Record.{Record}
use Rattle.pci_tree.proofs.Lifting.{same_slot_of}
use Rattle.pci_place.specs.Items.{no_function, function_in}
use Rattle.pci_place.specs.Records.{IsRecordInSystem}
use Rattle.pci_place.proofs.Records.{same_count, function_at}
use Rattle.pci_first_fit.specs.declared.kept.Part.TheVariants as parts
use Rattle.pci_first_fit.specs.Kept.{spec_part}
use Rattle.pci_kept.specs.declared.region.Region.{Region}
use Rattle.pci_kept.specs.Known.{Known, region_value}
use Rattle.pci_kept.specs.Boards.{IsKnown}
use Rattle.pci_grow.specs.declared.among.Among.{Among}
use Rattle.pci_grow.specs.Rooms.{first_behind, IsNearestBelow, IsNearestAbove}
use Rattle.pci_grow.specs.Rows.{AreApartInRows, AreOtherRangesOfRow}
use Rattle.pci_grow.specs.Reaches.{beside_window, IsWindowAmong, ListsAndLines, StandsInRows}
use Rattle.pci_grow.specs.OffLines.{rows_beside, IsAmongAlso}
use Rattle.pci_grow.proofs.Clear.{first_by_nearest}
use Rattle.pci_grow.proofs.NearestOf.{below_same, above_same}
use Rattle.pci_grow.proofs.LinesBeside.{rows_are_lines}
use Rattle.pci_grow.proofs.ReachByBus.{reach_by_bus}
use Rattle.pci_grow.proofs.StandingRows.{IsRow, row_at, apart_in_rows, beside_in_rows}

-- a first address is never lowered to fit the halves
cut_up : (c : WindowKind) (old first : ℕ) → first ≤ cut_first c old first
cut_up IoWindow old first = elim (nat_lt (lower_of IoWindow old) (lower_of IoWindow first)) as (λ b. first ≤ (if b then (upper_of IoWindow first + 1) * half_size IoWindow else first)) [ true ↦ omega arith | false ↦ omega arith ]
cut_up MemoryWindow old first = elim (nat_lt (lower_of MemoryWindow old) (lower_of MemoryWindow first)) as (λ b. first ≤ (if b then (upper_of MemoryWindow first + 1) * half_size MemoryWindow else first)) [ true ↦ omega arith | false ↦ omega arith ]
cut_up PrefetchWindow old first = elim (nat_lt (lower_of PrefetchWindow old) (lower_of PrefetchWindow first)) as (λ b. first ≤ (if b then (upper_of PrefetchWindow first + 1) * half_size PrefetchWindow else first)) [ true ↦ omega arith | false ↦ omega arith ]

le_through : (a b m n : ℕ) → a ≤ b → b ≤ m → m ≡ n → a ≤ n
le_through a b m n first second same = omega (arith, first, second, same)

same_before : (xs ys zs : List DecodedRange) → HaveSame xs ys → HaveSame (xs ++ zs) (ys ++ zs)
same_before xs ys zs same = record {
  to = λ t has. elim (Contains-append_cases xs zs t has) [ inl left ↦ Contains-append_left ys zs t (same.to t left) | inr right ↦ Contains-append_right ys zs t right ];
  back = λ t has. elim (Contains-append_cases ys zs t has) [ inl left ↦ Contains-append_left xs zs t (same.back t left) | inr right ↦ Contains-append_right xs zs t right ];
}

module _ (q : Request) (s : System) (records : List Record) (given : ListsAndLines) (rows : List Region) (is : StandsInRows q s records given rows) where
  pub row_is : (k : ℕ) (d : Region) → k < length rows → IsRow q s is.board.system is.board.nested rows is.has (get_or rows k d)
  row_is k d within = row_at q s is.board.system is.board.nested rows is.has k d within

  module _ (index : ℕ) (d : Region) (within : index < length rows) where
    abbrev region : Region
    region = get_or rows index d

    abbrev own : Function
    own = function_in s region.function

    pub known : IsKnown q s region
    known = (row_is index d within).known

    -- its function has a record
    pub has_record : region.function < length records
    has_record = (let low = known.within in let same = same_count s records is.board.has in omega (arith, low, same))

    pub record_is : (r : Record) → IsRecordInSystem s own (get_or records region.function r)
    record_is r =
        let found = function_at s records is.board.has region.function (get_or records region.function r) (slice_get-get_or records region.function r has_record) in
        subst (λ f. IsRecordInSystem s f (get_or records region.function r)) (sym (get_or_from_slice_get s region.function found.f no_function found.at)) found.is

    pub slot_same : (r : Record) → (get_or records region.function r).slot ≡ own.slot
    slot_same r = same_slot_of (get_or records region.function r) own (record_is r).value

    module _ (class : CodeKind) (part_is : region.part ≡ parts.Window class) where
      abbrev c : WindowKind
      c = kind_value class

      value_is : region_value s region ≡ window_part c own
      value_is = ap (λ (p : Part). record { function = own; part = p }) (ap spec_part part_is)

      pub standing : IsStandingWindow q s c own
      standing = record {
        part = subst (Contains (system_parts q s)) value_is known.listed;
        stands = sym (ap (stands q s) value_is) ∙ (row_is index d within).stand;
      }

      listed : Contains s own
      listed = (part_of q s (window_part c own) standing.part).listed

      -- its bridge has the window
      pub is_bridge_own : is_bridge own ≡ true
      is_bridge_own =
          let open_is = (part_of q s (window_part c own) standing.part).is in
          (and_parts (is_bridge own) (has_window c own.probe) (and_parts (is_bridge own && has_window c own.probe) (not (is_closed c own.image)) open_is).0).0

      pub window_is : addresses (window_part c own) ≡ decoded_range_of region.range
      window_is = sym (ap (λ (k : Known). k.range) known.all ∙ ap addresses value_is)

      fixed_is : region.fixed ≡ is_fixed_part q (window_part c own)
      fixed_is = ap (λ (k : Known). k.fixed) known.all

      abbrev room : Option DecodedRange
      room = room_around q s c (reach q s c) own

      reach_is : (o : Option DecodedRange) → o ≡ room → reach q s c own ≡ reach_if q s c own o
      reach_is o is_room = reach_by_bus q s is.board.nested c own (slots_of s is.board.system own listed).0 ∙ ap (reach_if q s c own) (sym is_room)

      -- a window with no room around it can't grow
      reach_none : None ≡ room → decoded_range_of region.range ≡ reach q s c own
      reach_none none = sym window_is ∙ sym (reach_is None none)

      module _ (r : DecodedRange) (some : Some r ≡ room) where
        by_fixed : (b : Bool) → region.fixed ≡ b → reach q s c own ≡ cond b (addresses (window_part c own)) (reach_in q s c own r)
        by_fixed b fixed =
            reach_is (Some r) some
            ∙ ap (λ b. cond b (addresses (window_part c own)) (reach_in q s c own r)) (sym fixed_is ∙ fixed)

        -- that of a fixed bridge neither
        reach_fixed : region.fixed ≡ true → decoded_range_of region.range ≡ reach q s c own
        reach_fixed fixed = sym window_is ∙ sym (by_fixed true fixed)

        reach_some : region.fixed ≡ false → reach_in q s c own r ≡ reach q s c own
        reach_some fixed = sym (by_fixed false fixed)

        -- the first whole page begins no later than the window
        page_first : region.fixed ≡ false → (o : Option DecodedRange)
            → IsNearestBelow (addresses (window_part c own)) (beside_window q s (window_part c own)) o
            → raised_to (page_size c) (first_behind r.first o) ≤ region.range.first
        page_first fixed o below =
            let w = addresses (window_part c own) in
            let start = no_higher (highest_in c own.probe) r in
            let free = fold (clear_of w) start (beside_window q s (window_part c own)) in
            let can = reaches_are_around q s c is.board.nested is.board.system is.low own standing in
            let first : (reach_in q s c own r).first ≤ w.first = subst (λ (x : DecodedRange). x.first ≤ w.first) (sym (reach_some fixed)) can.first in
            subst (λ n. raised_to (page_size c) n ≤ region.range.first) (first_by_nearest w start (beside_window q s (window_part c own)) o below)
            (le_through (raised_to (page_size c) free.first) (cut_first c w.first (raised_to (page_size c) free.first)) w.first region.range.first
            (cut_up c w.first (raised_to (page_size c) free.first)) first (ap (λ (x : DecodedRange). x.first) window_is))

      -- ---- by what the code finds, an index past the end being read as another region

      module _ (o : Option CodeRange) (found : option_map decoded_range_of o ≡ room) (e : Region) where
        same_reach : reach q s c own ≡ reach q s c (function_in s (get_or rows index e).function)
        same_reach = ap (λ (x : Region). reach q s c (function_in s x.function)) (get_or_default rows index d e within)

        pub told_none : o ≡ None → decoded_range_of region.range ≡ reach q s c (function_in s (get_or rows index e).function)
        told_none none = reach_none (sym (ap (option_map decoded_range_of) none) ∙ found) ∙ same_reach

        pub told_fixed : (r : CodeRange) → o ≡ Some r → region.fixed ≡ true → decoded_range_of region.range ≡ reach q s c (function_in s (get_or rows index e).function)
        told_fixed r some fixed = reach_fixed (decoded_range_of r) (sym (ap (option_map decoded_range_of) some) ∙ found) fixed ∙ same_reach

        pub told_some : (r : CodeRange) → o ≡ Some r → region.fixed ≡ false → (result : CodeRange) → decoded_range_of result ≡ reach_in q s c own (decoded_range_of r)
            → decoded_range_of result ≡ reach q s c (function_in s (get_or rows index e).function)
        told_some r some fixed result is_result = is_result ∙ reach_some (decoded_range_of r) (sym (ap (option_map decoded_range_of) some) ∙ found) fixed ∙ same_reach

      -- ---- among its neighbours

      module _ (a : Among) (own_window : (e : Region) → a.window ≡ (get_or rows index e).range)
          (below : (beside : List DecodedRange) → AreApartInRows rows → AreOtherRangesOfRow rows index beside → IsNearestBelow (decoded_range_of a.window) beside (option_map decoded_range_of a.before))
          (above : (beside : List DecodedRange) → AreApartInRows rows → AreOtherRangesOfRow rows index beside → IsNearestAbove (decoded_range_of a.window) beside (option_map decoded_range_of a.behind))
          (n : Among) (slot : Slot) (slot_is : slot ≡ own.slot)
          (also : IsAmongAlso (decoded_range_of a.window) a n (rows_beside given.told slot region.level (space_of region.space) (decoded_range_of a.window) given.lines)) where
        apart : AreApartInRows rows
        apart = apart_in_rows q s is.board.system is.board.nested rows is.has

        beside : AreOtherRangesOfRow rows index (standing_beside q s (window_part c own))
        beside = subst (λ v. AreOtherRangesOfRow rows index (standing_beside q s v)) value_is (beside_in_rows q s is.board.system is.board.nested rows is.has index d within)

        window_same : addresses (window_part c own) ≡ decoded_range_of a.window
        window_same = window_is ∙ sym (ap decoded_range_of (own_window d))

        next_same : addresses (window_part c own) ≡ decoded_range_of n.window
        next_same = window_same ∙ sym (ap decoded_range_of also.window)

        forward : (addresses (window_part c own)).first ≤ (addresses (window_part c own)).last
        forward = subst (λ (r : DecodedRange). r.first ≤ r.last) (sym window_is) known.forward

        abbrev found : List DecodedRange
        found = rows_beside given.told slot region.level (space_of region.space) (decoded_range_of a.window) given.lines

        abbrev real : List DecodedRange
        real = rows_beside given.told own.slot (level q own.slot.bus) (part_space (window_part c own)) (addresses (window_part c own)) given.lines

        level_is : region.level ≡ level q own.slot.bus
        level_is = ap (λ (k : Known). k.level) known.all

        space_is : space_of region.space ≡ part_space (window_part c own)
        space_is = ap (λ (k : Known). k.space) known.all ∙ ap part_space value_is

        found_is : found ≡ real
        found_is =
            ap (λ x. rows_beside given.told x region.level (space_of region.space) (decoded_range_of a.window) given.lines) slot_is
            ∙ ap (λ x. rows_beside given.told own.slot x (space_of region.space) (decoded_range_of a.window) given.lines) level_is
            ∙ ap (λ x. rows_beside given.told own.slot (level q own.slot.bus) x (decoded_range_of a.window) given.lines) space_is
            ∙ ap (λ x. rows_beside given.told own.slot (level q own.slot.bus) (part_space (window_part c own)) x given.lines) (sym window_same)

        lines_are : HaveSame found (lines_beside q (window_part c own))
        lines_are = subst (λ xs. HaveSame xs (lines_beside q (window_part c own))) (sym found_is) (rows_are_lines q s given.told is.told_is given.lines is.lines (window_part c own))

        with_standing : HaveSame (found ++ standing_beside q s (window_part c own)) (beside_window q s (window_part c own))
        with_standing = same_before found (lines_beside q (window_part c own)) (standing_beside q s (window_part c own)) lines_are

        all_below : IsNearestBelow (decoded_range_of n.window) (beside_window q s (window_part c own)) (option_map decoded_range_of n.before)
        all_below =
            subst (λ r. IsNearestBelow r (beside_window q s (window_part c own)) (option_map decoded_range_of n.before)) (sym window_same ∙ next_same)
            (below_same (decoded_range_of a.window) (found ++ standing_beside q s (window_part c own)) (beside_window q s (window_part c own)) (option_map decoded_range_of n.before) with_standing
            (also.below (subst (λ (r : DecodedRange). r.first ≤ r.last) window_same forward) (standing_beside q s (window_part c own)) (below (standing_beside q s (window_part c own)) apart beside)))

        all_above : IsNearestAbove (decoded_range_of n.window) (beside_window q s (window_part c own)) (option_map decoded_range_of n.behind)
        all_above =
            subst (λ r. IsNearestAbove r (beside_window q s (window_part c own)) (option_map decoded_range_of n.behind)) (sym window_same ∙ next_same)
            (above_same (decoded_range_of a.window) (found ++ standing_beside q s (window_part c own)) (beside_window q s (window_part c own)) (option_map decoded_range_of n.behind) with_standing
            (also.above (subst (λ (r : DecodedRange). r.first ≤ r.last) window_same forward) (standing_beside q s (window_part c own)) (above (standing_beside q s (window_part c own)) apart beside)))

        pub is_among : (highest : ℕ) → highest ≡ highest_in c own.probe → IsWindowAmong q s c own highest n
        is_among highest highest_is = record {
          window = next_same;
          highest_is = sym highest_is;
          below = all_below;
          above = all_above;
        }

        pub page_among : (o : Option CodeRange) → option_map decoded_range_of o ≡ room → (r : CodeRange) → o ≡ Some r → region.fixed ≡ false
            → raised_to (page_size c) (first_behind r.first (option_map decoded_range_of n.before)) ≤ n.window.first
        page_among o found r some fixed =
            subst (λ (x : CodeRange). raised_to (page_size c) (first_behind r.first (option_map decoded_range_of n.before)) ≤ x.first) (sym (also.window ∙ own_window d))
            (page_first (decoded_range_of r) (sym (ap (option_map decoded_range_of) some) ∙ found) fixed (option_map decoded_range_of n.before)
            (subst (λ w. IsNearestBelow w (beside_window q s (window_part c own)) (option_map decoded_range_of n.before)) (sym next_same) all_below))
