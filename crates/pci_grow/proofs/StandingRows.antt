-- The rows of a system: which parts they have, and that those of a row share no address.
use Rattle.std.proofs.Common.{◌≡◌, ℕ, ◌<◌, ◌≤◌, inl, inr, List, length, get_or, Bool, true, false, ◌&&◌, not, arith, ap, sym, subst, ◌∙◌, refl}
use Rattle.std.specs.Bool.{◌==◌}
use Rattle.std.specs.List.{AllPairs, Contains, filter}
use Rattle.std.specs.List.Sorted.{IsNonDecreasingBy}
use Rattle.std.proofs.lemmas.Bool.{cases_eq, cases_lt, false≢true, and_parts, and_from, eqb-true, eq-eqb, false_from_ne_true}
use Rattle.std.proofs.lemmas.List.{get_or_default}
use Rattle.std.proofs.lemmas.List.Elements.{Contains-get_or}
use Rattle.std.proofs.lemmas.List.Sorted.{IsPermutation-refl, IsPermutation-sym, Contains-permutation}
use Rattle.std.proofs.lemmas.Option.{slice_get-get_or}
use Rattle.pci_spec.specs.Decoded.{Range as DecodedRange}
use Rattle.pci_spec.specs.System.{System, Space, Io, Memory, IsSystem}
use Rattle.pci_spec.specs.Bus.{are_siblings, IsNested}
use Rattle.pci_spec.proofs.Members.{IsMade, in_map_to, in_map_from, in_filter_to, in_filter_from}
use Rattle.settle_spec.specs.FirstPlace.{ranges_are_apart}
use Rattle.settle_spec.specs.Lists.{Request}
use Rattle.settle_spec.specs.Parts.{FunctionPart, system_parts, addresses, are_same_space}
use Rattle.settle_spec.specs.Stands.{rank, part_space, are_beside, stands}
use Rattle.settle_spec.specs.Reach.{standing_beside}
use Rattle.settle_spec.proofs.Reaching.{ends_apart}
use Rattle.settle_laws.specs.Order.{level}
use Rattle.settle_laws.proofs.Ranks.{ranks_rise}
use Rattle.settle_laws.proofs.Standing.{one_level}
use Rattle.settle_laws.proofs.Apart.{apart_where_beside}
use Rattle.pci_base.specs.Ranges.{decoded_range_of}
use Rattle.pci_base.specs.Space.{space_of}
use Rattle.pci_base.specs.declared.space.Space.TheVariants as spaces
use Rattle.pci_base.specs.declared.window_kind.WindowKind.TheVariants as kinds
use Rattle.pci_place.specs.Items.{no_function, function_in}
use Rattle.pci_first_fit.specs.declared.kept.Part.TheVariants as parts
use Rattle.pci_first_fit.specs.Kept.{spec_part, nothing_kept}
use Rattle.pci_kept.specs.declared.region.Region.{Region}
use Rattle.pci_kept.specs.Held.{is_region_kept}
use Rattle.pci_kept.specs.Known.{Known, region_value}
use Rattle.pci_kept.specs.Boards.{IsKnown}
use Rattle.pci_kept.proofs.Helds.{there_of}
use Rattle.pci_kept.proofs.Passing.{levels_one, spaces_one, one_space}
use Rattle.pci_kept.proofs.Whole.{values_are, numbers_rise, known_sorted}
use Rattle.pci_grow.specs.Rows.{region_row_number, IsInRowOrder, HasRows, AreApartInRows, IsOtherOfRow, IsRangeBeside, AreOtherRangesOfRow}
use Rattle.pci_grow.specs.RoomRows.{row_number}

-- an index past the end is read as this
abbrev pub no_region : Region
no_region = record {
  function = 0;
  bus = 0;
  level = 0;
  fixed = false;
  on = false;
  leads = false;
  can_stand = false;
  part = parts.Bar 0;
  space = spaces.Io;
  class = kinds.Io;
  range = record { first = 0; last = 0 };
}

-- ---- ranks and rows

-- a part of a system is told by its slot and register
pub one_rank : (q : Request) (s : System) → IsSystem s → (r t : FunctionPart) → Contains (system_parts q s) r → Contains (system_parts q s) t → rank r ≡ rank t → r ≡ t
one_rank q s system r t (i, i_in, i_at) (j, j_in, j_at) same =
    let parts = system_parts q s in
    let here : get_or parts i t ≡ r = get_or_default parts i t r i_in ∙ i_at in
    elim (cases_eq i j) [
      | inl one ↦ sym here ∙ ap (λ n. get_or parts n t) one ∙ j_at
      | inr differ ↦ elim (cases_lt i j) [
        | inl less ↦
            let up = ranks_rise q s system i j t less j_in in
            let a : rank (get_or parts i t) ≡ rank r = ap rank here in
            let b : rank (get_or parts j t) ≡ rank t = ap rank j_at in
            absurd (let no : ⊥ = omega (arith, up, a, b, same) in no)
        | inr more ↦
            let up = ranks_rise q s system j i t (omega (arith, more, differ)) i_in in
            let a : rank (get_or parts i t) ≡ rank r = ap rank here in
            let b : rank (get_or parts j t) ≡ rank t = ap rank j_at in
            absurd (let no : ⊥ = omega (arith, up, a, b, same) in no)
      ]
    ]

-- a row is of one bus and one space
one_row : (a b : ℕ) (x y : Space) → row_number a x ≡ row_number b y → (a ≡ b) × (x ≡ y)
one_row a b Io Io same = (omega (arith, same), refl)
one_row a b Io Memory same = absurd (let no : ⊥ = omega (arith, same) in no)
one_row a b Memory Io same = absurd (let no : ⊥ = omega (arith, same) in no)
one_row a b Memory Memory same = (omega (arith, same), refl)

module _ (q : Request) (s : System) where
  abbrev pub value : Region → FunctionPart
  value r = region_value s r

  module _ (x y : Region) (x_is : IsKnown q s x) (y_is : IsKnown q s y) where
    level_x : x.level ≡ level q (value x).function.slot.bus
    level_x = ap (λ (k : Known). k.level) x_is.all

    level_y : y.level ≡ level q (value y).function.slot.bus
    level_y = ap (λ (k : Known). k.level) y_is.all

    space_x : space_of x.space ≡ part_space (value x)
    space_x = ap (λ (k : Known). k.space) x_is.all

    space_y : space_of y.space ≡ part_space (value y)
    space_y = ap (λ (k : Known). k.space) y_is.all

    -- those of one row stand beside each other
    pub beside_by_row : region_row_number x ≡ region_row_number y → are_beside q (value x) (value y) ≡ true
    beside_by_row same =
        let both = one_row x.level y.level (space_of x.space) (space_of y.space) same in
        and_from (are_siblings q.roots (value x).function.slot.bus (value y).function.slot.bus) (are_same_space (part_space (value x)) (part_space (value y)))
        (levels_one q (value x).function.slot.bus (value y).function.slot.bus (sym level_x ∙ both.0 ∙ level_y))
        (spaces_one (part_space (value x)) (part_space (value y)) (sym space_x ∙ both.1 ∙ space_y))

    -- and those that do are of one row
    pub row_by_beside : are_beside q (value x) (value y) ≡ true → region_row_number x ≡ region_row_number y
    row_by_beside beside =
        let both = and_parts (are_siblings q.roots (value x).function.slot.bus (value y).function.slot.bus) (are_same_space (part_space (value x)) (part_space (value y))) beside in
        ap (λ n. row_number n (space_of x.space)) (level_x ∙ one_level q s (value x).function.slot.bus (value y).function.slot.bus both.0 ∙ sym level_y)
        ∙ ap (row_number y.level) (space_x ∙ one_space (part_space (value x)) (part_space (value y)) both.1 ∙ sym space_y)

  module _ (system : IsSystem s) (nested : IsNested q.roots s) (rows : List Region) (has : HasRows q s rows) where
    -- ---- which parts the rows have

    abbrev kept : Region → Bool
    kept x = is_region_kept has.standing x

    kept_where : (x : Region) → IsKnown q s x → kept x ≡ stands q s (value x)
    kept_where x known =
        has.stand.each x.function (function_in s x.function) nothing_kept (spec_part x.part)
        (slice_get-get_or s x.function no_function known.within) (there_of q s (value x) known.listed).there

    known_in : (x : Region) → Contains has.regions x → IsKnown q s x
    known_in x listed = known_sorted q s has.regions has.parts has.regions (IsPermutation-refl has.regions) x listed

    -- each of them stands
    pub record IsRow (x : Region) : Type 0 where
      pub known : IsKnown q s x
      pub stand : stands q s (value x) ≡ true

    pub is_row : (x : Region) → Contains rows x → IsRow x
    is_row x listed =
        let passed = in_filter_to kept has.regions x (Contains-permutation rows (filter kept has.regions) x (IsPermutation-sym (filter kept has.regions) rows has.sorted.same) listed) in
        let known = known_in x passed.0 in
        record { known = known; stand = sym (kept_where x known) ∙ passed.1 }

    pub row_at : (k : ℕ) (d : Region) → k < length rows → IsRow (get_or rows k d)
    row_at k d within = is_row (get_or rows k d) (Contains-get_or rows k d within)

    -- and all that stand are in a row
    pub record IsInRows (r : FunctionPart) : Type 0 where
      pub at : ℕ
      pub within : at < length rows
      pub is : (d : Region) → value (get_or rows at d) ≡ r

    pub in_rows : (r : FunctionPart) → Contains (system_parts q s) r → stands q s r ≡ true → IsInRows r
    in_rows r listed stand =
        let made : IsMade value has.regions r = in_map_to value has.regions r (subst (λ xs. Contains xs r) (sym (values_are q s has.regions has.parts)) listed) in
        let passes : kept made.from ≡ true = kept_where made.from (known_in made.from made.has) ∙ ap (stands q s) made.is ∙ stand in
        let place = Contains-permutation (filter kept has.regions) rows made.from has.sorted.same (in_filter_from kept has.regions made.from made.has passes) in
        record { at = place.0; within = place.1; is = λ d. ap value (get_or_default rows place.0 d made.from place.1 ∙ place.2) ∙ made.is }

    -- ---- the order of the rows

    abbrev number : Region → ℕ
    number r = rank (value r)

    in_order : AllPairs (IsInRowOrder number) rows
    in_order = has.sorted.order number (numbers_rise q s has.regions has.parts system)

    pub rows_rise : IsNonDecreasingBy region_row_number rows
    rows_rise j k d up within = elim (cases_eq j k) [
      | inl one ↦ (let same : region_row_number (get_or rows j d) ≡ region_row_number (get_or rows k d) = ap (λ n. region_row_number (get_or rows n d)) one in omega (arith, same))
      | inr differ ↦ elim (in_order j k d (omega (arith, up, differ)) within) [
        | inl less ↦ omega (arith, less)
        | inr both ↦ (let same = both.0 in omega (arith, same))
      ]
    ]

    module _ (j k : ℕ) (d : Region) (less : j < k) (within : k < length rows) (same : region_row_number (get_or rows j d) ≡ region_row_number (get_or rows k d)) where
      abbrev x : Region
      x = get_or rows j d

      abbrev y : Region
      y = get_or rows k d

      x_row : IsRow x
      x_row = row_at j d (omega (arith, less, within))

      y_row : IsRow y
      y_row = row_at k d within

      range_x : decoded_range_of x.range ≡ addresses (value x)
      range_x = ap (λ (k : Known). k.range) x_row.known.all

      range_y : decoded_range_of y.range ≡ addresses (value y)
      range_y = ap (λ (k : Known). k.range) y_row.known.all

      first_rises : x.range.first ≤ y.range.first
      first_rises = elim (in_order j k d less within) [
        | inl lower ↦ absurd (let no : ⊥ = omega (arith, lower, same) in no)
        | inr both ↦ elim both.1 [
          | inl first ↦ omega (arith, first)
          | inr tie ↦ (let one = tie.0 in omega (arith, one))
        ]
      ]

      -- they are two parts
      pub other_rank : rank (value x) ≡ rank (value y) → ⊥
      other_rank ranks = elim (in_order j k d less within) [
        | inl lower ↦ (let no : ⊥ = omega (arith, lower, same) in no)
        | inr both ↦ elim both.1 [
          | inl first ↦
              let one = one_rank q s system (value x) (value y) x_row.known.listed y_row.known.listed ranks in
              let firsts : x.range.first ≡ y.range.first = ap (λ (r : DecodedRange). r.first) (range_x ∙ ap addresses one ∙ sym range_y) in
              let no : ⊥ = omega (arith, first, firsts) in no
          | inr tie ↦ (let lower = tie.1 in let no : ⊥ = omega (arith, lower, ranks) in no)
        ]
      ]

      ends_before : x.range.last < y.range.first
      ends_before =
          let off = apart_where_beside q s (value x) (value y) nested x_row.known.listed y_row.known.listed x_row.stand y_row.stand (beside_by_row x y x_row.known y_row.known same) other_rank in
          let off_x = subst (λ r. ranges_are_apart r (addresses (value y)) ≡ true) (sym range_x) off in
          let off_y = subst (λ r. ranges_are_apart (decoded_range_of x.range) r ≡ true) (sym range_y) off_x in
          elim (ends_apart (decoded_range_of x.range) (decoded_range_of y.range) off_y) [
            | inl under ↦ under
            | inr over ↦ (let up = first_rises in let forward = y_row.known.forward in absurd (let no : ⊥ = omega (arith, over, up, forward) in no))
          ]

    pub apart_in_rows : AreApartInRows rows
    apart_in_rows = record {
      forward = λ k d within. (row_at k d within).known.forward;
      apart = λ j k d less within same. ends_before j k d less within same;
    }

    -- ---- what stands beside one of them

    module _ (index : ℕ) (d : Region) (within : index < length rows) where
      abbrev own : Region
      own = get_or rows index d

      abbrev w : FunctionPart
      w = value own

      own_row : IsRow own
      own_row = row_at index d within

      abbrev passes : FunctionPart → Bool
      passes t = are_beside q w t && not (rank t == rank w) && stands q s t

      each_beside : (t : DecodedRange) → Contains (standing_beside q s w) t → IsRangeBeside rows index t
      each_beside t listed =
          let made : IsMade addresses (filter passes (system_parts q s)) t = in_map_to addresses (filter passes (system_parts q s)) t listed in
          let u = made.from in
          let passed = in_filter_to passes (system_parts q s) u made.has in
          let two = and_parts (are_beside q w u && not (rank u == rank w)) (stands q s u) passed.1 in
          let one = and_parts (are_beside q w u) (not (rank u == rank w)) two.0 in
          let place = in_rows u passed.0 two.1 in
          let there = row_at place.at d place.within in
          let same = row_by_beside own (get_or rows place.at d) own_row.known there.known (subst (λ v. are_beside q w v ≡ true) (sym (place.is d)) one.0) in
          record {
            k = place.at;
            beside = record {
              within = place.within;
              other = λ here.
                  let ranks : rank u ≡ rank w = ap rank (sym (place.is d) ∙ ap (λ n. value (get_or rows n d)) here) in
                  false≢true (sym (ap not (eq-eqb (rank u) (rank w) ranks)) ∙ one.1);
              row = λ e. ap region_row_number (get_or_default rows place.at e d place.within) ∙ sym same ∙ ap region_row_number (get_or_default rows index d e within);
            };
            range = λ e.
                ap (λ (x : Region). decoded_range_of x.range) (get_or_default rows place.at e d place.within)
                ∙ ap (λ (k : Known). k.range) there.known.all ∙ ap addresses (place.is d) ∙ made.is;
          }

      all_beside : (k : ℕ) (e : Region) → IsOtherOfRow rows index k → Contains (standing_beside q s w) (decoded_range_of (get_or rows k e).range)
      all_beside k e is =
          let x = get_or rows k d in
          let there = row_at k d is.within in
          let u = value x in
          let differ : rank u ≡ rank w → ⊥ = elim (cases_lt k index) [
            | inl less ↦ other_rank k index d less within (is.row d)
            | inr more ↦ (let other = is.other in λ ranks. other_rank index k d (omega (arith, more, other)) is.within (sym (is.row d)) (sym ranks))
          ] in
          let unlike : not (rank u == rank w) ≡ true = ap not (false_from_ne_true (rank u == rank w) (λ ranks. differ (eqb-true (rank u) (rank w) ranks))) in
          let ok = and_from (are_beside q w u && not (rank u == rank w)) (stands q s u)
          (and_from (are_beside q w u) (not (rank u == rank w)) (beside_by_row own x own_row.known there.known (sym (is.row d))) unlike) there.stand in
          subst (Contains (standing_beside q s w)) (sym (ap (λ (k : Known). k.range) there.known.all) ∙ ap (λ (x : Region). decoded_range_of x.range) (get_or_default rows k d e is.within))
          (in_map_from addresses (filter passes (system_parts q s)) u (in_filter_from passes (system_parts q s) u there.known.listed ok))

      pub beside_in_rows : AreOtherRangesOfRow rows index (standing_beside q s w)
      beside_in_rows = record { each = each_beside; all = all_beside }
