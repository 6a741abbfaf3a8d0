-- What rows of told ranges hold beside a window is what lines do.
use Rattle.std.proofs.Common.{◌≡◌, ℕ, zero, suc, ◌+◌, inl, inr, List, [], ◌∷◌, map, get_or, arith, Bool, true, false, ◌&&◌, not, cond, refl, ap, sym, subst, ◌∙◌, Some}
use Rattle.std.specs.Bool.{◌==◌}
use Rattle.std.specs.List.{Contains, filter, slice_get}
use Rattle.std.proofs.lemmas.Bool.{cases_Bool, eq-eqb, eqb-true, false_from_ne_true, both_ways}
use Rattle.std.proofs.lemmas.List.Elements.{Contains-get_or}
use Rattle.std.proofs.lemmas.List.Sorted.{IsPermutation-sym, Contains-permutation}
use Rattle.std.proofs.lemmas.Option.{get_or_from_slice_get, slice_get_within}
use Rattle.pci_spec.specs.Slot.{Slot, same_slot}
use Rattle.pci_spec.specs.Decoded.{Range}
use Rattle.pci_spec.specs.Bus.{are_siblings}
use Rattle.pci_spec.specs.System.{System, Space}
use Rattle.pci_spec.proofs.Members.{in_nil, in_head, in_tail, in_cons_cases, in_map_to, in_map_from, IsMade, in_filter_to, in_filter_from, in_flat_map_to, in_flat_map_from, IsInPiece}
use Rattle.judge_spec.specs.Told.{ToldRange}
use Rattle.judge_spec.specs.ToldForm.{blank}
use Rattle.judge_spec.specs.ToldClaims.{told_register, is_marked_held}
use Rattle.judge_spec.specs.ToldRegion.{ToldRegion, regions_from, told_regions, told_extent}
use Rattle.settle_spec.specs.Lines.{line_range, can_keep_off}
use Rattle.settle_spec.specs.Lists.{Request}
use Rattle.settle_spec.specs.Parts.{FunctionPart, addresses, are_same_space}
use Rattle.settle_spec.specs.Stands.{part_space}
use Rattle.settle_spec.specs.Reach.{lines_beside}
use Rattle.settle_spec.proofs.SameTaken.{HaveSame}
use Rattle.settle_laws.specs.Order.{level}
use Rattle.settle_laws.proofs.Standing.{one_level}
use Rattle.pci_base.specs.Ranges.{decoded_range_of}
use Rattle.pci_base.specs.Space.{space_of}
use Rattle.pci_first_fit.specs.declared.lines.Line.{Line}
use Rattle.pci_first_fit.specs.Lines.{level_of, Row, row_of, told_row, rows_from, AreLines}
use Rattle.pci_kept.proofs.Passing.{levels_one}
use Rattle.pci_grow.specs.OffLines.{pieces, told_at, line_keeps_slot_off, rows_beside, HaveRanges}

-- ---- lines are the ranges of the text

pub record IsOfRange (ranges : List ToldRange) (x : ToldRegion) : Type 0 where
  pub index : ℕ
  pub at : slice_get ranges index ≡ Some x.told

pub range_of_line : (first : ℕ) (ranges : List ToldRange) (x : ToldRegion) → Contains (regions_from first ranges) x → IsOfRange ranges x
range_of_line first [] x has = absurd (in_nil x has)
range_of_line first (r ∷ ranges) x has = elim (in_cons_cases (record { register = first; told = r }) (regions_from (first + 1) ranges) x has) [
  | inl here ↦ record { index = zero; at = ap (λ (y : ToldRegion). Some y.told) here }
  | inr later ↦ (let rest = range_of_line (first + 1) ranges x later in record { index = suc rest.index; at = rest.at })
]

pub record IsLineFor (first : ℕ) (ranges : List ToldRange) (r : ToldRange) : Type 0 where
  pub line : ToldRegion
  pub listed : Contains (regions_from first ranges) line
  pub told_is : line.told ≡ r

pub line_for : (first : ℕ) (ranges : List ToldRange) (index : ℕ) (r : ToldRange) → slice_get ranges index ≡ Some r → IsLineFor first ranges r
line_for first [] index r at = absurd (let no : ⊥ = cc in no)
line_for first (t ∷ ranges) zero r at = record {
  line = record { register = first; told = t };
  listed = in_head (record { register = first; told = t }) (regions_from (first + 1) ranges);
  told_is = (let same : t ≡ r = cc in same);
}
line_for first (t ∷ ranges) (suc index) r at =
    let rest = line_for (first + 1) ranges index r at in
    record { line = rest.line; listed = in_tail (record { register = first; told = t }) (regions_from (first + 1) ranges) rest.line rest.listed; told_is = rest.told_is }

-- a row is the range of its index
pub record IsLineAt (roots : List ℕ) (ranges : List ToldRange) (l : Line) : Type 0 where
  pub told : ToldRange
  pub at : slice_get ranges l.index ≡ Some told
  pub is : row_of l ≡ told_row roots l.index told

pub record IsRowOf (roots : List ℕ) (n : ℕ) (ranges : List ToldRange) (r : Row) : Type 0 where
  pub index : ℕ
  pub told : ToldRange
  pub at : slice_get ranges index ≡ Some told
  pub is : r ≡ told_row roots (n + index) told

row_is : (roots : List ℕ) (n : ℕ) (ranges : List ToldRange) (r : Row) → Contains (rows_from roots n ranges) r → IsRowOf roots n ranges r
row_is roots n [] r has = absurd (in_nil r has)
row_is roots n (t ∷ ranges) r has = elim (in_cons_cases (told_row roots n t) (rows_from roots (n + 1) ranges) r has) [
  | inl here ↦ record { index = zero; told = t; at = refl; is = sym here ∙ ap (λ k. told_row roots k t) (omega arith) }
  | inr later ↦ (let rest = row_is roots (n + 1) ranges r later in record { index = suc rest.index; told = rest.told; at = rest.at; is = rest.is ∙ ap (λ k. told_row roots k rest.told) (omega arith) })
]

is_row : (roots : List ℕ) (n : ℕ) (ranges : List ToldRange) (index : ℕ) (r : ToldRange) → slice_get ranges index ≡ Some r → Contains (rows_from roots n ranges) (told_row roots (n + index) r)
is_row roots n [] index r at = absurd (let no : ⊥ = cc in no)
is_row roots n (t ∷ ranges) zero r at =
    let same : t ≡ r = cc in
    subst (Contains (told_row roots n t ∷ rows_from roots (n + 1) ranges)) (ap (told_row roots n) same ∙ ap (λ k. told_row roots k r) (omega arith)) (in_head (told_row roots n t) (rows_from roots (n + 1) ranges))
is_row roots n (t ∷ ranges) (suc index) r at =
    subst (Contains (told_row roots n t ∷ rows_from roots (n + 1) ranges)) (ap (λ k. told_row roots k r) (omega arith))
    (in_tail (told_row roots n t) (rows_from roots (n + 1) ranges) (told_row roots (n + 1 + index) r) (is_row roots (n + 1) ranges index r at))

module _ (roots : List ℕ) (ranges : List ToldRange) (lines : List Line) (are : AreLines roots ranges lines) where
  pub line_at : (l : Line) → Contains lines l → IsLineAt roots ranges l
  line_at l has =
      let of = row_is roots 0 ranges (row_of l) (Contains-permutation (map row_of lines) (rows_from roots 0 ranges) (row_of l) (IsPermutation-sym (rows_from roots 0 ranges) (map row_of lines) are.rows) (in_map_from row_of lines l has)) in
      let index : 0 + of.index ≡ l.index = sym (ap (λ (r : Row). r.index) of.is) in
      let same : of.index ≡ l.index = omega (arith, index) in
      record { told = of.told; at = ap (slice_get ranges) (sym same) ∙ of.at; is = of.is ∙ ap (λ k. told_row roots k of.told) index }

  pub record IsRowFor (index : ℕ) : Type 0 where
    pub line : Line
    pub listed : Contains lines line
    pub index_is : line.index ≡ index

  pub row_for : (index : ℕ) (r : ToldRange) → slice_get ranges index ≡ Some r → IsRowFor index
  row_for index r at =
      let plain : 0 + index ≡ index = omega arith in
      let made : IsMade row_of lines (told_row roots index r) = in_map_to row_of lines (told_row roots index r) (Contains-permutation (rows_from roots 0 ranges) (map row_of lines) (told_row roots index r) are.rows
      (subst (λ k. Contains (rows_from roots 0 ranges) (told_row roots k r)) plain (is_row roots 0 ranges index r at))) in
      record { line = made.from; listed = made.has; index_is = ap (λ (x : Row). x.index) made.is }

-- ---- a row keeps off what its line does

same_levels : (q : Request) (s : System) (a b n : ℕ) → n ≡ level q b → (n == level q a) ≡ are_siblings q.roots a b
same_levels q s a b n is = elim (cases_Bool (are_siblings q.roots a b)) [
  | inl beside ↦ eq-eqb n (level q a) (is ∙ sym (one_level q s a b beside)) ∙ sym beside
  | inr apart ↦ false_from_ne_true (n == level q a) (λ same. both_ways (are_siblings q.roots a b) apart (levels_one q a b (sym (sym is ∙ eqb-true n (level q a) same)))) ∙ sym apart
]

module _ (q : Request) (s : System) (told : List ToldRange) (told_is : q.told.ranges ≡ told) (lines : List Line) (are : AreLines q.roots told lines) where
  -- each row has a range
  pub have_ranges : HaveRanges told lines
  have_ranges k d less =
      let l = get_or lines k d in
      let at = line_at q.roots told lines are l (Contains-get_or lines k d less) in
      slice_get_within told l.index at.told at.at

  module _ (slot : Slot) (space : Space) (l : Line) (is : IsLineAt q.roots told l) (x : ToldRegion) (same : is.told ≡ x.told) where
    keeps_same : line_keeps_slot_off told slot (level q slot.bus) space l ≡ can_keep_off q x slot space
    keeps_same =
        ap (λ b. (b && are_same_space space (space_of l.space)) && not (is_marked_held (told_at told l.index).mark && same_slot (told_at told l.index).slot slot))
        (same_levels q s slot.bus x.told.slot.bus l.level (ap (λ (r : Row). r.level) is.is ∙ ap (λ (r : ToldRange). level_of q.roots r.slot.bus) same))
        ∙ ap (λ y. (are_siblings q.roots slot.bus x.told.slot.bus && are_same_space space y) && not (is_marked_held (told_at told l.index).mark && same_slot (told_at told l.index).slot slot))
        (ap (λ (r : Row). r.space) is.is ∙ ap (λ (r : ToldRange). r.space) same)
        ∙ ap (λ (r : ToldRange). (are_siblings q.roots slot.bus x.told.slot.bus && are_same_space space x.told.space) && not (is_marked_held r.mark && same_slot r.slot slot))
        (get_or_from_slice_get told l.index is.told blank is.at ∙ same)

    range_same : decoded_range_of l.range ≡ line_range x
    range_same = ap (λ (r : Row). r.range) is.is ∙ ap told_extent same

  module _ (w : FunctionPart) where
    abbrev slot : Slot
    slot = w.function.slot

    abbrev row_pieces : Line → List Range
    row_pieces l = cond (line_keeps_slot_off told slot (level q slot.bus) (part_space w) l) (pieces (addresses w) (decoded_range_of l.range)) []

    abbrev line_pieces : ToldRegion → List Range
    line_pieces x = pieces (addresses w) (line_range x)

    abbrev can : ToldRegion → Bool
    can x = can_keep_off q x slot (part_space w)

    kept : (b : Bool) (xs : List Range) (t : Range) → Contains (cond b xs []) t → (b ≡ true) × Contains xs t
    kept true xs t has = (refl, has)
    kept false xs t has = absurd (in_nil t has)

    to_line : (t : Range) → Contains (rows_beside told slot (level q slot.bus) (part_space w) (addresses w) lines) t → Contains (lines_beside q w) t
    to_line t has =
        let piece : IsInPiece row_pieces lines t = in_flat_map_to row_pieces lines t has in
        let l = piece.of in
        let at = line_at q.roots told lines are l piece.has in
        let line = line_for (told_register 0) q.told.ranges l.index at.told (ap (λ rs. slice_get rs l.index) told_is ∙ at.at) in
        let x = line.line in
        let of = kept (line_keeps_slot_off told slot (level q slot.bus) (part_space w) l) (pieces (addresses w) (decoded_range_of l.range)) t piece.piece in
        in_flat_map_from line_pieces (filter can (told_regions q.told)) x t
        (in_filter_from can (told_regions q.told) x line.listed (sym (keeps_same slot (part_space w) l at x (sym line.told_is)) ∙ of.0))
        (subst (λ r. Contains (pieces (addresses w) r) t) (range_same slot (part_space w) l at x (sym line.told_is)) of.1)

    from_line : (t : Range) → Contains (lines_beside q w) t → Contains (rows_beside told slot (level q slot.bus) (part_space w) (addresses w) lines) t
    from_line t has =
        let piece : IsInPiece line_pieces (filter can (told_regions q.told)) t = in_flat_map_to line_pieces (filter can (told_regions q.told)) t has in
        let x = piece.of in
        let passed = in_filter_to can (told_regions q.told) x piece.has in
        let of = range_of_line (told_register 0) q.told.ranges x passed.0 in
        let at_range : slice_get told of.index ≡ Some x.told = ap (λ rs. slice_get rs of.index) (sym told_is) ∙ of.at in
        let row = row_for q.roots told lines are of.index x.told at_range in
        let l = row.line in
        let at = line_at q.roots told lines are l row.listed in
        let both : Some at.told ≡ Some x.told = sym at.at ∙ ap (slice_get told) row.index_is ∙ at_range in
        let same : at.told ≡ x.told = cc in
        in_flat_map_from row_pieces lines l t row.listed
        (subst (λ b. Contains (cond b (pieces (addresses w) (decoded_range_of l.range)) []) t) (sym (keeps_same slot (part_space w) l at x same ∙ passed.1))
        (subst (λ r. Contains (pieces (addresses w) r) t) (sym (range_same slot (part_space w) l at x same)) piece.piece))

    pub rows_are_lines : HaveSame (rows_beside told slot (level q slot.bus) (part_space w) (addresses w) lines) (lines_beside q w)
    rows_are_lines = record { to = to_line; back = from_line }
