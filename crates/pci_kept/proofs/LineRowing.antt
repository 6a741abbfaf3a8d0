-- Rows are made of lines one after another, and stay those of the same lines when they are sorted.
use Rattle.std.proofs.Common.{◌≡◌, ℕ, ◌+◌, ◌<◌, ◌≤◌, inl, inr, List, [], ◌∷◌, ◌++◌, length, get_or, Bool, true, false, ◌||◌, arith, sym, ◌∙◌, ap, subst}
use Rattle.std.specs.List.{Contains}
use Rattle.std.specs.List.Sorted.{IsPermutation}
use Rattle.std.proofs.lemmas.Bool.{cases_eq, both_ways}
use Rattle.std.proofs.lemmas.List.{get_or_default}
use Rattle.std.proofs.lemmas.List.Elements.{Contains-append_cases, Contains-append_left, Contains-append_right}
use Rattle.std.proofs.lemmas.List.Sorted.{IsPermutation-sym, Contains-permutation}
use Rattle.pci_spec.specs.System.{System}
use Rattle.pci_spec.proofs.Members.{in_nil, in_cons_cases, in_head}
use Rattle.judge_spec.specs.Told.{ToldRange}
use Rattle.judge_spec.specs.ToldRegion.{ToldRegion, told_regions, told_extent}
use Rattle.settle_spec.specs.Lists.{Request}
use Rattle.settle_laws.specs.Order.{level}
use Rattle.pci_base.specs.Ranges.{decoded_range_of}
use Rattle.pci_kept.specs.declared.rows.Row.{Row}
use Rattle.pci_kept.specs.declared.told_line.ToldLine.{ToldLine}
use Rattle.pci_kept.specs.ToldLines.{unnamed, IsToldLineOf, AreToldLines}
use Rattle.pci_kept.specs.LineRows.{row_key, line_owner, IsRowOf, AreRowsOfKeptLines, is_kept_line}
use Rattle.pci_kept.proofs.ToldIndexes.{told_at, told_by}

-- the row that is made of a line
pub record IsRowMade (t : ToldRange) (line : ToldLine) (r : Row) : Type 0 where
  pub key : r.key ≡ row_key line.level t.space
  pub owner : r.owner ≡ line_owner (unnamed t)
  pub range : decoded_range_of r.range ≡ told_extent t

module _ (q : Request) (s : System) (all : Bool) where
  -- the rows of the first lines
  pub record AreRowsBelow (count : ℕ) (rows : List Row) : Type 0 where
    pub each : (r : Row) → Contains rows r → (x : ToldRegion) × Contains (told_regions q.told) x × (is_kept_line q s all x ≡ true) × IsRowOf q x r
    pub all_of : (x : ToldRegion) (k : ℕ) → k < count → get_or q.told.ranges k x.told ≡ x.told → k < length q.told.ranges → is_kept_line q s all x ≡ true → (r : Row) × Contains rows r × IsRowOf q x r

  pub rows_none : AreRowsBelow 0 []
  rows_none = record {
    each = λ r has. absurd (in_nil r has);
    all_of = λ x k low at within kept. absurd (let no : ⊥ = omega (arith, low) in no);
  }

  module _ (lines : List ToldLine) (are : AreToldLines q s lines) (count : ℕ) (within : count < length q.told.ranges) (rows : List Row) (before : AreRowsBelow count rows) (t : ToldRange) (t_is : t ≡ get_or q.told.ranges count t) (line : ToldLine) (line_is : line ≡ get_or lines count line) where
    known : IsToldLineOf q s t line
    known = subst (λ y. IsToldLineOf q s y line) (sym t_is) (subst (IsToldLineOf q s (get_or q.told.ranges count t)) (sym line_is) (are.each count line t within))

    kept_is : (x : ToldRegion) → x.told ≡ t → is_kept_line q s all x ≡ (all || line.on)
    kept_is x e = ap (λ (y : ToldRange). is_kept_line q s all (unnamed y)) e ∙ ap (λ b. all || b) (sym known.on)

    told_there : (x : ToldRegion) (k : ℕ) → k ≡ count → get_or q.told.ranges k x.told ≡ x.told → x.told ≡ t
    told_there x k same at = sym at ∙ ap (λ n. get_or q.told.ranges n x.told) same ∙ get_default x.told ∙ sym t_is
      where
        get_default : (d : ToldRange) → get_or q.told.ranges count d ≡ get_or q.told.ranges count t
        get_default d = get_or_default q.told.ranges count d t within

    pub rows_skip : (all || line.on) ≡ false → AreRowsBelow (count + 1) rows
    rows_skip off = record {
      each = before.each;
      all_of = λ x k low at inside kept. elim (cases_eq k count) [
        | inl same ↦ absurd (both_ways (all || line.on) off (sym (kept_is x (told_there x k same at)) ∙ kept))
        | inr differ ↦ before.all_of x k (omega (arith, low, differ)) at inside kept
      ];
    }

    module _ (row : Row) (made : IsRowMade t line row) (on : (all || line.on) ≡ true) where
      row_is : (x : ToldRegion) → x.told ≡ t → IsRowOf q x row
      row_is x e = record {
        key = made.key ∙ ap (λ n. row_key n t.space) known.level ∙ sym (ap (λ (y : ToldRange). row_key (level q y.slot.bus) y.space) e);
        owner = made.owner ∙ sym (ap (λ (y : ToldRange). line_owner (unnamed y)) e);
        range = made.range ∙ sym (ap told_extent e);
      }

      pub rows_more : (new : List Row) → new ≡ rows ++ (row ∷ []) → AreRowsBelow (count + 1) new
      rows_more new put = subst (AreRowsBelow (count + 1)) (sym put) record {
        each = λ r has. elim (Contains-append_cases rows (row ∷ []) r has) [
          | inl old ↦ before.each r old
          | inr last ↦ elim (in_cons_cases row [] r last) [
            | inl same ↦ (
                let by = told_by 256 q.told.ranges count t within in
                let e : by.x.told ≡ t = by.is ∙ sym t_is in
                (by.x, by.has, kept_is by.x e ∙ on, subst (IsRowOf q by.x) same (row_is by.x e)))
            | inr none ↦ absurd (in_nil r none)
          ]
        ];
        all_of = λ x k low at inside kept. elim (cases_eq k count) [
          | inl same ↦ (row, Contains-append_right rows (row ∷ []) row (in_head row []), row_is x (told_there x k same at))
          | inr differ ↦ (let old = before.all_of x k (omega (arith, low, differ)) at inside kept in (old.0, Contains-append_left rows (row ∷ []) old.0 old.1, old.2))
        ];
      }

  pub rows_all : (count : ℕ) (rows : List Row) → length q.told.ranges ≤ count → AreRowsBelow count rows → AreRowsOfKeptLines q (is_kept_line q s all) rows
  rows_all count rows end below = record {
    each = below.each;
    all = λ x has kept. (
        let at = told_at 256 q.told.ranges x has in
        let low = at.within in
        below.all_of x at.k (omega (arith, low, end)) at.is at.within kept);
  }

-- sorted rows are of the same lines
pub rows_moved : (q : Request) (kept : ToldRegion → Bool) (old new : List Row) → IsPermutation old new → AreRowsOfKeptLines q kept old → AreRowsOfKeptLines q kept new
rows_moved q kept old new moved are = record {
  each = λ r has. are.each r (Contains-permutation new old r (IsPermutation-sym old new moved) has);
  all = λ x has is. (let row = are.all x has is in (row.0, Contains-permutation old new row.0 moved row.1, row.2));
}
