-- Held lines and parts in the way of a told range, by their rows.
use Rattle.std.proofs.Common.{◌≡◌, ◌≢◌, ℕ, inl, inr, List, Bool, true, false, cond, ◌&&◌, not, arith, sym, ◌∙◌, ap, refl}
use Rattle.std.specs.Bool.{◌==◌}
use Rattle.std.specs.List.{Contains, filter, list_any}
use Rattle.std.proofs.lemmas.Bool.{cases_Bool, both_ways, eq-eqb, ne_eqb, not-true}
use Rattle.pci_spec.specs.Slot.{IsSlot, slot_number}
use Rattle.pci_spec.proofs.Members.{in_filter_to, in_filter_from, pairs_filter}
use Rattle.judge_spec.specs.Told.{ToldRange, IsTold}
use Rattle.judge_spec.specs.ToldRegion.{ToldRegion, told_regions, told_extent}
use Rattle.settle_spec.specs.FirstPlace.{ranges_are_apart}
use Rattle.settle_spec.specs.Lists.{Request}
use Rattle.settle_spec.specs.Lines.{is_held_line, keeps_off}
use Rattle.settle_spec.specs.Stands.{is_range_kept_off}
use Rattle.settle_laws.specs.Order.{level}
use Rattle.pci_base.specs.Ranges.{decoded_range_of}
use Rattle.pci_base.specs.declared.range.Range.{Range}
use Rattle.pci_kept.specs.declared.rows.Row.{Row}
use Rattle.pci_kept.specs.Rows.{IsRowBefore, AreRows, row_keeps_others_off, rows_keep_off}
use Rattle.pci_kept.specs.LineRows.{row_key, nobody, IsRowOf, AreRowsOfKeptLines}
use Rattle.pci_kept.specs.StandingRanges.{is_owned, row_shares}
use Rattle.pci_kept.specs.ToldLines.{unnamed}
use Rattle.pci_kept.proofs.KeptOff.{rows_keep, same_any, told_slot}

-- rows of all lines that have an owner are those of held lines
pub held_lines : (q : Request) → IsTold q.told.ranges → (rows : List Row) → AreRowsOfKeptLines q (λ x. true) rows → AreRowsOfKeptLines q is_held_line (filter is_owned rows)
held_lines q told rows are = record {
  each = λ r has. (
      let both = in_filter_to is_owned rows r has in
      let line = are.each r both.0 in
      (line.0, line.1, is_held line.0 r line.3 both.1, line.3));
  all = λ x has held. (
      let row = are.all x has refl in
      (row.0, in_filter_from is_owned rows row.0 row.1 (owned x has held row.0 row.2), row.2));
}
  where
    is_held : (x : ToldRegion) (r : Row) → IsRowOf q x r → is_owned r ≡ true → is_held_line x ≡ true
    is_held x r is own = elim (cases_Bool (is_held_line x)) [
      | inl held ↦ held
      | inr free ↦ absurd (both_ways (r.owner == nobody) (not-true (r.owner == nobody) own) (eq-eqb r.owner nobody (is.owner ∙ ap (λ b. cond b (slot_number x.told.slot) nobody) free)))
    ]

    owned : (x : ToldRegion) → Contains (told_regions q.told) x → is_held_line x ≡ true → (r : Row) → IsRowOf q x r → is_owned r ≡ true
    owned x has held r is =
        let slot = told_slot q told x has in
        let s0 = slot.0 in let s1 = slot.1 in let s2 = slot.2 in
        let own : r.owner ≡ slot_number x.told.slot = is.owner ∙ ap (λ b. cond b (slot_number x.told.slot) nobody) held in
        ap not (ne_eqb r.owner nobody (λ same. let no : ⊥ = omega (arith, own, same, s0, s1, s2) in no))

pub held_order : (rows : List Row) → AreRows rows → AreRows (filter is_owned rows)
held_order rows order = pairs_filter IsRowBefore is_owned rows order

-- a held line keeps a told range off
pub kept_off_held : (q : Request) → IsTold q.told.ranges → (t : ToldRange) → IsSlot t.slot → (n : ℕ) → n ≡ level q t.slot.bus → (range : Range) → decoded_range_of range ≡ told_extent t → (rows : List Row) → AreRowsOfKeptLines q is_held_line rows
    → rows_keep_off rows (row_key n t.space) (slot_number t.slot) range ≡ is_range_kept_off q (unnamed t)
kept_off_held q told t slot n n_is range range_is rows are =
    ap (λ m. rows_keep_off rows (row_key m t.space) (slot_number t.slot) range) n_is
    ∙ rows_keep q told t.slot slot t.space range is_held_line rows are
    ∙ ap (λ y. list_any (λ x. is_held_line x && keeps_off q x t.slot t.space y) (told_regions q.told)) range_is

-- so does a part
pub shared : (rows : List Row) (anybody : ℕ) → ((r : Row) → Contains rows r → r.owner ≢ anybody) → (key : ℕ) (t : ToldRange) (range : Range) → decoded_range_of range ≡ told_extent t
    → rows_keep_off rows key anybody range ≡ list_any (row_shares key t) rows
shared rows anybody none key t range range_is = same_any (row_keeps_others_off key anybody range) (row_shares key t) rows (λ r has.
    ap (λ b. r.key == key && not b && not (ranges_are_apart (decoded_range_of r.range) (decoded_range_of range))) (ne_eqb r.owner anybody (none r has))
    ∙ ap (λ y. r.key == key && true && not (ranges_are_apart (decoded_range_of r.range) y)) range_is
    ∙ without (r.key == key) (not (ranges_are_apart (decoded_range_of r.range) (told_extent t))))
  where
    without : (a b : Bool) → (a && true && b) ≡ (a && b)
    without true b = refl
    without false b = refl

pub third_off : (a b c d : Bool) → c ≡ true → false ≡ (not a && b && not c && not d)
third_off a b c d on = sym (ap (λ x. not a && b && not x && not d) on ∙ off (not a && b) (not d))
  where
    off : (x y : Bool) → (x && false && y) ≡ false
    off true y = refl
    off false y = refl

pub none_off : (a b c d e : Bool) → a ≡ false → b ≡ true → c ≡ false → e ≡ d → not e ≡ (not a && b && not c && not d)
none_off a b c d e x y z same =
    sym (ap (λ v. not v && b && not c && not d) x ∙ ap (λ v. v && not c && not d) y ∙ ap (λ v. not v && not d) z ∙ ap not (sym same))
