-- What is in the way of a told range, by rows of its bus and space.
use Rattle.std.proofs.Common.{◌≡◌, ℕ, inl, inr, List, ◌++◌, map, Bool, true, ◌&&◌, ◌||◌, not, sym, ◌∙◌, ap, subst}
use Rattle.std.specs.Bool.{◌==◌}
use Rattle.std.specs.List.{Contains, filter, list_any, list_all}
use Rattle.std.proofs.lemmas.Bool.{cases_Bool, and_parts, and_from, both_ways, or_left, or_right, or_cases, eqb-true, eq-eqb, not-true, not_from_false, false_from_ne_true}
use Rattle.std.proofs.lemmas.List.Elements.{Contains-append_cases, Contains-append_left, Contains-append_right}
use Rattle.pci_spec.specs.Decoded.{Range as DecodedRange}
use Rattle.pci_spec.specs.System.{System, Space}
use Rattle.pci_spec.specs.Bus.{are_siblings}
use Rattle.pci_spec.proofs.BusRanges.{all_gives, all_from, any_gives, any_from}
use Rattle.pci_spec.proofs.Members.{IsMade, in_map_to, in_map_from, in_filter_to, in_filter_from}
use Rattle.judge_spec.specs.ToldRegion.{ToldRegion}
use Rattle.settle_spec.specs.FirstPlace.{ranges_are_apart}
use Rattle.settle_spec.specs.Lists.{Request}
use Rattle.settle_spec.specs.Parts.{are_same_space}
use Rattle.settle_spec.specs.Lines.{line_bus, line_range, is_line_of}
use Rattle.settle_spec.specs.Stands.{part_space}
use Rattle.settle_laws.specs.Order.{level}
use Rattle.settle_laws.specs.StandingTold.Passes.{AreTakenBesideLine}
use Rattle.settle_laws.proofs.Standing.{one_level}
use Rattle.pci_base.specs.Ranges.{decoded_range_of}
use Rattle.pci_kept.specs.declared.rows.Row.{Row}
use Rattle.pci_kept.specs.ApartRows.{is_row_off, is_row_free}
use Rattle.pci_kept.specs.LineRows.{row_key, IsRowOf}
use Rattle.pci_kept.specs.RangePass.{AreTakenRows, ArePartRows}
use Rattle.pci_kept.specs.StandingRanges.{row_shares}
use Rattle.pci_kept.proofs.KeptOff.{same_bool, one_key}
use Rattle.pci_kept.proofs.Passing.{levels_one, one_space, spaces_one}

module _ (q : Request) (s : System) (x : ToldRegion) (row : Row) (row_is : IsRowOf q x row) where
  abbrev on : Row → Bool
  on r = r.key == row.key

  abbrev range_in : Row → DecodedRange
  range_in r = decoded_range_of r.range

  -- a row of its key is of its bus and space
  beside_is : (k bus : ℕ) (space : Space) → k ≡ row_key (level q bus) space → (k == row.key) ≡ is_line_of q space bus x
  beside_is k bus space e = same_bool (k == row.key) (is_line_of q space bus x)
      (λ same.
      let one = one_key (level q bus) (level q (line_bus x)) space x.told.space (sym e ∙ eqb-true k row.key same ∙ row_is.key) in
      and_from (are_siblings q.roots bus (line_bus x)) (are_same_space space x.told.space) (levels_one q bus (line_bus x) one.0) (spaces_one space x.told.space one.1))
      (λ of.
      let both = and_parts (are_siblings q.roots bus (line_bus x)) (are_same_space space x.told.space) of in
      eq-eqb k row.key (e ∙ ap (λ n. row_key n space) (one_level q s bus (line_bus x) both.0) ∙ ap (row_key (level q (line_bus x))) (one_space space x.told.space both.1) ∙ sym row_is.key))

  module _ (parts : List Row) (are_parts : ArePartRows q s parts) (test : ToldRegion → Bool) (taken : List Row) (are_taken : AreTakenRows q test taken) where
    abbrev pub in_way : List DecodedRange
    in_way = map range_in (filter on parts ++ filter on taken)

    in_parts : (r : Row) → Contains parts r → on r ≡ true → Contains in_way (range_in r)
    in_parts r has is = in_map_from range_in (filter on parts ++ filter on taken) r (Contains-append_left (filter on parts) (filter on taken) r (in_filter_from on parts r has is))

    in_taken : (r : Row) → Contains taken r → on r ≡ true → Contains in_way (range_in r)
    in_taken r has is = in_map_from range_in (filter on parts ++ filter on taken) r (Contains-append_right (filter on parts) (filter on taken) r (in_filter_from on taken r has is))

    pub beside_line : AreTakenBesideLine q s test x in_way
    beside_line = record {
      each = λ t has. (
          let made : IsMade range_in (filter on parts ++ filter on taken) t = in_map_to range_in (filter on parts ++ filter on taken) t has in
          elim (Contains-append_cases (filter on parts) (filter on taken) made.from made.has) [
            | inl part ↦ (
                let both = in_filter_to on parts made.from part in
                let by = are_parts.each made.from both.0 in
                inl record {
                  r = by.0;
                  listed = by.1;
                  stands = by.2;
                  beside = sym (beside_is made.from.key by.0.function.slot.bus (part_space by.0) by.3.key) ∙ both.1;
                  is = sym by.3.range ∙ made.is;
                })
            | inr told ↦ (
                let both = in_filter_to on taken made.from told in
                let by = are_taken.each made.from both.0 in
                inr record {
                  y = by.0;
                  is_told = by.1;
                  stands = by.2;
                  beside = sym (beside_is made.from.key (line_bus by.0) by.0.told.space by.3.key) ∙ both.1;
                  is = sym by.3.range ∙ made.is;
                })
          ]);
      parts = λ r listed is beside. (
          let by = are_parts.all r listed is in
          subst (Contains in_way) by.2.range (in_parts by.0 by.1 (beside_is by.0.key r.function.slot.bus (part_space r) by.2.key ∙ beside)));
      ranges = λ y listed is beside. (
          let by = are_taken.all y listed is in
          subst (Contains in_way) by.2.range (in_taken by.0 by.1 (beside_is by.0.key (line_bus y) y.told.space by.2.key ∙ beside)));
    }

    -- so it is apart from all of that where its row is
    abbrev apart : DecodedRange → Bool
    apart t = ranges_are_apart t (line_range x)

    off_is : (r : Row) → is_row_off row r ≡ (not (on r) || apart (range_in r))
    off_is r = ap (λ y. not (r.key == row.key) || ranges_are_apart (decoded_range_of r.range) y) row_is.range

    pub apart_is : list_all apart in_way ≡ (not (list_any (row_shares row.key x.told) parts) && is_row_free row taken)
    apart_is = same_bool (list_all apart in_way) (not (list_any (row_shares row.key x.told) parts) && is_row_free row taken)
        (λ all. and_from (not (list_any (row_shares row.key x.told) parts)) (is_row_free row taken)
        (not_from_false (list_any (row_shares row.key x.told) parts) (false_from_ne_true (list_any (row_shares row.key x.told) parts) (λ shares.
        let of = any_gives (row_shares row.key x.told) parts shares in
        let both = and_parts (on of.0) (not (apart (range_in of.0))) of.2 in
        both_ways (apart (range_in of.0)) (not-true (apart (range_in of.0)) both.1) (all_gives apart in_way all (range_in of.0) (in_parts of.0 of.1 both.0)))))
        (all_from (is_row_off row) taken (λ r has. off_is r ∙ (elim (cases_Bool (on r)) [
          | inl is ↦ or_right (not (on r)) (apart (range_in r)) (all_gives apart in_way all (range_in r) (in_taken r has is))
          | inr off ↦ or_left (not (on r)) (apart (range_in r)) (ap not off)
        ]))))
        (λ both.
        let two = and_parts (not (list_any (row_shares row.key x.told) parts)) (is_row_free row taken) both in
        all_from apart in_way (λ t has.
        let made : IsMade range_in (filter on parts ++ filter on taken) t = in_map_to range_in (filter on parts ++ filter on taken) t has in
        subst (λ y. apart y ≡ true) made.is (elim (Contains-append_cases (filter on parts) (filter on taken) made.from made.has) [
          | inl part ↦ (
              let of = in_filter_to on parts made.from part in
              elim (cases_Bool (apart (range_in made.from))) [
                | inl is ↦ is
                | inr shares ↦ absurd (both_ways (list_any (row_shares row.key x.told) parts) (not-true (list_any (row_shares row.key x.told) parts) two.0)
                    (any_from (row_shares row.key x.told) parts made.from of.0 (and_from (on made.from) (not (apart (range_in made.from))) of.1 (ap not shares))))
              ])
          | inr told ↦ (
              let of = in_filter_to on taken made.from told in
              elim (or_cases (not (on made.from)) (apart (range_in made.from)) (sym (off_is made.from) ∙ all_gives (is_row_off row) taken two.1 made.from of.0)) [
                | inl off ↦ absurd (both_ways (on made.from) (not-true (on made.from) off) of.1)
                | inr is ↦ is
              ])
        ])))
