-- The rows of parts that stand.
use Rattle.std.proofs.Common.{◌≡◌, List, map, get_or, true, sym, ◌∙◌, ap, subst, refl, Some}
use Rattle.std.specs.List.{All, Contains, filter, slice_get}
use Rattle.std.specs.List.Sorted.{IsPermutation}
use Rattle.std.proofs.lemmas.Option.{slice_get-get_or}
use Rattle.std.proofs.lemmas.List.Elements.{Contains-get_or}
use Rattle.std.proofs.lemmas.List.Sorted.{IsPermutation-sym, Contains-permutation}
use Rattle.pci_spec.specs.System.{System}
use Rattle.pci_spec.proofs.Members.{in_map_to, in_map_from, IsMade, in_filter_to, in_filter_from}
use Rattle.settle_spec.specs.Lists.{Request}
use Rattle.settle_spec.specs.Stands.{stands}
use Rattle.pci_place.specs.Items.{function_in, no_function}
use Rattle.pci_first_fit.specs.declared.kept.Kept.{Kept}
use Rattle.pci_first_fit.specs.Kept.{spec_part, nothing_kept}
use Rattle.pci_kept.specs.declared.region.Region.{Region as CodeRegion}
use Rattle.pci_kept.specs.declared.rows.Row.{Row}
use Rattle.pci_kept.specs.Boards.{IsKnown}
use Rattle.pci_kept.specs.Held.{is_region_kept}
use Rattle.pci_kept.specs.Known.{Known, region_value, AreParts}
use Rattle.pci_kept.specs.LineRows.{row_key, nobody}
use Rattle.pci_kept.specs.Passing.{AreStanding}
use Rattle.pci_kept.specs.RangePass.{IsPartRow, ArePartRows}
use Rattle.pci_kept.specs.StandingRanges.{part_row}
use Rattle.pci_kept.proofs.Helds.{there_of}
use Rattle.pci_kept.proofs.Whole.{values_are, known_in}

module _ (regions : List CodeRegion) (table : List Kept) (rows : List Row) (moved : IsPermutation (map part_row (filter (is_region_kept table) regions)) rows) where
  abbrev rows_of : List Row
  rows_of = map part_row (filter (is_region_kept table) regions)

  made_of : (r : Row) → Contains rows r → IsMade part_row (filter (is_region_kept table) regions) r
  made_of r has = in_map_to part_row (filter (is_region_kept table) regions) r (Contains-permutation rows rows_of r (IsPermutation-sym rows_of rows moved) has)

  pub none_owned : All (λ r. r.owner ≡ nobody) rows
  none_owned k d low =
      let made = made_of (get_or rows k d) (Contains-get_or rows k d low) in
      subst (λ (r : Row). r.owner ≡ nobody) made.is refl

  module _ (q : Request) (s : System) (are : AreParts q s regions) (standing : AreStanding q s table) where
    module _ (x : CodeRegion) (in_code : Contains regions x) where
      known_is : IsKnown q s x
      known_is = known_in q s regions are x in_code

      has_it : slice_get s x.function ≡ Some (function_in s x.function)
      has_it = slice_get-get_or s x.function no_function known_is.within

      stands_is : is_region_kept table x ≡ stands q s (region_value s x)
      stands_is = standing.each x.function (function_in s x.function) nothing_kept (spec_part x.part) has_it (there_of q s (region_value s x) known_is.listed).there

      row_is : IsPartRow q (region_value s x) (part_row x)
      row_is = record {
        key = ap (λ (k : Known). row_key k.level k.space) known_is.all;
        range = ap (λ (k : Known). k.range) known_is.all;
      }

    pub part_rows_are : ArePartRows q s rows
    part_rows_are = record {
      each = λ r has. (
          let made = made_of r has in
          let x = made.from in
          let kept = in_filter_to (is_region_kept table) regions x made.has in
          (region_value s x, (known_is x kept.0).listed, sym (stands_is x kept.0) ∙ kept.1, subst (IsPartRow q (region_value s x)) made.is (row_is x kept.0)));
      all = λ p listed is. (
          let made : IsMade (region_value s) regions p = in_map_to (region_value s) regions p (subst (λ ps. Contains ps p) (sym (values_are q s regions are)) listed) in
          let x = made.from in
          let keeps : is_region_kept table x ≡ true = stands_is x made.has ∙ ap (stands q s) made.is ∙ is in (
            part_row x,
            Contains-permutation rows_of rows (part_row x) moved (in_map_from part_row (filter (is_region_kept table) regions) x (in_filter_from (is_region_kept table) regions x made.has keeps)),
            subst (λ y. IsPartRow q y (part_row x)) made.is (row_is x made.has),
          ));
    }
