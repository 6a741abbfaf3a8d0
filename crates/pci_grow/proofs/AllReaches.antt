-- What is told of reaches where all that stands is in the rows.
use Rattle.std.proofs.Common.{◌≡◌, ℕ, List, length, map, get_or, false, refl, ap, sym, subst, ◌∙◌, Option, None, Some}
use Rattle.std.specs.List.{slice_get}
use Rattle.std.proofs.lemmas.Bool.{both_ways}
use Rattle.std.proofs.lemmas.Option.{get_or_from_slice_get}
use Rattle.pci_spec.specs.Decoded.{HasRecords}
use Rattle.pci_spec.specs.Decoded as decoded
use Rattle.pci_spec.specs.System.{System, Function}
use Rattle.pci_spec.specs.Sound.{IsInProfile}
use Rattle.judge_spec.specs.Told.{ToldRange}
use Rattle.settle_spec.specs.Lists.{Request}
use Rattle.settle_spec.specs.Stands.{window_part, stands}
use Rattle.settle_laws.proofs.LowWindows.{windows_low}
use Rattle.pci_base.specs.declared.range.Range.{Range}
use Rattle.pci_base.specs.declared.window_kind.WindowKind.{WindowKind as CodeKind}
use Rattle.pci_base.specs.declared.window_kind.ByKind.{ByKind}
use Rattle.pci_base.specs.WindowKinds.{kind_value, by_kind}
use Rattle.pci_function.specs.declared.record.Record.{Record}
use Rattle.pci_function.specs.Values.{record_value}
use Rattle.pci_tree.specs.Admission.{Admission, IsAdmitted}
use Rattle.pci_place.specs.Above.{system_in}
use Rattle.pci_place.specs.Items.{no_function, function_in}
use Rattle.pci_place.proofs.Records.{lent}
use Rattle.pci_first_fit.specs.declared.kept.Kept.{Kept}
use Rattle.pci_first_fit.specs.declared.kept.Part.{Part as CodePart}
use Rattle.pci_first_fit.specs.declared.lines.Line.{Line}
use Rattle.pci_first_fit.specs.Lines.{AreLineRows, AreLines}
use Rattle.pci_first_fit.specs.Slots.{Demand}
use Rattle.pci_first_fit.specs.Kept.{spec_part}
use Rattle.pci_kept.specs.declared.region.Region.{Region}
use Rattle.pci_kept.specs.declared.rules.Rules.{Rules}
use Rattle.pci_kept.specs.Boards.{IsBoard}
use Rattle.pci_kept.specs.Known.{asked_by_rules, region_value, AreParts}
use Rattle.pci_kept.specs.Passing.{AreStanding}
use Rattle.pci_grow.specs.Reaches.{ListsAndLines, StandsInRows, TellsSameOutside}
use Rattle.pci_grow.specs.Rows.{AreRowsOfStanding}
use Rattle.pci_first_fit.specs.Tables.{told, AreUntold}
use Rattle.pci_grow.proofs.StandingRows.{row_at}
use Rattle.pci_grow.proofs.Untold.{at_untold, untold_is}

pub stand_in_rows : (q : Request) (s : System) (records : List Record) (given : ListsAndLines) → IsBoard q s records given.lists → q.told.ranges ≡ given.told → AreLineRows given.lines → AreLines q.roots given.told given.lines → IsInProfile q.roots s
    → (regions : List Region) → AreParts q s regions → (kept : List Kept) → AreStanding q s kept → (rows : List Region) → AreRowsOfStanding regions kept rows → StandsInRows q s records given rows
stand_in_rows q s records given board told line_rows lines profile regions parts kept stand rows sorted = record {
  board = board;
  told_is = told;
  line_rows = line_rows;
  lines = lines;
  low = windows_low q s board.system board.nested profile;
  has = record { regions = regions; standing = kept; parts = parts; stand = stand; sorted = sorted };
}

module _ (q : Request) (s : System) (records : List Record) (given : ListsAndLines) (rows : List Region) (is : StandsInRows q s records given rows) where
  pub only_standing : (old new : List (ByKind (Option Range))) → AreUntold old → TellsSameOutside rows (length rows) old new
      → (k : ℕ) (f : Function) (class : CodeKind) → slice_get s k ≡ Some f → stands q s (window_part (kind_value class) f) ≡ false → told new k class ≡ None
  only_standing old new none same k f class at off =
      same k class (λ i d low inside function part.
      let r = get_or rows i d in
      let row = row_at q s is.board.system is.board.nested rows is.has i d inside in
      let own : function_in s r.function ≡ f = ap (function_in s) function ∙ get_or_from_slice_get s k f no_function at in
      let value : region_value s r ≡ window_part (kind_value class) f =
      ap (λ (g : Function). record { function = g; part = spec_part r.part }) own
      ∙ ap (λ (p : CodePart). record { function = f; part = spec_part p }) part in
      both_ways (stands q s (window_part (kind_value class) f)) off (sym (ap (stands q s) value) ∙ row.stand))
      ∙ ap (λ b. by_kind b class) (at_untold old none k)
      ∙ untold_is class

-- so it is of what is asked for of an admitted system
module _ (a : Admission) (d : Demand) (rules : Rules) (admitted : IsAdmitted a) (told : List ToldRange) (told_is : d.told.ranges ≡ told) (lines : List Line) (line_rows : AreLineRows lines) (are : AreLines a.roots told lines) where
  abbrev given : ListsAndLines
  given = record { lists = d.lists; told = told; lines = lines }

  pub rows_of : (records : List Record) {values : List decoded.Record} → map record_value records ≡ values → HasRecords (system_in a) values
      → (regions : List Region) → AreParts (asked_by_rules a.roots d rules) (system_in a) regions → (kept : List Kept) → AreStanding (asked_by_rules a.roots d rules) (system_in a) kept
      → (rows : List Region) → AreRowsOfStanding regions kept rows → (slice : List Region) → slice ≡ rows → StandsInRows (asked_by_rules a.roots d rules) (system_in a) records given slice
  rows_of records same has regions parts kept stand rows sorted slice slice_is =
      subst (StandsInRows (asked_by_rules a.roots d rules) (system_in a) records given) (sym slice_is)
      (stand_in_rows (asked_by_rules a.roots d rules) (system_in a) records given
      record { has = lent (system_in a) records same has; system = admitted.system; nested = admitted.nested; same = refl }
      told_is line_rows are admitted.profile regions parts kept stand rows sorted)
