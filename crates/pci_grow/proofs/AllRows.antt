-- The rows of a system are exactly its parts that stand.
use Rattle.std.proofs.Common.{List, map, get_or, subst}
use Rattle.std.specs.List.{Contains}
use Rattle.std.proofs.lemmas.List.Elements.{Contains-get_or}
use Rattle.pci_spec.specs.System.{System, IsSystem}
use Rattle.pci_spec.specs.Bus.{IsNested}
use Rattle.pci_spec.proofs.Members.{in_map_from}
use Rattle.settle_spec.specs.Lists.{Request}
use Rattle.settle_spec.specs.Stands.{rank}
use Rattle.pci_kept.specs.declared.region.Region.{Region}
use Rattle.pci_kept.specs.Known.{region_value}
use Rattle.pci_kept.proofs.Whole.{numbers_rise}
use Rattle.pci_grow.specs.Rows.{HasRows}
use Rattle.pci_grow.specs.Telling.{AreStandingRows}
use Rattle.pci_grow.proofs.StandingRows.{no_region, IsInRows, row_at, in_rows}

pub standing_rows : (q : Request) (s : System) → IsSystem s → IsNested q.roots s → (rows : List Region) → HasRows q s rows → AreStandingRows q s rows
standing_rows q s system nested rows has = record {
  known = λ k d less. (row_at q s system nested rows has k d less).known;
  stand = λ k d less. (row_at q s system nested rows has k d less).stand;
  all = λ t listed stand. (
      let place : IsInRows q s system nested rows has t = in_rows q s system nested rows has t listed stand in
      subst (Contains (map (region_value s) rows)) (place.is no_region)
      (in_map_from (region_value s) rows (get_or rows place.at no_region) (Contains-get_or rows place.at no_region place.within)));
  order = has.sorted.order (λ r. rank (region_value s r)) (numbers_rise q s has.regions has.parts system);
}
