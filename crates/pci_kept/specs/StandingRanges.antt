-- Rows by which it is told which told ranges stand.
use Rattle.std.specs.Prelude.{ℕ, ◌==◌, Bool, ◌&&◌, not, List}
use Rattle.pci_spec.specs.System.{System}
use Rattle.judge_spec.specs.Told.{ToldRange}
use Rattle.judge_spec.specs.ToldRegion.{told_extent}
use Rattle.settle_spec.specs.FirstPlace.{ranges_are_apart}
use Rattle.settle_spec.specs.Lists.{Request}
use Rattle.settle_spec.specs.Lines.{is_held_line}
use Rattle.settle_spec.specs.Stands.{stands, is_range_in_place, is_range_kept_off}
use Rattle.std.specs.List.{list_any}
use Rattle.pci_base.specs.Ranges.{decoded_range_of}
use Rattle.pci_base.specs.Space as code
use Rattle.pci_kept.specs.declared.region.Region.{Region}
use Rattle.pci_kept.specs.declared.rows.Row.{Row}
use Rattle.pci_kept.specs.LineRows.{row_key, nobody}
use Rattle.pci_kept.specs.ToldLines.{unnamed}

-- a row of a held line
abbrev pub is_owned : Row → Bool
is_owned r = not (r.owner == nobody)

abbrev pub part_row : Region → Row
part_row r = record { key = row_key r.level (code.space_of r.space); owner = nobody; range = r.range }

-- whether a row of a key shares an address with a told range
abbrev pub row_shares : ℕ → ToldRange → Row → Bool
row_shares key t r =
    r.key == key && not (ranges_are_apart (decoded_range_of r.range) (told_extent t))

-- a told range is in its place, no held one, and neither a held line nor a part is in its way
abbrev pub is_free_of : Request → System → List Row → ℕ → ToldRange → Bool
is_free_of q s parts n t =
    not (is_held_line (unnamed t)) && is_range_in_place q s (stands q s) (unnamed t)
    && not (is_range_kept_off q (unnamed t))
    && not (list_any (row_shares (row_key n t.space) t) parts)
