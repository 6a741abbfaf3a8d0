-- Rows of lines, among which those are found that keep a part off.
use Rattle.std.specs.Prelude.{◌≡◌, ℕ, ◌+◌, ◌*◌, Bool, true, ◌||◌, IsTrue, if◌then◌else◌, List}
use Rattle.std.specs.List.{Contains}
use Rattle.pci_spec.specs.Slot.{slot_number}
use Rattle.pci_spec.specs.System.{System, Space, Io, Memory}
use Rattle.judge_spec.specs.ToldRegion.{ToldRegion, told_regions}
use Rattle.settle_spec.specs.Lists.{Request}
use Rattle.settle_spec.specs.Lines.{line_bus, line_range, is_held_line}
use Rattle.settle_spec.specs.Stands.{is_line_on}
use Rattle.settle_laws.specs.Order.{level}
use Rattle.pci_base.specs.Ranges.{decoded_range_of}
use Rattle.pci_kept.specs.declared.rows.Row.{Row}
use Rattle.pci_kept.specs.declared.rows.Rows.{Rows}
use Rattle.pci_kept.specs.declared.off.Off.{Off}
use Rattle.pci_kept.specs.Rows.{AreRows, AreReaches}

abbrev pub space_number : Space → ℕ
space_number Io = 0
space_number Memory = 1

-- the number of a bus and a space
abbrev pub row_key : ℕ → Space → ℕ
row_key n space = 2 * n + space_number space

-- nobody's slot has this number
abbrev pub nobody : ℕ
nobody = 65536

-- a held line doesn't keep off what is of its own slot
abbrev pub line_owner : ToldRegion → ℕ
line_owner x = if is_held_line x then slot_number x.told.slot else nobody

pub record IsRowOf (q : Request) (x : ToldRegion) (r : Row) : Type 0 where
  pub key : r.key ≡ row_key (level q (line_bus x)) x.told.space
  pub owner : r.owner ≡ line_owner x
  pub range : decoded_range_of r.range ≡ line_range x

-- the rows of all lines that a test keeps
pub record AreRowsOfKeptLines (q : Request) (kept : ToldRegion → Bool) (rows : List Row) : Type 0 where
  pub each : (r : Row) → Contains rows r
      → (x : ToldRegion) × Contains (told_regions q.told) x × IsTrue (kept x) × IsRowOf q x r
  pub all : (x : ToldRegion) → Contains (told_regions q.told) x → IsTrue (kept x)
      → (r : Row) × Contains rows r × IsRowOf q x r

abbrev pub is_kept_line : Request → System → Bool → ToldRegion → Bool
is_kept_line q s all x = all || is_line_on q s x

-- they are searched by halving
pub record AreSearched (rows : Rows) : Type 0 where
  pub order : AreRows rows.rows.now
  pub reach : AreReaches rows.rows.now rows.reaches.now

-- those of lines that are on, and of all
pub record AreOffRows (q : Request) (s : System) (off : Off) : Type 0 where
  pub on : AreRowsOfKeptLines q (is_line_on q s) off.on.rows.now
  pub all : AreRowsOfKeptLines q (λ x. true) off.all.rows.now
