-- Parts with their addresses, as they are put into rows.
use Rattle.std.specs.Prelude.{◌≡◌, ℕ, ◌+◌, ◌<◌, ◌==◌, ◌&&◌, not, if◌then◌else◌, true, false, List, length, Option, None, Some}
use Rattle.std.specs.Option.{option_map}
use Rattle.std.specs.List.{filter, flat_map, sum_by, range_with_len}
use Rattle.pci_spec.specs.Decoded.{Range as DecodedRange}
use Rattle.pci_spec.specs.System.{System, Space, is_bridge, is_window, window_space}
use Rattle.pci_spec.specs.Window.{has_window}
use Rattle.pci_spec.specs.Bus.{are_siblings}
use Rattle.settle_spec.specs.Lists.{Request}
use Rattle.settle_spec.specs.Parts.{FunctionPart, are_same_space}
use Rattle.settle_spec.specs.Stands.{part_space, window_part}
use Rattle.settle_spec.specs.Registers.{changing}
use Rattle.settle_spec.specs.Growth.{range_list}
use Rattle.settle_spec.specs.Kept.{Kept}
use Rattle.settle_spec.specs.Wishes.{place_then}
use Rattle.pci_base.specs.declared.range.Range.{Range}
use Rattle.pci_base.specs.declared.window_kind.ByKind.{ByKind}
use Rattle.pci_base.specs.declared.window_kind.WindowKind.TheVariants.{Io, Memory, Prefetchable}
use Rattle.pci_base.specs.Ranges.{decoded_range_of}
use Rattle.pci_base.specs.Space.{space_of}
use Rattle.pci_grow.specs.declared.board.BridgeWindow.{BridgeWindow}
use Rattle.pci_grow.specs.declared.fill.Located.{Located}
use Rattle.pci_first_fit.specs.Spots.{FirstsRise}
use Rattle.pci_grow.specs.RoomRows.{bus_level, row_number, row_at, total, IsAddedTo, AreSameBut}
use Rattle.pci_first_fit.specs.Tables.{told}
use Rattle.pci_grow.specs.Board.{IsWindow, bridge_of_window, window_class}

-- what a part weighs in a row: nothing in another one
abbrev pub located_weight : List ℕ → (DecodedRange → ℕ) → ℕ → Located → ℕ
located_weight roots weight n p =
    if row_number (bus_level roots p.bus) (space_of p.space) == n then weight (decoded_range_of p.range) else 0

-- the weight of the parts of a row
abbrev pub located_total : List ℕ → (DecodedRange → ℕ) → ℕ → List Located → ℕ
located_total roots weight n parts = sum_by (located_weight roots weight n) parts

-- parts were put into their rows
abbrev pub ArePut : List ℕ → List Located → List (List Range) → List (List Range) → Type 0
ArePut roots parts old new =
    (n : ℕ) → n < 514 → (weight : DecodedRange → ℕ)
    → total weight (row_at new n) ≡ total weight (row_at old n) + located_total roots weight n parts

-- what a window weighs in a row, by a table
abbrev pub told_weight : (DecodedRange → ℕ) → ℕ → ℕ → Option Range → ℕ
told_weight weight row n None = 0
told_weight weight row n (Some r) = if row == n then weight (decoded_range_of r) else 0

abbrev pub window_weight : List ℕ → System → List (ByKind (Option Range)) → (DecodedRange → ℕ) → ℕ → BridgeWindow → ℕ
window_weight roots s table weight n w =
    told_weight weight (row_number (bus_level roots (bridge_of_window s w).slot.bus) (window_space (window_class w))) n
    (told table w.bridge w.class)

-- what the windows of a function weigh
abbrev pub function_weight : List ℕ → System → List (ByKind (Option Range)) → (DecodedRange → ℕ) → ℕ → ℕ → ℕ
function_weight roots s table weight n k =
    window_weight roots s table weight n record { bridge = k; class = Io }
    + window_weight roots s table weight n record { bridge = k; class = Memory }
    + window_weight roots s table weight n record { bridge = k; class = Prefetchable }

-- the windows of the functions before an index
abbrev pub windows_total : List ℕ → System → List (ByKind (Option Range)) → (DecodedRange → ℕ) → ℕ → ℕ → ℕ
windows_total roots s table weight n count =
    sum_by (function_weight roots s table weight n) (range_with_len 0 count)

-- the BARs and ROMs of a space on a bus where they are before any wish
abbrev pub own_then : Request → System → Kept → Space → ℕ → List DecodedRange
own_then q s k space bus =
    flat_map (λ r. range_list (place_then q s k r))
    (filter (λ r. are_siblings q.roots bus r.function.slot.bus && are_same_space space (part_space r)
    && not (is_window r.part))
    (flat_map (changing q s) s))

-- these are all of them
abbrev pub AreOwn : Request → System → Kept → List Located → Type 0
AreOwn q s k own =
    (space : Space) (bus : ℕ) → bus < 256 → (weight : DecodedRange → ℕ)
    → located_total q.roots weight (row_number (bus_level q.roots bus) space) own ≡ sum_by weight (own_then q s k space bus)

-- a range was put at the end of a row
pub record IsPushed (old new : List (List Range)) (row : ℕ) (range : Range) : Type 0 where
  pub added : IsAddedTo (row_at old row) (row_at new row) range
  pub rest : AreSameBut old new row

-- rows were sorted
pub record AreSorted (old new : List (List Range)) : Type 0 where
  pub same : (n : ℕ) (weight : DecodedRange → ℕ) → total weight (row_at new n) ≡ total weight (row_at old n)
  pub order : (n : ℕ) → FirstsRise (row_at new n)

-- a table tells where each window is before any wish: None of one that is closed or isn't there
pub record AreWindowsThen (q : Request) (s : System) (k : Kept) (table : List (ByKind (Option Range))) : Type 0 where
  pub unwished : (r : FunctionPart) → k.wished r ≡ None
  pub windows : (w : BridgeWindow) → IsWindow s w
      → option_map decoded_range_of (told table w.bridge w.class)
      ≡ place_then q s k (window_part (window_class w) (bridge_of_window s w))
  pub devices : (w : BridgeWindow) → w.bridge < length s → is_bridge (bridge_of_window s w) ≡ false
      → told table w.bridge w.class ≡ None
  pub there : (w : BridgeWindow) → IsWindow s w → (r : DecodedRange)
      → place_then q s k (window_part (window_class w) (bridge_of_window s w)) ≡ Some r
      → has_window (window_class w) (bridge_of_window s w).probe ≡ true
