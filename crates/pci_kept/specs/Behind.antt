-- What lines hold behind items of a class.
use Rattle.std.specs.Prelude.{ℕ, ◌<◌, IsTrue, List, [], map, length, slice_index_or}
use Rattle.std.specs.List.{All}
use Rattle.std.specs.List.Sorted.{IsPermutation}
use Rattle.pci_spec.specs.Window.{WindowKind}
use Rattle.pci_spec.specs.Decoded.{HasRecords}
use Rattle.pci_spec.specs.System.{System, has_part}
use Rattle.settle_spec.specs.Lists.{Request}
use Rattle.settle_spec.specs.Lines.{lines_behind}
use Rattle.pci_base.specs.declared.range.Range.{Range}
use Rattle.pci_base.specs.Ranges.{decoded_range_of}
use Rattle.pci_function.specs.declared.record.Record.{Record}
use Rattle.pci_function.specs.Values.{record_value}
use Rattle.pci_first_fit.specs.declared.item.Item.{Item}
use Rattle.pci_first_fit.specs.declared.lines.Line.{Line}
use Rattle.pci_first_fit.specs.Lines.{AreLines, AreAdded}
use Rattle.pci_first_fit.specs.Own.{asked_item_value}

-- an item is a part that its function has
abbrev pub IsPartIn : System → WindowKind → Item → Type 0
IsPartIn s c i =
    IsTrue (has_part (asked_item_value s c i).region.function (asked_item_value s c i).region.part)

-- to ranges those are added that lines hold behind an item
abbrev pub AreAddedBehind : List Record → List Line → WindowKind → Item → List Range → List Range → Type 0
AreAddedBehind records lines c i old new =
    (q : Request) (s : System) → HasRecords s (map record_value records) → AreLines q.roots q.told.ranges lines
    → IsPartIn s c i → AreAdded old new (lines_behind q (asked_item_value s c i).region)

-- the first of some items have theirs in a table
abbrev pub AreBehindTo : Request → System → WindowKind → List Item → ℕ → List (List Range) → Type 0
AreBehindTo q s c items n behind =
    (k : ℕ) (d : Item) → k < n
    → IsPermutation (lines_behind q (asked_item_value s c (slice_index_or items k d)).region)
    (map decoded_range_of (slice_index_or behind k []))

-- and so has each of them
abbrev pub AreBehindEach : List Record → List Line → WindowKind → List Item → List (List Range) → Type 0
AreBehindEach records lines c items behind =
    (q : Request) (s : System) → HasRecords s (map record_value records) → AreLines q.roots q.told.ranges lines
    → All (IsPartIn s c) items → AreBehindTo q s c items (length items) behind
