-- What told ranges hold behind items that are placed around a window.
use Rattle.std.specs.Prelude.{◌≡◌, ◌⊎◌, ℕ, ◌+◌, ◌-◌, ◌<◌, Bool, true, false, IsTrue, List, map}
use Rattle.std.specs.List.{Contains}
use Rattle.pci_spec.specs.Decoded.{Range as DecodedRange, HasRecords}
use Rattle.pci_spec.specs.System.{System, IsSystem, has_part}
use Rattle.pci_spec.specs.Bus.{IsNested}
use Rattle.settle_spec.specs.Lines.{lines_behind}
use Rattle.settle_spec.specs.Lists.{Request}
use Rattle.pci_base.specs.declared.window_kind.WindowKind.{WindowKind as CodeKind}
use Rattle.pci_base.specs.WindowKinds.{kind_value}
use Rattle.pci_function.specs.declared.record.Record.{Record}
use Rattle.pci_function.specs.Values.{record_value}
use Rattle.pci_place.specs.Items.{function_in}
use Rattle.pci_first_fit.specs.declared.item.Item.{Item}
use Rattle.pci_first_fit.specs.declared.item.Part.{Part as ItemPart}
use Rattle.pci_first_fit.specs.declared.item.Part.TheVariants as items
use Rattle.pci_first_fit.specs.declared.lines.Line.{Line}
use Rattle.pci_first_fit.specs.Lines.{AreLines}
use Rattle.pci_first_fit.specs.Own.{class_part}
use Rattle.pci_grow.specs.declared.ground.Ground.{Ground as CodeGround}

abbrev pub is_new_window : ItemPart → Bool
is_new_window (items.Bar n) = false
is_new_window items.Rom = false
is_new_window items.Window = true

-- functions, rows of told ranges, and the class that is placed
pub record Ground : Type 0 where
  pub records : List Record
  pub lines : List Line
  pub class : CodeKind

abbrev pub ground_value : CodeGround → Ground
ground_value g = record { records = g.records.now; lines = g.lines.now; class = g.class }

-- the part of a lawful system's function that an item is, and what lines hold behind that
pub record IsBehindItem (g : Ground) (i : Item) (held : List DecodedRange) : Type 0 where
  pub q : Request
  pub s : System
  pub system : IsSystem s
  pub nested : IsNested q.roots s
  pub has : HasRecords s (map record_value g.records)
  pub rows : AreLines q.roots q.told.ranges g.lines
  pub listed : Contains s (function_in s i.function)
  pub there : IsTrue (has_part (function_in s i.function) (class_part (kind_value g.class) i.part))
  pub held_is : held ≡ lines_behind q
      record { function = function_in s i.function; part = class_part (kind_value g.class) i.part }

-- ---- lists that take the same addresses

-- so many addresses from one on share none with these ranges
abbrev pub AreOff : List DecodedRange → ℕ → ℕ → Type 0
AreOff xs size a = (t : DecodedRange) → Contains xs t → (a + (size - 1) < t.first) ⊎ (t.last < a)

-- what is off one list is off the other
pub record AreAlike (xs ys : List DecodedRange) : Type 0 where
  pub to : (size a : ℕ) → AreOff xs size a → AreOff ys size a
  pub back : (size a : ℕ) → AreOff ys size a → AreOff xs size a
