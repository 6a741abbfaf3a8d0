-- The places of items, by function in slot order.
use Rattle.std.specs.Prelude.{◌≡◌, ℕ, ◌<◌, List, [], Option, None, slice_index_or}
use Rattle.std.specs.List.{All}
use Rattle.pci_spec.specs.Window.{IoWindow, MemoryWindow, PrefetchWindow}
use Rattle.pci_spec.specs.System.{Part, Bar, Rom, Window}
use Rattle.pci_first_fit.specs.declared.item.Part.{Part as ItemPart}
use Rattle.pci_first_fit.specs.declared.item.Part.TheVariants as parts
use Rattle.pci_first_fit.specs.declared.place.Places.{Places}

-- a header has six Base Address registers at most
abbrev pub IsItemPart : ItemPart → Type 0
IsItemPart (parts.Bar n) = n < 6
IsItemPart parts.Rom = Unit {0}
IsItemPart parts.Window = Unit {0}

-- the place that a part of a function gets
abbrev pub part_place : Places → Part → Option ℕ
part_place p (Bar n) = slice_index_or p.bars n None
part_place p Rom = p.rom
part_place p (Window IoWindow) = p.windows.io
part_place p (Window MemoryWindow) = p.windows.memory
part_place p (Window PrefetchWindow) = p.windows.prefetchable

-- no part gets any
abbrev pub no_place : Places
no_place = record {
  bars = [];
  rom = None;
  windows = record { io = None; memory = None; prefetchable = None };
}

-- what a table tells of a part; a function without an entry gets no place
abbrev pub placed : List Places → ℕ → Part → Option ℕ
placed table k part = part_place (slice_index_or table k no_place) part

-- it tells of no part that it gets a place
abbrev pub ArePlaceless : List Places → Type 0
ArePlaceless table = All (λ p. (part : Part) → part_place p part ≡ None) table

-- of other parts a table tells the same as another one
abbrev pub PlacesSame : List Places → List Places → ℕ → Part → Type 0
PlacesSame old new function part =
    (k : ℕ) (other : Part) → ((k ≡ function) → (other ≡ part) → ⊥)
    → placed new k other ≡ placed old k other
