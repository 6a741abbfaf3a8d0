-- What registers have to hold to show a range.
use Rattle.std.specs.Prelude.{ℕ, ◌+◌, ◌%◌, ◌^◌, List}
use Rattle.pci_spec.specs.Bar.{BarKind, IoBar, Memory32, Memory64, Reserved, bar_at, bar_kind, whole_bar, first_bit}
use Rattle.pci_spec.specs.Rom.{rom_at}

-- how far addresses of a kind of BAR may go: no pool of I/O goes further than 64 KB
abbrev pub reach_of : BarKind → ℕ
reach_of IoBar = 16
reach_of Memory32 = 32
reach_of Memory64 = 64
reach_of Reserved = 32

-- the whole number of a BAR: the first address, with the encoding that stands there
abbrev pub bar_value : List ℕ → List ℕ → ℕ → ℕ → ℕ
bar_value image probe n first =
    first + whole_bar probe image n % 2 ^ first_bit (bar_kind (bar_at probe n))

-- that of a ROM: the first address, with the enable bit
abbrev pub rom_value : List ℕ → ℕ → ℕ
rom_value image first = first + rom_at image image % 2 ^ 1
