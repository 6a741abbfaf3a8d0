-- BARs of 64 bits.
use Rattle.std.specs.Prelude.{◌≡◌, ℕ}
use Rattle.std.specs.List.{Any}
use Rattle.pci_image.specs.declared.bar.Bar.{Bar}
use Rattle.pci_image.specs.declared.bar.BarKind.TheVariants.{Mem64}
use Rattle.pci_function.specs.declared.record.Record.{Record}
use Rattle.pci_tree.specs.declared.region.Region.{Region}
use Rattle.pci_tree.specs.declared.region.Part.TheVariants as parts

-- the BAR is that of a register, and has 64 bits
abbrev pub IsWideAt : ℕ → Bar → Type 0
IsWideAt reg b = (b.reg ≡ reg) × (b.kind ≡ Mem64)

-- the region is such a BAR of the function
abbrev pub IsWideIn : Record → Region → Type 0
IsWideIn r q = (q.part ≡ parts.Bar) × Any (IsWideAt q.reg) r.bars.items
