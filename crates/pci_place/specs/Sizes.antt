-- The sizes of what a record has of a class.
use Rattle.std.specs.Prelude.{◌≡◌, ℕ, ◌+◌, ◌-◌, nat_lt, if◌then◌else◌, List, [], ◌∷◌, ◌++◌, map, Option, None, Some, slice_index}
use Rattle.std.specs.List.{filter, sum}
use Rattle.pci_spec.specs.Window.{WindowKind, MemoryWindow}
use Rattle.plan_spec.specs.Plan.{same_class, window_size, limited}
use Rattle.plan_spec.specs.Plan as plan
use Rattle.pci_image.specs.declared.bar.Bar.{Bar}
use Rattle.pci_image.specs.declared.rom.Rom.{Rom}
use Rattle.pci_function.specs.declared.record.Bridge.{Bridge}
use Rattle.pci_function.specs.declared.record.Record.{Record}
use Rattle.pci_place.specs.declared.above.Above.{Above}
use Rattle.pci_place.specs.declared.pools.Pools.{Pools}
use Rattle.pci_place.specs.declared.need.Tally.{Tally}
use Rattle.pci_place.specs.Classes.{bar_class}

-- how many addresses there are from the first to the last
abbrev pub span : ℕ → ℕ → ℕ
span first last = last - first + 1

-- the sizes of the BARs of a class
abbrev pub bar_sizes : WindowKind → Above → Pools → List Bar → List ℕ
bar_sizes c above pools bars =
    map (λ (b : Bar). span b.first b.last)
    (filter (λ b. same_class c (bar_class b above pools)) bars)

-- the size of a ROM, which is memory
abbrev pub rom_sizes : WindowKind → Option Rom → List ℕ
rom_sizes c None = []
rom_sizes c (Some rom) = if same_class c MemoryWindow then span rom.first rom.last ∷ [] else []

-- the sizes of a function's own BARs and ROM of a class
abbrev pub record_own_sizes : WindowKind → Above → Pools → Record → List ℕ
record_own_sizes c above pools r = bar_sizes c above pools r.bars.items ++ rom_sizes c r.rom

-- the size of the window of a bridge with something behind it, by what the buses need
abbrev pub window_sizes : WindowKind → List ℕ → Option Bridge → List ℕ
window_sizes c needs None = []
window_sizes c needs (Some b) =
    if nat_lt 0 (slice_index needs b.secondary)
    then window_size c (slice_index needs b.secondary) ∷ [] else []

-- the sum of some sizes, as far as it is told apart, and the greatest of them
pub record IsTallyOf (sizes : List ℕ) (t : Tally) : Type 0 where
  pub total : t.sum ≡ limited (sum sizes)
  pub most : t.greatest ≡ plan.greatest sizes
