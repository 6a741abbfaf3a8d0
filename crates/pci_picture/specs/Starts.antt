-- Where the functions of a bus stand, among functions by rising slot.
use Rattle.std.specs.Prelude.{◌≡◌, ◌<◌, ◌≤◌, ◌-◌, ◌==◌, ℕ, List, length, nat_lt, slice_index, take, drop}
use Rattle.std.specs.List.{filter}
use Rattle.std.specs.List.Sorted.{IsNonDecreasingBy}
use Rattle.pci_picture.specs.Slots.{bus_of_slot}
use Rattle.pci_picture.specs.declared.function.Function.{Function}

-- the slots of functions rise
abbrev pub FunctionsRise : List Function → Type 0
FunctionsRise functions = IsNonDecreasingBy (λ (function : Function). function.number) functions

-- the functions on a bus
abbrev pub functions_on : ℕ → List Function → List Function
functions_on bus functions = filter (λ (function : Function). bus_of_slot function.number == bus) functions

-- how many functions stand on lower buses
abbrev pub count_below : ℕ → List Function → ℕ
count_below bus functions = length (filter (λ (function : Function). nat_lt (bus_of_slot function.number) bus) functions)

-- the same at each bus, and all functions at 256
abbrev pub AreStarts : List Function → List ℕ → Type 0
AreStarts functions starts = (bus : ℕ) → bus < 257 → slice_index starts bus ≡ count_below bus functions

-- the functions from an index up to another are those on a bus
pub record StandOnBus (functions : List Function) (bus begin end : ℕ) : Type 0 where
  pub rises : begin ≤ end
  pub inside : end ≤ length functions
  pub all : take (end - begin) (drop begin functions) ≡ functions_on bus functions
