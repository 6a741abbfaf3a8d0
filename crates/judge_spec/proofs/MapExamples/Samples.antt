-- Regions and lines of the examples.
use Rattle.std.proofs.Common.{ℕ, List, ◌++◌, ◌∷◌, [], Bool}
use Rattle.pci_spec.specs.Slot.{Slot}
use Rattle.pci_spec.specs.System.{Space, Part}
use Rattle.pci_spec.specs.Why.{Region}
use Rattle.pci_spec.proofs.Examples.Samples.{range}
use Rattle.judge_spec.specs.ToldClaims.{Told, nothing_told}
use Rattle.judge_spec.specs.Regions.{MapRegion, Own}
use Rattle.judge_spec.specs.Lines.{Lines}
use Rattle.judge_spec.specs.Map.{MapSpace}

abbrev pub line : List ℕ → List ℕ
line text = text ++ 10 ∷ []

abbrev pub region : Slot → ℕ → Part → Space → Bool → ℕ → ℕ → Region
region slot register part space prefetchable first last =
    record { slot = slot; register = register; part = part; space = space; prefetchable = prefetchable; range = range first last }

-- the same as a map has it
abbrev pub own : Slot → ℕ → Part → Space → Bool → ℕ → ℕ → MapRegion
own slot register part space prefetchable first last =
    Own (region slot register part space prefetchable first last)

-- the lines of a space where no bridge takes anything
abbrev pub untaken : Lines → MapSpace
untaken lines = record { lines = lines; taken = [] }

abbrev pub untold : Told
untold = nothing_told []
