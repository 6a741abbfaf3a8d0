-- Laws of titles that name assumed registers.
use Rattle.std.specs.Prelude.{◌≡◌, ℕ, ◌<◌, ◌≤◌, List, Option, IfSome, length}
use Rattle.std.specs.List.{All, Contains}
use Rattle.pci_spec.specs.Text.{IsTitle}
use Rattle.pci_spec.specs.Mark.{mark, marked}

-- What is written for registers names just these, in their order,
abbrev pub MarkNames : Type 0
MarkNames = (registers : List ℕ) → All (λ r. r < 256) registers → marked (mark registers) ≡ registers

-- a title that names a register is what is written for the registers that it names,
abbrev pub NamedIsMark : Type 0
NamedIsMark =
    (title : Option (List ℕ)) (register : ℕ) → Contains (marked title) register
    → title ≡ mark (marked title)

-- and it is a title, as long as there are no more registers than a header has.
abbrev pub MarkIsTitle : Type 0
MarkIsTitle =
    (registers : List ℕ) → All (λ r. r < 256) registers → length registers ≤ 64
    → IfSome (mark registers) IsTitle
