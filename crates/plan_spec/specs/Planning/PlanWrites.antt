-- The writes that lead from one state of a system to another, in an order in which they can stop anywhere.
use Rattle.std.specs.Prelude.{ℕ, ◌==◌, if◌then◌else◌, List, [], ◌∷◌, ◌++◌, map}
use Rattle.std.specs.List.{flat_map}
use Rattle.pci_spec.specs.Number.{number_at}
use Rattle.pci_spec.specs.Registers.{COMMAND}
use Rattle.pci_spec.specs.Header.{command, layout, address_registers}
use Rattle.pci_spec.specs.System.{System, Function, is_bridge}
use Rattle.pci_spec.specs.Machine.{Write, without_low}
use Rattle.plan_spec.specs.Planning.Safety.{is_on}

-- a function as it is, and as it is to be
pub record Change : Type 0 where
  pub old : Function
  pub new : Function

abbrev pub olds : List Change → System
olds changes = map (λ c. c.old) changes

abbrev pub news : List Change → System
news changes = map (λ c. c.new) changes

-- Command with the bits that enable a space clear
abbrev pub closed_command : Function → ℕ
closed_command f = without_low 4 (command f.image)

abbrev pub closing_of : Change → List Write
closing_of c =
    if is_on c.old
    then record { slot = c.old.slot; offset = COMMAND; width = 2; value = closed_command c.old }
    ∷ [] else []

-- the write of a register that is to change
abbrev pub register_write : Change → (ℕ × ℕ) → List Write
register_write c r =
    if number_at c.new.image r.0 r.1 == number_at c.old.image r.0 r.1 then []
    else record
    { slot = c.old.slot; offset = r.0; width = r.1; value = number_at c.new.image r.0 r.1 } ∷ []

abbrev pub registers_of : Change → List Write
registers_of c = flat_map (register_write c) (address_registers (layout c.old.image))

abbrev pub opening_of : Change → List Write
opening_of c =
    if command c.new.image == closed_command c.old then []
    else record { slot = c.old.slot; offset = COMMAND; width = 2; value = command c.new.image } ∷ []

-- what is on is closed, the highest slot first
abbrev pub closing_writes : List Change → List Write
closing_writes [] = []
closing_writes (c ∷ changes) = closing_writes changes ++ closing_of c

abbrev pub register_writes : List Change → List Write
register_writes changes = flat_map registers_of changes

abbrev pub opening_writes : List Change → List Write
opening_writes changes = flat_map opening_of changes

abbrev pub plan_writes : List Change → List Write
plan_writes changes = closing_writes changes ++ (register_writes changes ++ opening_writes changes)

-- how many writes a function can take: to Command twice, and to each address register
abbrev pub most_writes : Change → ℕ
most_writes c = if is_bridge c.old then 11 else 9
