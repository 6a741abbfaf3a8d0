-- A byte of a function that is of no address register and not of Command.
use Rattle.std.proofs.Common.{◌≡◌, ℕ, ◌<◌, ◌≤◌, false}
use Rattle.std.specs.List.{list_any}
use Rattle.pci_spec.specs.Header.{layout, address_registers, is_in_register}
use Rattle.pci_spec.specs.System.{Function}

-- a byte of no address register and not of Command
pub record IsAsideOf (f : Function) (place : ℕ) : Type 0 where
  pub high : 6 ≤ place
  pub inside : place < 256
  pub out : list_any (is_in_register place) (address_registers (layout f.image)) ≡ false
