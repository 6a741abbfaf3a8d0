-- A function with new numbers in its address registers and in Command: what writes leave of it on a machine.
use Rattle.std.specs.Prelude.{◌≡◌, ℕ, ◌^◌, ◌<◌, [], ◌∷◌, ◌++◌, map}
use Rattle.std.specs.List.{Contains, fold}
use Rattle.pci_spec.specs.Number.{number_at}
use Rattle.pci_spec.specs.Registers.{COMMAND}
use Rattle.pci_spec.specs.Header.{command, layout, address_registers}
use Rattle.pci_spec.specs.System.{Function}
use Rattle.pci_spec.specs.Machine.{Write, write_function}
use Rattle.plan_spec.specs.Plan.{IsMoved}
use Rattle.plan_spec.specs.Planning.Fitting.{FitsByNumber}

abbrev pub write_of : Function → (ℕ × ℕ → ℕ) → ℕ × ℕ → Write
write_of f value r = record { slot = f.slot; offset = r.0; width = r.1; value = value r }

abbrev pub command_write : Function → ℕ → Write
command_write f value = record { slot = f.slot; offset = COMMAND; width = 2; value = value }

abbrev pub built : Function → (ℕ × ℕ → ℕ) → ℕ → Function
built f value new_command =
    fold (λ g w. write_function w g) f (map (write_of f value) (address_registers (layout f.image))
    ++ command_write f new_command ∷ [])

-- each number fits its register, and only address bits and enables differ from what is there
pub record AreFitting (f : Function) (value : ℕ × ℕ → ℕ) (new_command : ℕ) : Type 0 where
  pub registers : (r : ℕ × ℕ) → Contains (address_registers (layout f.image)) r
      → FitsByNumber (write_of f value r) f
  pub small : (r : ℕ × ℕ) → Contains (address_registers (layout f.image)) r → value r < 256 ^ r.1
  pub command : FitsByNumber (command_write f new_command) f
  pub command_small : new_command < 256 ^ 2

-- then the function is moved, and shows them
pub record IsBuilt (f g : Function) (value : ℕ × ℕ → ℕ) (new_command : ℕ) : Type 0 where
  pub moved : IsMoved f g
  pub registers : (r : ℕ × ℕ) → Contains (address_registers (layout f.image)) r
      → number_at g.image r.0 r.1 ≡ value r
  pub command_is : command g.image ≡ new_command
