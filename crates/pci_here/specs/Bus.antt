-- A bus of a machine, as Linux names it.
use Rattle.std.specs.Prelude.{◌≡◌, ℕ, ◌<◌, List, ◌∷◌, ◌++◌}
use Rattle.pci_spec.specs.Text.{hex_byte}
use Rattle.pci_here.specs.Place.{IsDomainWord}
use Rattle.pci_here.specs.declared.bus.Bus.{Bus}

-- the domain, a colon and the bus
pub record IsBusName (name : List ℕ) (bus : Bus) : Type 0 where
  pub word : List ℕ
  pub domain : IsDomainWord word bus.domain
  pub below : bus.number < 256
  pub text : name ≡ word ++ 58 ∷ hex_byte bus.number
