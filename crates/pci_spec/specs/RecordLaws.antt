-- What records settle: systems that decode to the same records claim the same.
use Rattle.std.specs.Prelude.{◌≡◌, ℕ, List}
use Rattle.std.specs.List.{Contains}
use Rattle.pci_spec.specs.System.{System, Function, Space, Part, Claims, register_of}
use Rattle.pci_spec.specs.Decoded.{Record, HasRecords}

-- the same region of another system claims the address too
pub record ClaimsToo (t : System) (f : Function) (part : Part) (space : Space)
    (a : ℕ) : Type 0 where
  pub g : Function
  pub listed : Contains t g
  pub slot : g.slot ≡ f.slot
  pub register : register_of g part ≡ register_of f part
  pub claims : Claims g part space a

-- Records settle which regions claim an address.
abbrev pub RecordsSettleClaims : Type 0
RecordsSettleClaims =
    (s t : System) (records : List Record) → HasRecords s records → HasRecords t records
    → (f : Function) (part : Part) (space : Space) (a : ℕ) → Contains s f → Claims f part space a
    → ClaimsToo t f part space a
