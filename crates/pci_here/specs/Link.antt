-- The host bus that a function is below. The link of its folder leads through folders of `sys/devices`: the host bus's,
-- those of the bridges below it, and its own.
use Rattle.std.specs.Prelude.{◌≡◌, ℕ, ◌==◌, List, ◌∷◌, ◌++◌, codes, Option, None, Some}
use Rattle.std.specs.List.{All, slice_split}
use Rattle.pci_here.specs.declared.bus.Bus.{Bus}
use Rattle.pci_here.specs.Bus.{IsBusName}

-- the folder of a host bus: `pci` and the bus's name
pub record IsHostFolder (folder : List ℕ) (bus : Bus) : Type 0 where
  pub name : List ℕ
  pub is : IsBusName name bus
  pub text : folder ≡ codes "pci" ++ name

abbrev pub IsNoHostFolder : List ℕ → Type 0
IsNoHostFolder folder = (bus : Bus) → IsHostFolder folder bus → ⊥

-- the folders of a path, between its slashes
abbrev pub folders : List ℕ → List (List ℕ)
folders path = slice_split (λ byte. byte == 47) path

-- the number of the bus of the last folder that is a host bus's
pub record IsLastHostBus (path : List (List ℕ)) (number : ℕ) : Type 0 where
  pub bus : Bus
  pub before : List (List ℕ)
  pub folder : List ℕ
  pub behind : List (List ℕ)
  pub parts : path ≡ before ++ folder ∷ behind
  pub is : IsHostFolder folder bus
  pub last : All IsNoHostFolder behind
  pub of : number ≡ bus.number

-- it is None where no folder is a host bus's
abbrev pub IsLastIn : List (List ℕ) → Option ℕ → Type 0
IsLastIn path None = All IsNoHostFolder path
IsLastIn path (Some number) = IsLastHostBus path number

-- The host bus that a path leads through last: a domain may begin behind a function of another domain.
abbrev pub IsHostBus : List ℕ → ℕ → Type 0
IsHostBus path number = IsLastHostBus (folders path) number
