-- What Linux tells of the PCI functions of a machine.
use Rattle.std.specs.Prelude.{◌≡◌, ℕ, ◌<◌, ◌≤◌, Bool, List, Option, None, Some, String, length, take, string_bytes}
use Rattle.std.specs.Global.{Global}
use Rattle.pci_here.specs.Log.{Registers}
use Rattle.pci_here.specs.Place.{FunctionPlace}
use Rattle.pci_here.specs.declared.trouble.Trouble.{Trouble}
use Rattle.pci_here.specs.declared.trouble.Trouble.TheVariants.{Memory, Unread, Short, NoRoot, TooMany}

-- The names of the folder `devices`, and what stands in each function's folder there; two files of `proc`. There is none
-- of what can't be read.
pub record Shown : Type 0 where
  pub names : Option (List (List ℕ))
  pub config : FunctionPlace → Option (List ℕ)
  pub resource : FunctionPlace → Option (List ℕ)
  pub link : FunctionPlace → Option (List ℕ)
  pub is_virtual : FunctionPlace → Option Bool
  pub ioports : Option (List ℕ)
  pub iomem : Option (List ℕ)
  -- what the kernel's log tells of a function's registers
  pub log : FunctionPlace → Registers

-- the machine, and what a log tells of its functions' registers
abbrev pub with_log : Option Shown → (FunctionPlace → Registers) → Option Shown
with_log None log = None
with_log (Some m) log = Some record {
  names = m.names;
  config = m.config;
  resource = m.resource;
  link = m.link;
  is_virtual = m.is_virtual;
  ioports = m.ioports;
  iomem = m.iomem;
  log = log;
}

-- why something isn't had: it can't be read, or memory is refused
abbrev pub IsNotHad : {X : Type 0} → Option X → Trouble → Type 0
IsNotHad told Memory = Unit {0}
IsNotHad told Unread = told ≡ None
IsNotHad told Short = ⊥
IsNotHad told NoRoot = ⊥
IsNotHad told TooMany = ⊥

-- the first 256 bytes of what a file holds
pub record IsFileFront (told : Option (List ℕ)) (image : List ℕ) : Type 0 where
  pub bytes : List ℕ
  pub is_told : told ≡ Some bytes
  pub enough : 256 ≤ length bytes
  pub first : image ≡ take 256 bytes

-- the text of a file, where it can be read
abbrev pub IsText : Option (List ℕ) → Option (String Global) → Type 0
IsText told None = told ≡ None
IsText told (Some text) = told ≡ Some (string_bytes text)

-- why a function's 256 bytes aren't had: there are less, it can't be read, or memory is refused
abbrev pub IsNoFront : Option (List ℕ) → Trouble → Type 0
IsNoFront told Memory = Unit {0}
IsNoFront told Unread = told ≡ None
IsNoFront told Short = (bytes : List ℕ) × (told ≡ Some bytes) × (length bytes < 256)
IsNoFront told NoRoot = ⊥
IsNoFront told TooMany = ⊥
