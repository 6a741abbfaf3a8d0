-- What functions answer beside their BARs and ROMs: ranges of addresses that a text tells of.
use Rattle.std.specs.Prelude.{◌≡◌, ℕ, ◌≤◌, nat_le, Bool, false, ◌&&◌, IsTrue, List, length}
use Rattle.std.specs.List.{All}
use Rattle.std.specs.List.Sorted.{IsNonDecreasingBy}
use Rattle.pci_spec.specs.Slot.{Slot, IsSlot, slot_number}
use Rattle.pci_spec.specs.System.{Space, Io, IsAddress}

-- when a range is answered
pub data Mark : Type 0 where
  -- while the function's Command enables the space
  Command : Mark
  -- whatever its Command says
  Always : Mark
  -- somebody there answers it, and nothing else is known of whom
  Held : Mark

pub record ToldRange : Type 0 where
  pub slot : Slot
  pub space : Space
  -- a prefetchable window passes it, too, as it does a prefetchable BAR
  pub prefetchable : Bool
  pub first : ℕ
  pub last : ℕ
  pub mark : Mark
  -- for the reader, and empty where there is none
  pub name : List ℕ

-- a byte of a name: printable ASCII without the space
abbrev pub is_name_byte : ℕ → Bool
is_name_byte c = nat_le 0x21 c && nat_le c 0x7e

abbrev pub IsName : List ℕ → Type 0
IsName name = (length name ≤ 32) × All (λ c. IsTrue (is_name_byte c)) name

-- the numbers and the name are in their ranges, and no I/O range is prefetchable
pub record IsToldLine (r : ToldRange) : Type 0 where
  pub slot : IsSlot r.slot
  pub plain : r.space ≡ Io → r.prefetchable ≡ false
  pub first : IsAddress r.space r.first
  pub last : IsAddress r.space r.last
  pub name : IsName r.name

-- it isn't backward, either
pub record IsToldRange (r : ToldRange) : Type 0 where
  pub line : IsToldLine r
  pub forward : r.first ≤ r.last

-- no slot is below the one before it
abbrev pub AreInSlotOrder : List ToldRange → Type 0
AreInSlotOrder ranges = IsNonDecreasingBy (λ r. slot_number r.slot) ranges

-- the ranges that a text can tell of: at most 4096
pub record IsTold (ranges : List ToldRange) : Type 0 where
  pub each : All IsToldRange ranges
  pub order : AreInSlotOrder ranges
  pub room : length ranges ≤ 4096
