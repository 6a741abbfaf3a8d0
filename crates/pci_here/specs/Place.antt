-- Where a function of a machine stands: its domain, and its slot there. Linux names its folder by both.
use Rattle.std.specs.Prelude.{◌≡◌, ℕ, ◌+◌, ◌-◌, ◌*◌, ◌≤◌, false, List, ◌∷◌, ◌++◌, length, replicate}
use Rattle.std.specs.Fmt.{digits}
use Rattle.pci_spec.specs.Slot.{Slot, IsSlot, slot_number}
use Rattle.pci_spec.specs.Text.{slot_text}
use Rattle.pciplan_lists.specs.PoolWords.{IsAddressWord}

pub record FunctionPlace : Type 0 where
  pub domain : ℕ
  pub slot : Slot

-- the domain in 4 to 8 hex digits
pub record IsDomainWord (word : List ℕ) (domain : ℕ) : Type 0 where
  pub number : IsAddressWord word domain
  pub least : 4 ≤ length word
  pub most : length word ≤ 8

-- the domain, a colon and the slot
pub record IsPlaceName (name : List ℕ) (p : FunctionPlace) : Type 0 where
  pub word : List ℕ
  pub domain : IsDomainWord word p.domain
  pub slot : IsSlot p.slot
  pub text : name ≡ word ++ 58 ∷ slot_text p.slot

-- one number, which orders places by domain and slot
abbrev pub function_place_number : FunctionPlace → ℕ
function_place_number p = p.domain * 65536 + slot_number p.slot

-- a number in hex digits, without a zero in front
abbrev pub hex_text : ℕ → List ℕ
hex_text n = digits 16 false n

-- a domain as Linux prints it, in at least four digits
abbrev pub domain_text : ℕ → List ℕ
domain_text n = replicate (4 - length (hex_text n)) 48 ++ hex_text n

abbrev pub function_place_text : FunctionPlace → List ℕ
function_place_text p = domain_text p.domain ++ (58 ∷ slot_text p.slot)
