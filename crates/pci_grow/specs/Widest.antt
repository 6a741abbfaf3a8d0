-- Ranges by rising first and last addresses, which hold others.
use Rattle.std.specs.Prelude.{◌≡◌, ℕ, ◌≤◌, nat_lt, Bool, true, false, List, [], ◌∷◌, ◌++◌, Option, None, Some}
use Rattle.std.specs.List.{Contains}
use Rattle.pci_base.specs.declared.range.Range.{Range}

-- a range ends behind an address, if there is one
abbrev pub is_beyond : Option ℕ → Range → Bool
is_beyond None r = true
is_beyond (Some e) r = nat_lt e r.last

-- a range is kept where a test holds of it, and the greatest last address is told
abbrev pub KeptBy : Bool → Option ℕ → Range → List Range → Option ℕ → List Range → Type 0
KeptBy true end r old next new = (next ≡ Some r.last) × (new ≡ old ++ r ∷ [])
KeptBy false end r old next new = (next ≡ end) × (new ≡ old)

-- a range lies in one of some
pub record LiesInOne (xs : List Range) (r : Range) : Type 0 where
  pub around : Range
  pub listed : Contains xs around
  pub first : around.first ≤ r.first
  pub last : r.last ≤ around.last
