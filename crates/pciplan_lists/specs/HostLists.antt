-- Lists of the addresses that the host sends to its root buses.
use Rattle.std.specs.Prelude.{◌≡◌, ℕ, ◌<◌, ◌≤◌, List, Option, Some, IsTrue, slice_get}
use Rattle.std.specs.List.{Contains}
use Rattle.judge_spec.specs.Given.{HostRange, is_for, sends}
use Rattle.pci_base.specs.declared.range.RootRange.{RootRange}

-- a range as the definitions of what is given have it
abbrev pub host_range_of : RootRange → HostRange
host_range_of r = record { root = r.root; first = r.range.first; last = r.range.last }

-- a range that isn't backward, of a root bus or of all
pub record IsGoodRange (roots : List ℕ) (r : RootRange) : Type 0 where
  pub forward : r.range.first ≤ r.range.last
  pub has_root : (bus : ℕ) → r.root ≡ Some bus → Contains roots bus

-- an address is sent to a bus by both of two ranges
pub record RangesMeet (r q : RootRange) : Type 0 where
  pub bus : ℕ
  pub address : ℕ
  pub by_one : IsTrue (sends bus address (host_range_of r))
  pub by_other : IsTrue (sends bus address (host_range_of q))

-- a range of a list meets one before it
pub record MeetsEarlier (list : List RootRange) (index : ℕ) : Type 0 where
  pub earlier : ℕ
  pub before : earlier < index
  pub one : RootRange
  pub other : RootRange
  pub is_one : slice_get list earlier ≡ Some one
  pub is_other : slice_get list index ≡ Some other
  pub meet : RangesMeet one other

-- each range is good, and none meets another one
pub record IsGoodHostList (roots : List ℕ) (list : List RootRange) : Type 0 where
  pub ranges : (i : ℕ) (r : RootRange) → slice_get list i ≡ Some r → IsGoodRange roots r
  pub apart : (i : ℕ) → MeetsEarlier list i → ⊥

-- a bus has two ranges
pub record ShareBus (one other : Option ℕ) : Type 0 where
  pub bus : ℕ
  pub by_one : IsTrue (is_for one bus)
  pub by_other : IsTrue (is_for other bus)
