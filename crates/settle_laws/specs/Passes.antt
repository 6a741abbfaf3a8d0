-- One pass over all parts, each after what tells whether it stands: what is told of the first of them.
use Rattle.std.specs.Prelude.{◌≡◌, ℕ, ◌<◌, Bool, IsTrue, List, length, slice_index_or}
use Rattle.std.specs.List.{Contains, AllPairs}
use Rattle.pci_spec.specs.Decoded.{Range}
use Rattle.pci_spec.specs.System.{System}
use Rattle.settle_spec.specs.Lists.{Request}
use Rattle.settle_spec.specs.Parts.{FunctionPart, system_parts, addresses}
use Rattle.settle_spec.specs.Stands.{are_beside, stands_if}
use Rattle.settle_laws.specs.Order.{comes_first}

-- all parts of a system, each after those that come first
pub record AreInOrder (q : Request) (s : System) (rs : List FunctionPart) : Type 0 where
  pub all : (r : FunctionPart) → Contains (system_parts q s) r → Contains rs r
  pub only : (r : FunctionPart) → Contains rs r → Contains (system_parts q s) r
  pub order : AllPairs (λ r t. IsTrue (comes_first q s r t)) rs

-- one of the first parts
pub record IsAmong (rs : List FunctionPart) (count : ℕ) (r : FunctionPart) : Type 0 where
  pub at : ℕ
  pub first : at < count
  pub within : at < length rs
  pub is : slice_index_or rs at r ≡ r

-- a test tells what has to be told of the first parts, and of no other that it stands
pub record AreFirstTold (q : Request) (s : System) (rs : List FunctionPart) (count : ℕ) (test : FunctionPart → Bool) : Type 0 where
  pub each : (k : ℕ) (d : FunctionPart) → k < count → k < length rs → test (slice_index_or rs k d) ≡ stands_if q s test (slice_index_or rs k d)
  pub only : (r : FunctionPart) → Contains s r.function → IsTrue (test r) → IsAmong rs count r

-- ranges are those of what stands beside a part
pub record AreTakenBeside (q : Request) (s : System) (test : FunctionPart → Bool) (r : FunctionPart) (taken : List Range) : Type 0 where
  pub each : (x : Range) → Contains taken x → (t : FunctionPart) × Contains (system_parts q s) t × IsTrue (test t) × IsTrue (are_beside q t r) × (addresses t ≡ x)
  pub all : (t : FunctionPart) → Contains (system_parts q s) t → IsTrue (test t) → IsTrue (are_beside q t r) → Contains taken (addresses t)
