-- What is found at a slot and register.
use Rattle.std.specs.Prelude.{◌≡◌, ℕ, ◌≤◌}
use Rattle.std.specs.List.{Contains}
use Rattle.pci_spec.specs.Slot.{Slot}
use Rattle.pci_spec.specs.System.{System, Function, Space, Part, Claims, register_of}
use Rattle.pci_spec.specs.Decoded as decoded
use Rattle.pci_spec.specs.Why.{Region as RegionValue}
use Rattle.pci_base.specs.declared.range.Range.{Range}
use Rattle.pci_function.specs.declared.record.Record.{Record}
use Rattle.pci_tree.specs.declared.region.Region.{Region}
use Rattle.pci_tree.specs.Regions.{regions_of, IsRegionOf}

-- the region is one of the record's, at this register, and has an address
pub record IsRegionAt (r : Record) (space : Space) (reg : ℕ) (q : Region) : Type 0 where
  pub has : Contains (regions_of r space) q
  pub register : q.reg ≡ reg
  pub some : q.first ≤ q.last

-- the record has none
abbrev pub HasNoRegionAt : Record → Space → ℕ → Type 0
HasNoRegionAt r space reg = (q : Region) → IsRegionAt r space reg q → ⊥

-- the region at a slot and register of a system
pub record IsFoundIn (s : System) (slot : Slot) (reg : ℕ) (space : Space) (q : Region) : Type 0 where
  pub f : Function
  pub part : Part
  pub listed : Contains s f
  pub is : IsRegionOf f part space q
  pub slot_is : q.slot ≡ slot
  pub register : q.reg ≡ reg
  -- no other part that the register names claims an address
  pub all : (g : Function) (other : Part) (a : ℕ) → Contains s g → g.slot ≡ slot
      → register_of g other ≡ reg → Claims g other space a → (q.first ≤ a) × (a ≤ q.last)

-- no part of a function of the slot that this register names claims an address of the space
abbrev pub NoneClaims : System → Slot → ℕ → Space → Type 0
NoneClaims s slot reg space =
    (f : Function) (part : Part) (a : ℕ) → Contains s f → f.slot ≡ slot
    → register_of f part ≡ reg → Claims f part space a → ⊥

abbrev pub range_at : Region → Range
range_at q = record { first = q.first; last = q.last }

abbrev pub bounds_range : Region → decoded.Range
bounds_range q = record { first = q.first; last = q.last }

-- a region as the definitions have it
abbrev pub region_of_found : Region → Part → Space → RegionValue
region_of_found q part space = record {
  slot = q.slot;
  register = q.reg;
  part = part;
  space = space;
  prefetchable = q.prefetch;
  range = bounds_range q;
}
