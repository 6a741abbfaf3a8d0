-- Laws of places beside what is kept: buses can be gone over as they rise, and all roots have one placing.
use Rattle.std.specs.Prelude.{◌≡◌, ℕ, ◌<◌, IsTrue}
use Rattle.pci_spec.specs.System.{System, IsSystem, Space}
use Rattle.pci_spec.specs.Bus.{is_root, IsNested}
use Rattle.settle_spec.specs.Items.{place_each}
use Rattle.settle_spec.specs.Lines.{taken_for}
use Rattle.settle_spec.specs.Lists.{Request}
use Rattle.settle_spec.specs.Places.{placed_of}
use Rattle.settle_spec.specs.Kept.{Kept}
use Rattle.settle_spec.specs.Keeping.Places.{place_of_item, space_items, taken_at, placing_on}

-- The places of a bus are told by those of the bus on which the bridge to it stands.
abbrev pub PlacingIsByBus : Type 0
PlacingIsByBus =
    (q : Request) (s : System) (k : Kept) (space : Space) (bus : ℕ) → IsSystem s → IsNested q.roots s
    → bus < 256
    → placing_on q s k space bus
    ≡ place_each (λ i taken. place_of_item q s k (λ over. placed_of (placing_on q s k space over)) i (taken_for q i.region taken))
    (taken_at q s k space bus) (space_items q s k space bus)

-- On each root the same is placed at the same places.
abbrev pub RootsAreOne : Type 0
RootsAreOne =
    (q : Request) (s : System) (k : Kept) (space : Space) (root other : ℕ)
    → IsTrue (is_root q.roots root) → IsTrue (is_root q.roots other)
    → placing_on q s k space root ≡ placing_on q s k space other
