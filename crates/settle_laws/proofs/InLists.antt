-- A range lies within another where it is inside, and in a list where a range of that holds it.
use Rattle.std.proofs.Common.{◌≡◌, ℕ, true}
use Rattle.std.specs.Bool.{nat_le}
use Rattle.std.proofs.lemmas.Bool.{and_from, and_parts, le-leb, leb-true, or_left, or_right}
use Rattle.pci_spec.specs.Decoded.{Range}
use Rattle.pci_spec.specs.Window.{WindowKind, IoWindow, MemoryWindow, PrefetchWindow}
use Rattle.pci_spec.specs.System.{window_space}
use Rattle.plan_spec.specs.Planning.Layout.{IsInside}
use Rattle.settle_spec.specs.Lists.{Request}
use Rattle.settle_spec.specs.Parts.{lies_within}
use Rattle.settle_spec.specs.Stands.{is_listed, is_in_lists}

pub within_from : (r w : Range) → IsInside r w → lies_within r w ≡ true
within_from r w (from, end) = and_from (nat_le w.first r.first) (nat_le r.last w.last) (le-leb w.first r.first from) (le-leb r.last w.last end)

pub within_gives : (r w : Range) → lies_within r w ≡ true → IsInside r w
within_gives r w h =
    let parts = and_parts (nat_le w.first r.first) (nat_le r.last w.last) h in
    (leb-true w.first r.first parts.0, leb-true r.last w.last parts.1)

pub listed_in : (q : Request) (bus : ℕ) (r : Range) (c : WindowKind) → is_listed q bus r c ≡ true → is_in_lists q bus r (window_space c) ≡ true
listed_in q bus r IoWindow h = h
listed_in q bus r MemoryWindow h = or_left (is_listed q bus r MemoryWindow) (is_listed q bus r PrefetchWindow) h
listed_in q bus r PrefetchWindow h = or_right (is_listed q bus r MemoryWindow) (is_listed q bus r PrefetchWindow) h
