-- What gets to each bus, by a list for each kind of access.
use Rattle.std.proofs.Common.{ℕ, ◌<◌, List, [], get_or, true, false}
use Rattle.pci_spec.specs.Window.{WindowKind, IoWindow, MemoryWindow, PrefetchWindow}
use Rattle.pci_spec.specs.System.{System, Io, Memory, window_space}
use Rattle.pci_base.specs.declared.range.Range.{Range}
use Rattle.pci_base.specs.Space.{is_prefetch}
use Rattle.pci_tree.specs.Outline.{Tree, IsReachTo}
use Rattle.pci_tree.specs.Trees.{HasTree}
use Rattle.pci_check.specs.Stops.{Reaches, reaches_by, AreReachesOf}

-- the lists of a kind of access, for each system with the tree
abbrev pub AreListsOf : Tree → WindowKind → List (List Range) → Type 0
AreListsOf t kind lists =
    (s : System) → HasTree t s → (bus : ℕ) (d : List Range) → bus < 256 → IsReachTo t.roots s (window_space kind) (is_prefetch kind) bus (get_or lists bus d)

pub reaches_of : (t : Tree) (reaches : Reaches) → ((kind : WindowKind) → AreListsOf t kind (reaches_by reaches kind)) → AreReachesOf t reaches
reaches_of t reaches h s tree Io prefetchable bus small = let r = h IoWindow s tree bus [] small in record { canonical = r.canonical; exact = r.exact }
reaches_of t reaches h s tree Memory false bus small = h MemoryWindow s tree bus [] small
reaches_of t reaches h s tree Memory true bus small = h PrefetchWindow s tree bus [] small
