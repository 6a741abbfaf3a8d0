use Rattle.std.proofs.Common.{subst}
use Rattle.std.specs.List.{All}
use Rattle.pci_tree.proofs.outline.Outline.placed.Goals as goal
use Rattle.pci_tree.specs.BusNumbers.{IsInPlace}
use Rattle.pci_tree.specs.PlaceFaults.{IsSomePlaceFault}
use Rattle.pci_tree.specs.Roots.{buses_of}
use Rattle.pci_tree.proofs.FirstPlaced.{place_refusal}
use Rattle.pci_tree.proofs.Shadows.{outline_in_places}

-- src/outline.rt:84:24
pub of-requires : goal.of-requires
of-requires g c =
    outline_in_places (buses_of c.args.roots) c.args.records.items c.requires.slots c.requires.rising c.requires.lawful
    (subst (λ xs. All (IsInPlace (buses_of c.args.roots) xs) xs) c.deref.ensures.value c.in-None.ensures)

-- src/outline.rt:75:5
pub returns-in-Some : goal.returns-in-Some
returns-in-Some g c =
    place_refusal (buses_of c.args.roots) c.args.records.items c.in-Some.fault (subst (λ xs. IsSomePlaceFault (buses_of c.args.roots) xs c.in-Some.fault) c.deref.ensures.value c.in-Some.ensures)
