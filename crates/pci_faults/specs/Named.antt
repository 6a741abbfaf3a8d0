-- Faults of judging as the definitions have them, and the lists of all of one number with what is given and told.
use Rattle.std.specs.Prelude.{List, map}
use Rattle.pci_spec.specs.System.{System}
use Rattle.pci_spec.specs.Fault as plain
use Rattle.pci_base.specs.Space.{space_of}
use Rattle.pci_tree.specs.Outline.{Tree}
use Rattle.pci_tree.specs.Trees.{HasTree}
use Rattle.judge_spec.specs.Given.{Given}
use Rattle.judge_spec.specs.Fault as spec
use Rattle.judge_spec.specs.ToldClaims.{Told}
use Rattle.judge_spec.specs.ToldNumbered.{AreListedIn, AreAllNumbered}
use Rattle.pci_faults.specs.declared.named.Unreached.{Unreached}
use Rattle.pci_faults.specs.declared.named.Clash.{Clash}
use Rattle.pci_faults.specs.declared.named.Split.{Split}
use Rattle.pci_faults.specs.declared.named.Outside.{Outside}

abbrev pub unreached_of : Unreached → spec.Fault
unreached_of f =
    spec.Known (plain.Unreached f.region.slot f.region.register (space_of f.space) f.address f.bridge)

abbrev pub clash_of : Clash → spec.Fault
clash_of f =
    spec.Known (plain.Clash f.bus (space_of f.space) f.address f.first.slot f.first.register f.second.slot f.second.register)

abbrev pub split_of : Split → spec.Fault
split_of f =
    spec.Known (plain.Split (space_of f.space) f.address f.first.slot f.first.register f.second.slot f.second.register)

abbrev pub outside_of : Outside → spec.Fault
outside_of f = spec.Outside f.region.slot f.region.register (space_of f.space) f.address

-- In each system with the tree that lists each slot of a range that isn't held.
abbrev pub AreAllUnreached : Told → Given → Tree → List Unreached → Type 0
AreAllUnreached told given t faults =
    (s : System) → HasTree t s → AreListedIn told s
    → AreAllNumbered 60 told given t.roots s (map unreached_of faults)

abbrev pub AreAllClashes : Told → Given → Tree → List Clash → Type 0
AreAllClashes told given t faults =
    (s : System) → HasTree t s → AreListedIn told s
    → AreAllNumbered 61 told given t.roots s (map clash_of faults)

abbrev pub AreAllSplits : Told → Given → Tree → List Split → Type 0
AreAllSplits told given t faults =
    (s : System) → HasTree t s → AreListedIn told s
    → AreAllNumbered 62 told given t.roots s (map split_of faults)

abbrev pub AreAllOutside : Told → Given → Tree → List Outside → Type 0
AreAllOutside told given t faults =
    (s : System) → HasTree t s → AreListedIn told s
    → AreAllNumbered 63 told given t.roots s (map outside_of faults)
