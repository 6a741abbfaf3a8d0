use Rattle.std.proofs.Common.{◌∷◌, refl, sym, subst}
use Rattle.pci_tree.specs.Roots.{buses_of}
use Rattle.pci_here.specs.HostRanges.{HasFound}
use Rattle.pci_here.proofs.Told.{found_other, found_more}
use Rattle.pci_here.proofs.host_ranges.add_range.Goals as goal

pub returns-in-None : goal.returns-in-None
returns-in-None c = λ lines rest has.
    found_other c.args.domain (buses_of c.args.roots.now) lines (c.args.line.now ∷ rest) rest c.args.line.now c.args.ranges.now.items refl c.in-None.ensures has

pub returns-in_ok-push-in-Some : goal.returns-in_ok-push-in-Some
returns-in_ok-push-in-Some c = λ lines rest has.
    subst (λ l. HasFound c.args.domain (buses_of c.args.roots.now) lines rest l) (sym c.in_ok-push-in-Some.ensures.items)
    (found_more c.args.domain (buses_of c.args.roots.now) lines (c.args.line.now ∷ rest) rest c.args.line.now c.args.ranges.now.items c.in-Some.range refl c.in-Some.ensures has)
