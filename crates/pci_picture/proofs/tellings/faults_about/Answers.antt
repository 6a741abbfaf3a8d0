use Rattle.std.proofs.Common.{arith, ap, ◌∙◌}
use Rattle.std.proofs.lemmas.List.{take_all}
use Rattle.pci_picture.proofs.About.{about_exact, about_named, faults_naming}
use Rattle.pci_picture.proofs.tellings.faults_about.Goals as goal

pub returns-clause-exact : goal.returns-clause-exact
returns-clause-exact g c =
    about_exact c.args.faults.now c.args.regions.now c.loop-region.about.items c.sort.new.self.items c.dedup.new.self.items
    (c.loop-region.invariant ∙ ap (faults_naming c.args.faults.now.namings.items) (take_all c.loop-region.region-index c.args.regions.now (omega (arith, c.loop-region-test.false))))
    c.in_ok-sort.ensures.permutation c.dedup.ensures.filtered c.in_ok-sort.ensures.sorted

pub returns-clause-named : goal.returns-clause-named
returns-clause-named g c =
    about_named c.args.faults.now c.args.regions.now c.loop-region.about.items c.sort.new.self.items c.dedup.new.self.items
    (c.loop-region.invariant ∙ ap (faults_naming c.args.faults.now.namings.items) (take_all c.loop-region.region-index c.args.regions.now (omega (arith, c.loop-region-test.false))))
    c.in_ok-sort.ensures.permutation c.dedup.ensures.filtered
