use Rattle.std.proofs.Common.{Vec}
use Rattle.pci_base.specs.declared.range.Range.{Range}
use Rattle.pci_first_fit.proofs.Cursors.{cursors_here}
use Rattle.pci_first_fit.proofs.placing.place_first.Goals as goal

pub returns-clause-cursors : goal.returns-clause-cursors
returns-clause-cursors g c =
    cursors_here (λ (v : Vec Range g.row.B.Denot). v.items) c.args.lists.now c.args.taken.now.items c.args.cursors.now c.requires.cursors c.args.wanted.now c.requires.wanted
    c.index-lists-wanted.result c.deref.result.now c.index-lists-wanted.is c.deref.ensures.value c.requires.listed c.place_next.new.start c.in_ok-place_next.field-0
    c.if-not-branch.false c.place_next.new.taken.items c.in_ok-place_next.ensures.taken c.in_ok-place_next.ensures.start
