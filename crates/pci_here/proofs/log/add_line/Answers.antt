use Rattle.std.proofs.Common.{◌∷◌, refl, sym, subst}
use Rattle.pci_here.specs.LogLine.{HasTold}
use Rattle.pci_here.proofs.Logs.{told_other, told_more}
use Rattle.pci_here.proofs.log.add_line.Goals as goal

pub returns-in-None : goal.returns-in-None
returns-in-None c = λ lines rest has.
    told_other lines (c.args.line.now ∷ rest) rest c.args.line.now c.args.told.now.items refl c.in-None.ensures has

pub returns-in_ok-push-in-Some : goal.returns-in_ok-push-in-Some
returns-in_ok-push-in-Some c = λ lines rest has.
    subst (λ l. HasTold lines rest l) (sym c.in_ok-push-in-Some.ensures.items)
    (told_more lines (c.args.line.now ∷ rest) rest c.args.line.now c.args.told.now.items c.in-Some.found refl c.in-Some.ensures has)
