use Rattle.std.proofs.Common.{refl, sym, subst}
use Rattle.std.proofs.lemmas.Result.{IfOk-weaker}
use Rattle.pci_grow.specs.Located.{AreWindowsThen, AreOwn}
use Rattle.pci_grow.specs.Granting.{AreSpares}
use Rattle.pci_settle.proofs.WishesGranted.{board_asked}
use Rattle.pci_settle.proofs.wishes.grant_by.Goals as goal

pub returns-clause-granted : goal.returns-clause-granted
returns-clause-granted g c =
    IfOk-weaker c.grant_all.result _ _
    (λ w all p s keep spare asked windows own are.
    all p s keep spare (board_asked p s c.args.buses.now.roots.now c.args.lists.now _ c.args.basis.now.fixed.items asked refl refl c.as_slice.ensures.value c.requires.lines c.bridges_over.ensures)
    (subst (AreWindowsThen p s keep) (sym c.as_slice-2.ensures.value) windows)
    (subst (AreOwn p s keep) (sym c.as_slice-4.ensures.value) own)
    (subst (λ xs. AreSpares s xs c.args.basis.now.spares spare) (sym c.as_slice-3.ensures.value) are))
    c.grant_all.ensures.granted
