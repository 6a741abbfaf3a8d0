use Rattle.std.proofs.Common.{refl, sym, subst}
use Rattle.pci_here.specs.Places.{ArePlacesOf}
use Rattle.pci_here.proofs.Read.{shown_three, shown_four}
use Rattle.pci_here.proofs.Wholes.{domain_there, none_there}
use Rattle.pci_here.proofs.domain.domain_of.Goals as goal

pub returns-clause-ok : goal.returns-clause-ok
returns-clause-ok g c =
    shown_four (g.M.Machine.shown c.args.machine.now) _ _ _ _ _
    (λ m are taken io mem. domain_there m c.args.domain c.as_slice.result.now c.in_ok-functions.functions _
    (subst (λ places. ArePlacesOf m c.args.domain places) (sym c.as_slice.ensures.value) are) taken refl refl refl c.in-Some.ensures io mem)
    c.in-Ok.ensures c.in_ok-functions.ensures.taken c.in-Ok-host_of.ensures.io c.in-Ok-host_of.ensures.mem

pub returns-in_default-clause-err : goal.returns-in_default-clause-err
returns-in_default-clause-err g c =
    shown_three (g.M.Machine.shown c.args.machine.now) _ _ _ _
    (λ m are taken read. none_there m c.args.domain c.as_slice.result.now c.in_ok-functions.functions _ c.of_all-in_default.ensures.trouble c.of_all-in_default.ensures.place
    (subst (λ places. ArePlacesOf m c.args.domain places) (sym c.as_slice.ensures.value) are) taken read (rw c.in_default.is at c.roots.ensures))
    c.in-Ok.ensures c.in_ok-functions.ensures.taken c.in_ok-functions.ensures.read
