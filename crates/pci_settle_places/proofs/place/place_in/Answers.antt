use Rattle.std.proofs.Common.{subst}
use Rattle.std.proofs.lemmas.Result.{err_from_is_err_and}
use Rattle.pci_base.specs.Space.{space_of}
use Rattle.pci_place.specs.Above.{system_in}
use Rattle.pci_first_fit.specs.Lists.{lists_value}
use Rattle.pci_settle_places.specs.Candidates.{pass_of}
use Rattle.pci_settle_places.specs.Spaces.{AreSpacePlacesIn}
use Rattle.pci_settle_places.proofs.BothSpaces.{space_placed, too_large}
use Rattle.pci_settle_places.proofs.place.place_in.Goals as goal

pub returns-in_err-windows-clause-fault : goal.returns-in_err-windows-clause-fault
returns-in_err-windows-clause-fault g c =
    let p = err_from_is_err_and c.from_residual.result c.from_residual.ensures.1 in
    rw (p.1, p.2)
    (too_large c.args.setting.now.admitted.now.roots (system_in c.args.setting.now.admitted.now) (space_of c.args.space) (lists_value c.args.lists.now) c.args.setting.now.terms c.args.setting.now.staying c.in_err-windows.field-0.0 c.in_err-windows.ensures.fault)

pub returns-in-None-clause-placed : goal.returns-in-None-clause-placed
returns-in-None-clause-placed g c =
    space_placed c.args.setting.now.admitted.now.roots (system_in c.args.setting.now.admitted.now) (space_of c.args.space) (lists_value c.args.lists.now) c.args.setting.now.terms c.args.setting.now.staying c.in_ok-windows.windows c.place_space.new.table
    c.in_ok-windows.ensures.windows
    (subst (AreSpacePlacesIn (pass_of c.args.setting.now.admitted.now (space_of c.args.space) c.args.setting.now.terms c.args.setting.now.staying c.in_ok-windows.windows) (lists_value c.args.lists.now) c.place_space.new.table) c.in-None.is c.in_ok-candidate.ensures.placed)
