use Rattle.std.proofs.Common.{None, Some}
use Rattle.pci_here.proofs.Links.{folder_name, folder_there}
use Rattle.pci_here.proofs.link.bus_of_folder.Goals as goal

pub returns-in_err-strip_prefix-clause-only : goal.returns-in_err-strip_prefix-clause-only
returns-in_err-strip_prefix-clause-only c = λ bus is. absurd (folder_name c.args.folder.now bus is None c.in_err-strip_prefix.ensures.cases)

pub returns-clause-name : goal.returns-clause-name
returns-clause-name c = folder_there c.args.folder.now c.in_ok-strip_prefix.field-0 c.bus_of_name.result c.in_ok-strip_prefix.ensures.cases c.bus_of_name.ensures.name

pub returns-clause-only : goal.returns-clause-only
returns-clause-only c = λ bus is.
    c.bus_of_name.ensures.only bus (folder_name c.args.folder.now bus is (Some c.in_ok-strip_prefix.field-0) c.in_ok-strip_prefix.ensures.cases)
