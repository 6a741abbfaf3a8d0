use Rattle.std.proofs.Common.{sym, ap}
use Rattle.std.specs.Option.{option_map}
use Rattle.pci_machine.proofs.Targets.{none_found}
use Rattle.pci_machine.proofs.machine.Machine.image.Goals as goal

pub returns-in-None : goal.returns-in-None
returns-in-None g c = ap (option_map (λ t. t.image)) (sym (none_found c.args.self.now c.args.slot c.in-None.ensures.there))
