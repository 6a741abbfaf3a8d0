use Rattle.std.proofs.lemmas.Result.{err_from_is_err_and}
use Rattle.pci_machine.proofs.Ends.{left-unwritten}
use Rattle.pci_machine.proofs.size.read_when_quiet.Goals as goal

pub returns-in_err-command-clause-left : goal.returns-in_err-command-clause-left
returns-in_err-command-clause-left g c =
    rw (err_from_is_err_and c.from_residual.result c.from_residual.ensures.1).1
    (left-unwritten (g.P.ConfigPort.targets c.args.port.now) (g.P.ConfigPort.targets c.read_at.new.port) c.args.slot c.requires.lawful c.requires.there c.in_err-command.ensures.same)
