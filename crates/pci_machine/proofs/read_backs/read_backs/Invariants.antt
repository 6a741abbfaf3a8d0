use Rattle.std.proofs.Common.{◌≡◌, true}
use Rattle.pci_spec.specs.Machine.{read_back}
use Rattle.pci_spec.specs.Port.{has_function, IsLawful}
use Rattle.pci_spec.specs.Sizing.{function_at}
use Rattle.pci_machine.proofs.Filled.{IsFilled}
use Rattle.pci_machine.proofs.read_backs.read_backs.Given as goal

abbrev pub invariant-loop-register : goal.invariant-loop-register
invariant-loop-register g l = record {
  same : g.P.ConfigPort.targets l.port ≡ g.P.ConfigPort.targets l.initial.port;
  counted : g.P.ConfigPort.failures l.port ≡ g.P.ConfigPort.failures l.initial.port;
  there : has_function (g.P.ConfigPort.targets l.port) l.slot ≡ true;
  lawful : IsLawful (g.P.ConfigPort.targets l.port);
  filled : IsFilled l.fn.layout l.register-items (read_back (function_at (g.P.ConfigPort.targets l.initial.port) l.slot)) l.register-index l.bytes;
}
