use Rattle.std.proofs.Common.{◌≡◌, ◌<◌, ℕ, get_or}
use Rattle.pci_spec.specs.Number.{number_at}
use Rattle.pci_spec.specs.Port.{ShowsNumber}
use Rattle.pci_image.specs.declared.register.Register.{Register}
use Rattle.pci_plan.proofs.compare.compare_function.Given as goal

abbrev pub invariant-loop-register : goal.invariant-loop-register
invariant-loop-register g l = record {
  same : g.P.ConfigPort.targets l.port ≡ g.P.ConfigPort.targets l.initial.port;
  counted : g.P.ConfigPort.failures l.port ≡ g.P.ConfigPort.failures l.initial.port;
  shown : (k : ℕ) (d : Register) → k < l.register-index
      → ShowsNumber (g.P.ConfigPort.targets l.initial.port) l.slot (get_or l.register-items k d).offset (get_or l.register-items k d).width (number_at l.image.0 (get_or l.register-items k d).offset (get_or l.register-items k d).width);
}
