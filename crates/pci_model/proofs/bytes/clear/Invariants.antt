use Rattle.std.proofs.Common.{◌≡◌}
use Rattle.judge_spec.specs.Bytes as bytes
use Rattle.pci_model.proofs.bytes.clear.Given as goal

abbrev pub invariant-loop-j : goal.invariant-loop-j
invariant-loop-j l = l.image.0 ≡ bytes.cleared l.off l.j l.initial.image.0
