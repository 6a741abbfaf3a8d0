use Rattle.std.proofs.Common.{◌≡◌, ◌<◌, ℕ, get_or}
use Rattle.pci_spec.specs.Text.{Block}
use Rattle.pci_plan.specs.Comparing.{ShowsAll}
use Rattle.pci_plan.proofs.compare.compare.Given as goal

abbrev pub invariant-loop-block : goal.invariant-loop-block
invariant-loop-block g l = record {
  same : g.P.ConfigPort.targets l.port ≡ g.P.ConfigPort.targets l.initial.port;
  counted : g.P.ConfigPort.failures l.port ≡ g.P.ConfigPort.failures l.initial.port;
  shown : (k : ℕ) (d : Block) → k < l.block-index → ShowsAll (g.P.ConfigPort.targets l.initial.port) (get_or l.blocks k d).slot (get_or l.blocks k d).image;
}
