use Rattle.std.proofs.Common.{◌∙◌, ap, get_or, []}
use Rattle.pci_check.specs.Stops.{reaches_by}
use Rattle.pci_check.proofs.Losing.{least_lost}
use Rattle.pci_check.proofs.unreached.least_lost.Goals as goal

pub returns : goal.returns
returns g c =
    least_lost c.args.reached.now _ c.args.bus c.args.region.now _ c.least_outside.result
    (c.ranges-2.ensures.same ∙ ap (λ k. get_or (reaches_by c.args.reached.now k) c.args.bus []) c.kind.ensures) c.least_outside.ensures
