use Rattle.std.proofs.Common.{[], ap, ◌∙◌, get_or, arith}
use Rattle.pci_base.specs.Space.{space_of}
use Rattle.pci_check.specs.Stops.{reaches_by}
use Rattle.pci_check.proofs.Clashing.{allowed_at, none_clash, clash_fault}
use Rattle.pci_check.proofs.clash.clash_in.Goals as goal

pub returns-in-None : goal.returns-in-None
returns-in-None g c t reached listed =
    none_clash t c.args.bus (space_of c.args.space) c.args.regions.now.items c.ranges-allowed.result.now listed
    (allowed_at t c.args.reached.now (space_of c.args.space) c.args.bus c.ranges-allowed.result.now (omega arith)
    (c.ranges-allowed.ensures.same ∙ ap (λ k. get_or (reaches_by c.args.reached.now k) c.args.bus []) c.furthest.ensures) reached)
    (rw c.in-None.is at c.first_overlap.ensures)

pub returns-in-Some : goal.returns-in-Some
returns-in-Some g c t reached listed =
    clash_fault t c.args.bus (space_of c.args.space) c.args.regions.now.items c.ranges-allowed.result.now listed
    (allowed_at t c.args.reached.now (space_of c.args.space) c.args.bus c.ranges-allowed.result.now (omega arith)
    (c.ranges-allowed.ensures.same ∙ ap (λ k. get_or (reaches_by c.args.reached.now k) c.args.bus []) c.furthest.ensures) reached)
    c.in-Some.field-0.address c.in-Some.field-0.first c.in-Some.field-0.second (rw c.in-Some.is at c.first_overlap.ensures)
