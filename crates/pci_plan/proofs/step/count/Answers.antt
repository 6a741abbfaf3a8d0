use Rattle.std.proofs.Common.{arith, map}
use Rattle.std.proofs.lemmas.List.{length-map}
use Rattle.pci_plan.specs.Writes.{write_value}
use Rattle.pci_plan.proofs.Places.{length_steps}
use Rattle.pci_plan.proofs.step.count.Goals as goal

pub returns : goal.returns
returns c =
    let all = length_steps (map write_value c.args.compares.now) (map write_value c.args.writes.now) in
    let compares = length-map c.args.compares.now write_value in
    let writes = length-map c.args.writes.now write_value in
    omega (arith, all, compares, writes)
