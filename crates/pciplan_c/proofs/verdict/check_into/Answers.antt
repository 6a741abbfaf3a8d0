use Rattle.std.proofs.Common.{rules}
use Rattle.pci_tree.specs.Roots.{IsRootList}
use Rattle.pciplan_c.proofs.Wants.{root_too_long}
use Rattle.pciplan_c.proofs.verdict.check_into.Goals as goal

pub returns-in-Err-clause-room : goal.returns-in-Err-clause-room
returns-in-Err-clause-room g c =
    let none : IsRootList c.args.roots.now → ⊥ = search rules in
    root_too_long c.args.roots.now c.args.dump.now c.args.probe.now c.args.line.now c.as_bytes.result.now c.in-Err.why none
    c.as_bytes.ensures.value c.in-Err.ensures.needed
