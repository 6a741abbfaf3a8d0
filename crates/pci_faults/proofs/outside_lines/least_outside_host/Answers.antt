use Rattle.std.proofs.Common.{List, subst, sym}
use Rattle.std.proofs.lemmas.Result.{IfOk-weaker}
use Rattle.pci_spec.specs.Slot.{Slot}
use Rattle.pci_tree.specs.Outline.{IsPathTo}
use Rattle.pci_claims.specs.Values.{code_given_value}
use Rattle.pci_claims.specs.Outside.{IsRootOfPath}
use Rattle.pci_faults.proofs.Sending.{without_path, outside_answer}
use Rattle.pci_faults.proofs.outside_lines.least_outside_host.Goals as goal

pub returns-in-None : goal.returns-in-None
returns-in-None g c told s tree listed one space a outside = without_path c.args.outline.now c.args.one.now c.in-None.ensures told s tree listed one

pub returns-in-Some : goal.returns-in-Some
returns-in-Some g c =
    IfOk-weaker c.least_unsent.result _ _
    (outside_answer (code_given_value c.args.given.now) c.args.outline.now c.args.one.now c.as_slice.result.now c.root_above-root.result
    (λ s tree. subst (λ (path : List Slot). IsPathTo c.args.outline.now.roots s path c.args.one.now.name.slot.bus) (sym c.as_slice.ensures.value) (c.in-Some.ensures s tree.records))
    (subst (λ n. IsRootOfPath c.as_slice.result.now n c.root_above-root.result) c.bus.ensures c.root_above-root.ensures))
    c.least_unsent.ensures
