use Rattle.std.proofs.Common.{List, subst, sym}
use Rattle.pci_spec.specs.Slot.{Slot}
use Rattle.pci_spec.specs.Decoded.{HasRecords}
use Rattle.pci_spec.specs.Decoded as decoded
use Rattle.pci_tree.specs.Outline.{IsPathTo}
use Rattle.pci_tree.proofs.Outlines.{have_spans}
use Rattle.pci_claims.specs.Values.{code_given_value}
use Rattle.pci_claims.specs.Outside.{IsRootOfPath}
use Rattle.pci_claims.proofs.Reaching.{reach_with}
use Rattle.pci_claims.proofs.reach.reach_through.Goals as goal

pub reach_along-requires-clause-spans : goal.reach_along-requires-clause-spans
reach_along-requires-clause-spans g c = have_spans c.records.result.now c.records.ensures.lawful

pub returns-in_ok-reach-in-Some-clause-exact : goal.returns-in_ok-reach-in-Some-clause-exact
returns-in_ok-reach-in-Some-clause-exact g c s has =
    reach_with (code_given_value c.args.given.now) c.args.through c.args.outline.now.roots s c.records.result.now c.as_slice-path.result.now c.args.slot.bus c.root_above-root.result c.in_ok-reach-in-Some.reach.items
    (subst (λ (rs : List decoded.Record). HasRecords s rs) (sym c.records.ensures.value) has) c.records.ensures.rising
    (subst (λ (path : List Slot). IsPathTo c.args.outline.now.roots s path c.args.slot.bus) (sym c.as_slice-path.ensures.value) (c.in-Some.ensures s has))
    (subst (λ n. IsRootOfPath c.as_slice-path.result.now n c.root_above-root.result) c.bus.ensures c.root_above-root.ensures)
    c.in_ok-reach-in-Some.ensures
