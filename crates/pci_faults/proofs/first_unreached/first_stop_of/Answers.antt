use Rattle.std.proofs.Common.{List, subst, sym}
use Rattle.std.specs.List.{All}
use Rattle.std.proofs.lemmas.Result.{IfOk-weaker}
use Rattle.pci_spec.specs.Slot.{Slot}
use Rattle.pci_spec.specs.Window.{WindowKind}
use Rattle.pci_spec.specs.System.{window_space}
use Rattle.pci_tree.specs.Outline.{IsPathTo}
use Rattle.pci_tree.proofs.Outlines.{have_spans}
use Rattle.pci_claims.specs.Values.{code_given_value}
use Rattle.pci_claims.specs.Outside.{IsRootOfPath, IsSent}
use Rattle.pci_claims.specs.Reached.{PassesAt}
use Rattle.pci_faults.specs.Stopped.{PassesSent, IsFirstBridgeThatStops}
use Rattle.pci_faults.proofs.Sending.{without_path}
use Rattle.pci_faults.proofs.Unreaching.{match_both, never_unreached, unreached_line}
use Rattle.pci_faults.proofs.first_unreached.first_stop_of.Goals as goal

pub first_stop-requires-clause-spans : goal.first_stop-requires-clause-spans
first_stop-requires-clause-spans g c = have_spans c.records.result.now c.records.ensures.lawful

pub returns-in-None : goal.returns-in-None
returns-in-None g c told s tree listed one space a bridge unreached = without_path c.args.outline.now c.args.one.now c.in-None.ensures told s tree listed one

pub returns-in-Some : goal.returns-in-Some
returns-in-Some g c =
    IfOk-weaker c.first_stop.result _ _
    (λ o is. match_both o _ _ _ _
    (λ all. never_unreached (code_given_value c.args.given.now) c.args.outline.now c.args.one.now c.records.result.now c.records.ensures.value c.records.ensures.rising c.records.ensures.nested
    c.as_slice-path.result.now c.root_above.result
    (λ s tree. subst (λ (path : List Slot). IsPathTo c.args.outline.now.roots s path c.args.one.now.name.slot.bus) (sym c.as_slice-path.ensures.value) (c.in-Some.ensures s tree.records))
    (subst (λ n. IsRootOfPath c.as_slice-path.result.now n c.root_above.result) c.bus.ensures c.root_above.ensures)
    (subst (λ (kind : WindowKind). All (PassesSent (code_given_value c.args.given.now) kind c.records.result.now c.root_above.result c.args.one.now.range) c.as_slice-path.result.now) c.kind.ensures all))
    (λ stop first. unreached_line (code_given_value c.args.given.now) c.args.outline.now c.args.one.now c.records.result.now c.records.ensures.value c.records.ensures.rising c.records.ensures.nested
    c.as_slice-path.result.now c.root_above.result
    (λ s tree. subst (λ (path : List Slot). IsPathTo c.args.outline.now.roots s path c.args.one.now.name.slot.bus) (sym c.as_slice-path.ensures.value) (c.in-Some.ensures s tree.records))
    (subst (λ n. IsRootOfPath c.as_slice-path.result.now n c.root_above.result) c.bus.ensures c.root_above.ensures)
    stop.bridge stop.address
    (subst (λ (kind : WindowKind). IsFirstBridgeThatStops (IsSent (code_given_value c.args.given.now) (window_space kind) c.root_above.result) (PassesAt (code_given_value c.args.given.now) kind c.records.result.now) c.args.one.now.range c.as_slice-path.result.now stop.bridge stop.address) c.kind.ensures first))
    is)
    c.first_stop.ensures
