use Rattle.std.proofs.Common.{sym, ◌∙◌, ap, map}
use Rattle.std.proofs.lemmas.List.{take_all}
use Rattle.judge_spec.specs.UnclaimedLaws.{is_taking}
use Rattle.pci_claims.specs.Values.{taking_value}
use Rattle.pci_claims.proofs.Bridging.{same_of}
use Rattle.pci_map.proofs.TakerLists.{not_yet, found_at}
use Rattle.pci_map.proofs.takers.is_taking.Goals as goal

pub returns-then-eq : goal.returns-then-eq
returns-then-eq c =
    sym (found_at c.args.given.now.unclaimed.now c.loop-entry.entry-index c.entry-item.result c.args.slot c.loop-entry-test.true c.entry-item.is
    (same_of c.entry-item.result.slot c.args.slot _ (sym c.eq.ensures ∙ c.if-eq.true)))

pub loop-entry-preserved : goal.loop-entry-preserved
loop-entry-preserved c =
    not_yet c.args.given.now.unclaimed.now c.loop-entry.entry-index c.entry-item.result c.args.slot c.loop-entry-test.true c.entry-item.is
    (same_of c.entry-item.result.slot c.args.slot _ (sym c.eq.ensures ∙ c.if-eq.false)) c.loop-entry.invariant

pub returns : goal.returns
returns c = sym (sym (ap (λ es. is_taking (map taking_value es) c.args.slot) (take_all c.loop-entry.entry-index c.args.given.now.unclaimed.now c.loop-entry-test.false)) ∙ c.loop-entry.invariant)
