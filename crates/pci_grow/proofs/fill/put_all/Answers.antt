use Rattle.std.proofs.Common.{sym, ◌∙◌}
use Rattle.std.proofs.lemmas.List.{length-map}
use Rattle.pci_grow.proofs.Filled.{put_next, put_whole}
use Rattle.pci_grow.proofs.fill.put_all.Goals as goal

pub loop-part-preserved : goal.loop-part-preserved
loop-part-preserved g c =
    put_next _ _ _ _ _ _ _ c.loop-part.invariant c.loop-part-test.true _ c.row.ensures.row
    (length-map c.push.new.rows (λ v. v.items) ∙ c.push.ensures.count ∙ sym (length-map c.loop-part.rows (λ v. v.items))) c.in_ok-push.ensures.pushed

pub returns-clause-put : goal.returns-clause-put
returns-clause-put g c = put_whole _ _ _ _ _ c.loop-part.invariant c.loop-part-test.false
