use Rattle.std.proofs.Common.{ap, ◌∙◌, Some}
use Rattle.pci_spec.specs.Text.{Block}
use Rattle.pci_spec.specs.Fault.{SlotsDiffer}
use Rattle.pci_tree.specs.Survey.{Surveyed}
use Rattle.pci_check.proofs.Beside.{decided_by_dump, decided_by_probe, decided_at_ends, decided_behind_probe, decided_behind_dump, two_blocks}
use Rattle.pci_check.proofs.side_by_side.SideBySide.take_pair.Goals as goal

pub returns-in-Err-clause-pair : goal.returns-in-Err-clause-pair
returns-in-Err-clause-pair g c texts buses s = decided_by_dump texts buses _ _ _ _ c.in-Err.field-0 s c.in-Err.ensures.err

pub returns-in-Err-next_into-clause-pair : goal.returns-in-Err-next_into-clause-pair
returns-in-Err-next_into-clause-pair g c texts buses s =
    decided_by_probe texts buses _ _ _ _ _ c.in-Err-next_into.field-0 _ c.in-Ok.listed s c.in-Ok.ensures.ok c.in-Err-next_into.ensures.err

pub returns-then-not-read_back-clause-pair : goal.returns-then-not-read_back-clause-pair
returns-then-not-read_back-clause-pair g c texts buses s =
    decided_at_ends texts buses _ _ _ _ _ s (rw c.if-not-listed.true at c.in-Ok.ensures.ok) (rw c.if-not-read_back.true at c.in-Ok-next_into.ensures.ok)

pub returns-then-not-listed-clause-pair : goal.returns-then-not-listed-clause-pair
returns-then-not-listed-clause-pair g c texts buses s =
    decided_behind_dump texts buses _ _ _ _ _ _ c.next_into-2.new.block s (rw c.if-not-listed.true at c.in-Ok.ensures.ok) (rw c.if-not-read_back.false at c.in-Ok-next_into.ensures.ok)
    (ap (λ (x : Surveyed). x.roots) c.only.ensures) (ap (λ (x : Surveyed). x.fault) c.only.ensures ∙ ap (λ (x : Block). Some (SlotsDiffer x.slot)) c.other.view_is)

pub returns-then-not-read_back-2-clause-pair : goal.returns-then-not-read_back-2-clause-pair
returns-then-not-read_back-2-clause-pair g c texts buses s =
    decided_behind_probe texts buses _ _ _ _ _ _ c.next_into.new.block s (rw c.if-not-listed.false at c.in-Ok.ensures.ok) (rw c.if-not-read_back-2.true at c.in-Ok-next_into.ensures.ok)
    (ap (λ (x : Surveyed). x.roots) c.only-then-not-read_back-2.ensures)
    (ap (λ (x : Surveyed). x.fault) c.only-then-not-read_back-2.ensures ∙ ap (λ (x : Block). Some (SlotsDiffer x.slot)) c.block.view_is)

pub returns-clause-pair : goal.returns-clause-pair
returns-clause-pair g c =
    rw (c.add.ensures.listed, c.add.ensures.read_back)
    (two_blocks _ _ _ _ _ _ _ c.next_into.new.block c.next_into-2.new.block c.add.ensures.ok (rw c.if-not-listed.false at c.in-Ok.ensures.ok) (rw c.if-not-read_back-2.false at c.in-Ok-next_into.ensures.ok))
