use Rattle.std.proofs.Common.{◌∙◌, List, length, ap, sym, subst}
use Rattle.pci_spec.specs.Text.{Block}
use Rattle.pci_place.specs.Above.{system_in}
use Rattle.pci_settle.specs.declared.closed.Closing.{Closing}
use Rattle.pci_settle.specs.Shut.{AreClosings}
use Rattle.pci_settle.specs.Dumps.{IsSettledDump}
use Rattle.pci_settle.proofs.States.{same_titles}
use Rattle.pci_settle.proofs.wished.settled_wished.Goals as goal

pub all_closings-requires-clause-settled : goal.all_closings-requires-clause-settled
all_closings-requires-clause-settled g c = ap length c.blocks-2.ensures.value ∙ same_titles c.in_ok-dump.dump c.args.admitted.now.dump c.in_ok-dump.ensures.titles

pub writes_to-requires-clause-settled : goal.writes_to-requires-clause-settled
writes_to-requires-clause-settled g c = ap length c.blocks-2.ensures.value ∙ same_titles c.in_ok-dump.dump c.args.admitted.now.dump c.in_ok-dump.ensures.titles

pub writes_to-requires-clause-closings : goal.writes_to-requires-clause-closings
writes_to-requires-clause-closings g c = ap length c.as_slice.ensures.value ∙ c.in_ok-closings.ensures.count

pub returns-clause-settled : goal.returns-clause-settled
returns-clause-settled g c = λ q keep asked stand overs_are places tells wishes plain.
    let a = c.args.admitted.now in
    let to = c.in_ok-dump.ensures.settled q keep asked stand places tells wishes in
    let blocks = subst (λ (bs : List Block). IsSettledDump q keep a bs) (sym c.blocks-2.ensures.value) to in
    let closings = subst (λ (cs : List Closing). AreClosings q (system_in a) keep cs) (sym c.as_slice.ensures.value)
    (c.in_ok-closings.ensures.closings q keep record { asked = asked; overs_are = overs_are; stays = tells.stays_are; stand = stand; plain = plain; settled = blocks }) in
    record {
      settled = to;
      writes_are = c.in_ok-writes.ensures.writes q keep blocks closings;
      closing = c.in_ok-writes.ensures.closings q keep blocks closings;
    }
