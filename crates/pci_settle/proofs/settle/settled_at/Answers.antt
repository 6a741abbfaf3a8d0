use Rattle.std.proofs.Common.{◌≡◌, ◌∙◌, List, length, ap, sym, subst}
use Rattle.pci_spec.specs.Text.{Block}
use Rattle.settle_spec.specs.Lists.{Request}
use Rattle.settle_spec.specs.Kept.{Kept as Keeping}
use Rattle.pci_place.specs.Above.{system_in}
use Rattle.pci_settle.specs.declared.closed.Closing.{Closing}
use Rattle.pci_settle.specs.declared.dump.Images.{Images}
use Rattle.pci_settle.specs.Closed.{IsClosedBy}
use Rattle.pci_settle.specs.PlacedBy.{IsPlacedBy}
use Rattle.pci_settle.specs.Shut.{AreClosings}
use Rattle.pci_settle.specs.Dumps.{IsSettledDump}
use Rattle.pci_settle.proofs.States.{same_titles}
use Rattle.pci_settle.proofs.Unwished.{is_unwished, tells_nothing}
use Rattle.pci_settle.proofs.settle.settled_at.Goals as goal
use Rattle.pci_settle.proofs.settle.settled_at.Goals.{After-blocks-3}
use Rattle.pci_settle.proofs.settle.settled_at.Given.{Over}

module _ (g : Over) (c : After-blocks-3 g) where
  count : length c.blocks-3.result.now ≡ length c.args.admitted.now.dump
  count = ap length c.blocks-3.ensures.value ∙ same_titles c.in_ok-dump.dump c.args.admitted.now.dump c.in_ok-dump.ensures.titles

  abbrev images : Images
  images = record { plain = c.blocks-2.result; settled = c.blocks-3.result }

  module _ (q : Request) (keep : Keeping) (by : IsPlacedBy q keep c.args.admitted.now c.args.lists.now c.args.overs.now c.args.tables.now) where
    settled : IsSettledDump q keep c.args.admitted.now c.in_ok-dump.dump
    settled = c.in_ok-dump.ensures.settled q keep by.asked by.stand by.places by.tells (tells_nothing (system_in c.args.admitted.now) keep by.unwished)

    closed : IsClosedBy q keep c.args.admitted.now c.args.lists.now c.args.overs.now images c.args.tables.now
    closed = record {
      asked = by.asked;
      overs_are = by.overs_are;
      stays = by.tells.stays_are;
      stand = by.stand;
      plain = subst (λ k. IsSettledDump q k c.args.admitted.now c.blocks-2.result.now) (sym (is_unwished keep by.unwished))
          (subst (λ (bs : List Block). IsSettledDump q keep c.args.admitted.now bs) (sym c.blocks-2.ensures.value) settled);
      settled = subst (λ (bs : List Block). IsSettledDump q keep c.args.admitted.now bs) (sym c.blocks-3.ensures.value) settled;
    }

pub all_closings-requires-clause-plain : goal.all_closings-requires-clause-plain
all_closings-requires-clause-plain g c = ap length c.blocks-2.ensures.value ∙ same_titles c.in_ok-dump.dump c.args.admitted.now.dump c.in_ok-dump.ensures.titles

pub all_closings-requires-clause-settled : goal.all_closings-requires-clause-settled
all_closings-requires-clause-settled g c = count g (goal.at.all_closings-requires-clause-settled g c).After-blocks-3

pub writes_to-requires-clause-settled : goal.writes_to-requires-clause-settled
writes_to-requires-clause-settled g c = count g (goal.at.writes_to-requires-clause-settled g c).After-blocks-3

pub writes_to-requires-clause-closings : goal.writes_to-requires-clause-closings
writes_to-requires-clause-closings g c = ap length c.as_slice.ensures.value ∙ c.in_ok-closings.ensures.count

pub returns-clause-settled : goal.returns-clause-settled
returns-clause-settled g c = λ q keep by.
    let first = (goal.at.returns-clause-settled g c).After-blocks-3 in
    let a = c.args.admitted.now in
    let by_images = closed g first q keep by in
    let closings = subst (λ (cs : List Closing). AreClosings q (system_in a) keep cs) (sym c.as_slice.ensures.value) (c.in_ok-closings.ensures.closings q keep by_images) in
    record {
      settled = settled g first q keep by;
      writes_are = c.in_ok-writes.ensures.writes q keep by_images.settled closings;
      closing = c.in_ok-writes.ensures.closings q keep by_images.settled closings;
    }

pub returns-clause-ways : goal.returns-clause-ways
returns-clause-ways g c = λ q keep by. c.in_ok-closings.ensures.ways q keep (closed g (goal.at.returns-clause-ways g c).After-blocks-3 q keep by)
