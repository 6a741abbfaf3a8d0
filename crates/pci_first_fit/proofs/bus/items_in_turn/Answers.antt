use Rattle.std.proofs.Common.{◌∙◌, refl}
use Rattle.std.proofs.lemmas.List.Sorted.{All-permutation}
use Rattle.pci_first_fit.specs.Own.{asked_item_value}
use Rattle.pci_first_fit.specs.Buses.{listing_value}
use Rattle.pci_first_fit.specs.Turns.{HasExtent}
use Rattle.pci_first_fit.proofs.PutWindows.{values_rise, turn_is}
use Rattle.pci_first_fit.proofs.bus.items_in_turn.Goals as goal

pub returns-clause-turn : goal.returns-clause-turn
returns-clause-turn g c = λ a is. (
    let l = listing_value c.args.listing.now c.args.bus in
    let on = c.in_ok-items.ensures.items in
    c.in_ok-sort_items.ensures.turn (asked_item_value l.classing.system l.class) (λ i. refl) (values_rise l _ on a is) ∙ turn_is l _ on a is)

pub returns-clause-lawful : goal.returns-clause-lawful
returns-clause-lawful g c windows_lawful = All-permutation HasExtent _ _ c.sort_items.ensures.permutation (c.in_ok-items.ensures.lawful windows_lawful)
