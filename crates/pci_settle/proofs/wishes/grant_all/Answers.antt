use Rattle.std.proofs.Common.{map, ◌∙◌, ap}
use Rattle.pci_grow.specs.Granting.{part_of}
use Rattle.pci_grow.specs.Board.{room_value}
use Rattle.pci_settle.specs.Denied.{slot_and_offset_of}
use Rattle.pci_settle.proofs.WishesGranted.{of_granted}
use Rattle.pci_settle.proofs.wishes.grant_all.Goals as goal

pub returns-clause-granted : goal.returns-clause-granted
returns-clause-granted g c = λ p s keep spare asked windows own are.
    let told = c.in_ok-room.ensures.told p s keep asked windows own in
    let granted = c.in_ok-denied.ensures.granted p s spare keep are told in
    of_granted p s c.args.board.now _ (room_value c.grant.new.room) c.in_ok-denied.denied.items granted c.in_ok-denied-2.denied.items
    (c.in_ok-denied-2.ensures s asked.has ∙ ap (λ ws. map (λ w. slot_and_offset_of (part_of s w)) ws) c.as_slice.ensures.value)
