use Rattle.std.proofs.Common.{subst}
use Rattle.pci_base.specs.Space.{space_of}
use Rattle.pci_map.specs.Ways.{IsFirstAt}
use Rattle.pci_map.proofs.Lefts.{taken_first, held_first}
use Rattle.pci_map.proofs.left.is_taken_first.Goals as goal

pub returns-in-None : goal.returns-in-None
returns-in-None g c = λ given t s bus tree above address.
    let space = space_of c.args.space in
    taken_first given t.roots s space above.bridge.b c.args.address c.args.windows.now.takes (above.windows.takes above.bridge.b above.bridge.leads.0 above.bridge.named)
    (subst (IsFirstAt given t.roots s space above.bridge.b c.args.address) c.in-None.is (c.first_window.ensures.first given t s bus tree above address))
    c.has_taken.result c.has_taken.ensures

pub returns-in-Some : goal.returns-in-Some
returns-in-Some g c = λ given t s bus tree above address.
    let space = space_of c.args.space in
    held_first given t.roots s space above.bridge.b c.args.address _
    (subst (IsFirstAt given t.roots s space above.bridge.b c.args.address) c.in-Some.is (c.first_window.ensures.first given t s bus tree above address))
