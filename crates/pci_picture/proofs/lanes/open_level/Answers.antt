use Rattle.std.proofs.Common.{arith, refl}
use Rattle.pci_picture.proofs.Seated.{level_added}
use Rattle.pci_picture.proofs.lanes.open_level.Goals as goal

pub returns-in_ok-push-clause-opened : goal.returns-in_ok-push-clause-opened
returns-in_ok-push-clause-opened g c short =
    level_added c.args.count c.args.depth c.args.levels.now.items c.truncate.new.self.items c.push.new.self.items _
    c.truncate.ensures.items (omega (arith, short)) c.in_ok-push.ensures.items c.parent_of.ensures.top c.parent_of.ensures.inner refl c.new.ensures.items
