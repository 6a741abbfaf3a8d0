use Rattle.std.proofs.Common.{refl, sym}
use Rattle.pci_base.specs.Space.{space_of}
use Rattle.pci_grow.proofs.Filled.{window_added}
use Rattle.pci_settle.proofs.wishes_before.add.Goals as goal

pub returns-in_ok-push : goal.returns-in_ok-push
returns-in_ok-push g c = λ roots weight n.
    window_added roots weight n c.args.parts.now.items c.push.new.self.items _ c.args.bus (space_of c.args.space) c.args.range c.in_ok-push.ensures.items refl refl (sym c.in-Some.is)
