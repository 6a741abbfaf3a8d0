use Rattle.std.proofs.Common.{ap, sym, subst, arith, length, Option}
use Rattle.pci_spec.specs.Slot.{Slot}
use Rattle.pci_spec.specs.Stops.{IsAboveLast, last_slot}
use Rattle.pci_dump.proofs.Blocks.{dump_more}
use Rattle.pci_dump.proofs.dump.Dump.append.Goals as goal

pub invariant_of-self-2 : goal.invariant_of-self-2
invariant_of-self-2 g c =
    let above = subst (λ (o : Option Slot). IsAboveLast o c.args.block.slot) (ap last_slot (sym c.self.view_is)) c.requires.above in
    let long = ap length c.self.view_is in
    dump_more c.self.inside.blocks.items c.push.new.self.items c.args.block c.self.invariant c.requires.block above
    (omega (arith, long, c.requires.room)) c.in_ok-push.ensures.items
