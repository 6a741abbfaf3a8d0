use Rattle.std.proofs.Common.{refl}
use Rattle.pci_claims.proofs.Cutting.{blocks_and_more}
use Rattle.pci_claims.proofs.isa.ports_kept.Goals as goal

pub returns : goal.returns
returns g c = blocks_and_more c.args.last c.in_ok-out.out.items c.push.new.self.items _ c.if-last-lt-CUT_END.false c.in_ok-out.ensures refl refl c.in_ok-push.ensures.items
