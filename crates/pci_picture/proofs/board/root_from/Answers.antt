use Rattle.std.proofs.Common.{None, get_or, refl, sym, ◌∙◌, arith}
use Rattle.pci_picture.proofs.Roots.{up_all, up_more, up_root}
use Rattle.pci_picture.proofs.board.root_from.Goals as goal

pub loop-init : goal.loop-init
loop-init c = refl

pub loop-preserved : goal.loop-preserved
loop-preserved c =
    sym (up_more (λ bus. get_or c.args.above.now bus None) 256 c.loop.counter c.loop.root c.in-Some.bus (omega arith) c.in-Some.is)
    ∙ c.loop.invariant

pub returns-after-loop : goal.returns-after-loop
returns-after-loop c = up_all (λ bus. get_or c.args.above.now bus None) 256 c.loop.counter c.loop.root _ (omega arith) c.loop.invariant

pub returns-in-None : goal.returns-in-None
returns-in-None c =
    sym (up_root (λ bus. get_or c.args.above.now bus None) _ c.loop.root c.in-None.is) ∙ c.loop.invariant
