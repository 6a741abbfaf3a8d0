use Rattle.pci_here.proofs.Logs.{placed_more}
use Rattle.pci_here.proofs.log.Log.take.Goals as goal

pub returns : goal.returns
returns c = λ p.
    placed_more p c.args.line.now c.number.result c.with_told-registers.result c.registers.result c.args.self.now.told c.insert.new.self c.number.ensures
    c.registers.ensures c.with_told-registers.ensures c.in_ok-insert.ensures.updates
