use Rattle.std.proofs.Common.{◌+◌, arith}
use Rattle.std.proofs.lemmas.Result.{err_from_is_err_and}
use Rattle.pci_dump.proofs.ToldTaken.{taken_more, taken_all, taken_fault}
use Rattle.pci_dump.proofs.ToldAddresses.{taken_then}
use Rattle.pci_dump.proofs.told_lines.Lines.take_all.Goals as goal

pub returns-in_err-take-clause-fault : goal.returns-in_err-take-clause-fault
returns-in_err-take-clause-fault g c =
    let p = err_from_is_err_and c.from_residual.result c.from_residual.ensures.1 in
    let less = c.if-at-bytes.true in
    let n = taken_then c.args.self.now c.loop-at.self c.take_digits-at.new.self c.args.bytes.now c.loop-at.at c.take_digits-at.result c.loop-at.invariant c.take_digits-at.ensures.taken in
    rw (p.1, p.2) (taken_fault c.args.self.now c.args.bytes.now (c.loop-at.at + c.take_digits-at.result) c.take_digits-at.new.self c.in_err-take.field-0.0 n (omega (arith, less)) c.in_err-take.ensures.fault)

pub loop-at-preserved-then-at-bytes : goal.loop-at-preserved-then-at-bytes
loop-at-preserved-then-at-bytes g c =
    let less = c.if-at-bytes.true in
    let n = taken_then c.args.self.now c.loop-at.self c.take_digits-at.new.self c.args.bytes.now c.loop-at.at c.take_digits-at.result c.loop-at.invariant c.take_digits-at.ensures.taken in
    taken_more c.args.self.now c.args.bytes.now (c.loop-at.at + c.take_digits-at.result) c.take_digits-at.new.self c.take.new.self n (omega (arith, less)) c.in_ok-take.ensures.ok

pub returns-clause-ok : goal.returns-clause-ok
returns-clause-ok g c =
    let over = c.loop-at-test.false in
    taken_all c.args.self.now c.args.bytes.now c.loop-at.at c.loop-at.self c.loop-at.invariant (omega (arith, over))
