use Rattle.std.proofs.Common.{arith, ap}
use Rattle.pci_check.proofs.Beside.{read_on_none, read_on_block, read_out_rest, read_out_fault}
use Rattle.pci_check.proofs.side_by_side.read_out.Goals as goal

pub loop-fault-init : goal.loop-fault-init
loop-fault-init g c = record { on = read_on_none _; over = c.requires }

pub returns-in-Err-clause-fault : goal.returns-in-Err-clause-fault
returns-in-Err-clause-fault g c =
    read_out_fault _ _ _ c.in-Err.fault c.loop-fault.invariant.on c.in-Err.ensures.err (λ is. (let no = (c.in-Err.ensures.done is).0 in cc))
    (λ other is. (let same = (c.in-Err.ensures.again other is).0 in cc)) (λ closed. ap (λ source. g.S.Source.failures source) (c.in-Err.ensures.untouched closed))

pub returns-in-Ok-false-clause-rest : goal.returns-in-Ok-false-clause-rest
returns-in-Ok-false-clause-rest g c =
    read_out_rest _ _ _ c.loop-fault.invariant.on (rw c.in-Ok-false.field-0-test at c.in-Ok-false.ensures.ok) (λ fault is. (let no = (c.in-Ok-false.ensures.again fault is).0 in cc))

pub loop-fault-smaller : goal.loop-fault-smaller
loop-fault-smaller g c =
    let taken = rw c.in-Ok-true.field-0-test at c.in-Ok-true.ensures.ok in let few = taken.few in let more = taken.count in omega (arith, few, more)

pub loop-fault-preserved : goal.loop-fault-preserved
loop-fault-preserved g c = record {
  on = read_on_block _ _ _ _ c.loop-fault.invariant.on (rw c.in-Ok-true.field-0-test at c.in-Ok-true.ensures.ok);
  over = c.in-Ok-true.ensures.over;
}
