use Rattle.std.proofs.lemmas.Result.{err_from_is_err_and}
use Rattle.pci_dump.proofs.Texts.{read_all_one, read_more_text, read_fault}
use Rattle.pci_dump.proofs.reader.read_dump.Goals as goal

pub returns-in_err-taken-clause-fault : goal.returns-in_err-taken-clause-fault
returns-in_err-taken-clause-fault g c =
    let p = err_from_is_err_and c.from_residual.result c.from_residual.ensures.1 in
    rw (p.1, p.2) (λ bytes known no_io no_memory. read_fault _ _ _ _ _ bytes _ c.loop-dump.invariant.read c.in_err-taken.ensures.err known no_io)

pub returns-then-not-taken-clause-only : goal.returns-then-not-taken-clause-only
returns-then-not-taken-clause-only g c = λ bytes known others text. read_all_one _ _ _ _ _ others bytes c.loop-dump.invariant.read (rw c.if-not-taken.true at c.in_ok-taken.ensures.ok) known text

pub loop-dump-preserved : goal.loop-dump-preserved
loop-dump-preserved g c = record {
  read = read_more_text _ _ _ _ _ _ _ c.loop-dump.invariant.read (rw c.if-not-taken.false at c.in_ok-taken.ensures.ok) c.in-Ok.ensures.ok;
  over = c.in_ok-taken.ensures.over;
}
