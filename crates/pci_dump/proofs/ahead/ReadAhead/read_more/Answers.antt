use Rattle.std.proofs.Common.{arith, length, refl, sym, ap, ◌∙◌}
use Rattle.std.proofs.lemmas.Result.{err_from_is_err_and}
use Rattle.pci_dump.proofs.Filled.{holds_more, moves_none, range_long}
use Rattle.pci_dump.proofs.ahead.ReadAhead.read_more.Goals as goal

pub returns-in_err-read-clause-failed : goal.returns-in_err-read-clause-failed
returns-in_err-read-clause-failed g c =
    let view = c.self.view_is in
    let p = err_from_is_err_and c.from_residual.result c.from_residual.ensures.1 in
    rw p.1 (moves_none c.args.self.now _ _ _ c.shift.new.buf c.read.new.buf _ _ (ap (λ a. a.held) (sym view) ∙ sym c.shift.ensures) (omega arith) c.in_err-read.ensures.bytes refl refl
    (record { count = ap (λ a. a.count) view; last = ap (λ a. a.last) view; progress = ap (λ a. a.progress) view }))

pub returns-clause-read : goal.returns-clause-read
returns-clause-read g c =
    let view = c.self.view_is in
    let long = range_long c.self.inside.buf c.self.inside.at c.self.inside.end (omega arith) (omega arith) in
    let few = ap (λ a. length a.held) view in
    holds_more c.args.self.now _ _ _ c.shift.new.buf c.read.new.buf _ _ _ (ap (λ a. a.held) (sym view) ∙ sym c.shift.ensures) (omega arith) c.in_ok-read.ensures.bound (omega (arith, long, few, c.requires.room)) c.in_ok-read.ensures.bytes refl refl
    (record { count = ap (λ a. a.count) view; last = ap (λ a. a.last) view; progress = ap (λ a. a.progress) view })
