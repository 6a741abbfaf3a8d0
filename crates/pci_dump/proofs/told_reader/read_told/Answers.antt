use Rattle.std.proofs.Common.{arith, take, sym, refl, subst, ◌∙◌, List, ℕ}
use Rattle.std.proofs.lemmas.List.{length-take}
use Rattle.std.proofs.lemmas.Result.{err_from_is_err_and}
use Rattle.judge_spec.specs.ToldForm.{ToldSoFar}
use Rattle.judge_spec.proofs.ToldRows.{one_row}
use Rattle.pci_dump.specs.ToldFaults.{IsToldTextFault}
use Rattle.pci_dump.proofs.ToldTaken.{IsReadOn, read_none, read_more, read_over, read_begun, read_ranges, read_further, read_fault, read_whole, read_ended, ok_by, err_by}
use Rattle.judge_spec.specs.ToldText.{IsToldTextOf}
use Rattle.judge_spec.specs.Told.{ToldRange}
use Rattle.pci_dump.proofs.told_reader.read_told.Goals as goal

pub loop-lines-init : goal.loop-lines-init
loop-lines-init g c = record {
  read = subst (λ (s : ToldSoFar). IsReadOn (g.S.Source.left c.args.source.now) (g.S.Source.left c.args.source.now) s) (sym c.new-lines.ensures) (read_none (g.S.Source.left c.args.source.now));
  long = refl;
  fine = refl;
}

pub returns-then-len-eq0-clause-ok : goal.returns-then-len-eq0-clause-ok
returns-then-len-eq0-clause-ok g c =
    let none = c.if-len-eq0.true in
    let bytes = c.in-Ok.ensures.bytes in
    let long = c.loop-lines.invariant.long in
    let same = c.read.auto.buf in
    let read = read_over (g.S.Source.left c.args.source.now) (g.S.Source.left c.loop-lines.source) (g.S.Source.left c.read.new.self) c.loop-lines.lines c.read.new.buf c.in-Ok.len c.loop-lines.invariant.read bytes.0 none in
    ok_by _ _ c.finish.result c.finish.ensures.ok (λ ranges h text known.
    subst (λ (rs : List ToldRange). IsToldTextOf text rs) (sym h.0)
    (read_whole (g.S.Source.left c.args.source.now) (g.S.Source.left c.read.new.self) c.loop-lines.lines text read (bytes.1 none (omega (arith, long, same))) known h.1))

pub returns-then-len-eq0-clause-only : goal.returns-then-len-eq0-clause-only
returns-then-len-eq0-clause-only g c =
    let none = c.if-len-eq0.true in
    let bytes = c.in-Ok.ensures.bytes in
    let long = c.loop-lines.invariant.long in
    let same = c.read.auto.buf in
    let read = read_over (g.S.Source.left c.args.source.now) (g.S.Source.left c.loop-lines.source) (g.S.Source.left c.read.new.self) c.loop-lines.lines c.read.new.buf c.in-Ok.len c.loop-lines.invariant.read bytes.0 none in
    ok_by _ _ c.finish.result c.finish.ensures.ok (λ ranges h text known others other.
    one_row text others c.loop-lines.lines.ranges other
    (read_whole (g.S.Source.left c.args.source.now) (g.S.Source.left c.read.new.self) c.loop-lines.lines text read (bytes.1 none (omega (arith, long, same))) known h.1)
    ∙ sym h.0)

pub returns-then-len-eq0-clause-fault : goal.returns-then-len-eq0-clause-fault
returns-then-len-eq0-clause-fault g c =
    let none = c.if-len-eq0.true in
    let bytes = c.in-Ok.ensures.bytes in
    let long = c.loop-lines.invariant.long in
    let same = c.read.auto.buf in
    let read = read_over (g.S.Source.left c.args.source.now) (g.S.Source.left c.loop-lines.source) (g.S.Source.left c.read.new.self) c.loop-lines.lines c.read.new.buf c.in-Ok.len c.loop-lines.invariant.read bytes.0 none in
    err_by _ _ c.finish.result c.finish.ensures.err (λ fault h text known no_io no_memory.
    subst (λ f. IsToldTextFault text f) (sym h.0)
    (read_ended (g.S.Source.left c.args.source.now) (g.S.Source.left c.read.new.self) c.loop-lines.lines text read (bytes.1 none (omega (arith, long, same))) known h.1))

pub take_all-requires : goal.take_all-requires
take_all-requires g c = read_begun (g.S.Source.left c.args.source.now) (g.S.Source.left c.loop-lines.source) c.loop-lines.lines c.loop-lines.invariant.read

pub finish-requires : goal.finish-requires
finish-requires g c = read_ranges (g.S.Source.left c.args.source.now) (g.S.Source.left c.loop-lines.source) c.loop-lines.lines c.loop-lines.invariant.read

pub loop-lines-smaller : goal.loop-lines-smaller
loop-lines-smaller g c =
    let bytes = c.in-Ok.ensures.bytes in
    let bound = c.in-Ok.ensures.bound in
    let some = c.if-len-eq0.false in
    let chunk : List ℕ = take c.in-Ok.len c.read.new.buf in
    let l = length-take c.in-Ok.len c.read.new.buf in
    let more = read_more (g.S.Source.left c.args.source.now) (g.S.Source.left c.loop-lines.source) (g.S.Source.left c.read.new.self) c.loop-lines.lines c.take_all.new.self chunk c.loop-lines.invariant.read bytes.0 c.in_ok-take_all.ensures.ok in
    read_further (g.S.Source.left c.args.source.now) (g.S.Source.left c.loop-lines.source) (g.S.Source.left c.read.new.self) c.loop-lines.lines c.take_all.new.self chunk c.loop-lines.invariant.read more c.in_ok-take_all.ensures.ok
    (omega (arith, l, bound, some))

pub loop-lines-preserved : goal.loop-lines-preserved
loop-lines-preserved g c =
    let bytes = c.in-Ok.ensures.bytes in
    let long = c.loop-lines.invariant.long in
    let same = c.read.auto.buf in
    record {
      read =
          read_more (g.S.Source.left c.args.source.now) (g.S.Source.left c.loop-lines.source) (g.S.Source.left c.read.new.self) c.loop-lines.lines c.take_all.new.self (take c.in-Ok.len c.read.new.buf) c.loop-lines.invariant.read bytes.0
          c.in_ok-take_all.ensures.ok;
      long = omega (arith, long, same);
      fine = c.in-Ok.ensures.counted ∙ c.loop-lines.invariant.fine;
    }

pub returns-in_err-take_all-clause-fault : goal.returns-in_err-take_all-clause-fault
returns-in_err-take_all-clause-fault g c =
    let p = err_from_is_err_and c.from_residual.result c.from_residual.ensures.1 in
    let bytes = c.in-Ok.ensures.bytes in
    rw (p.1, p.2) (λ text known no_io no_memory.
    read_fault (g.S.Source.left c.args.source.now) (g.S.Source.left c.loop-lines.source) (g.S.Source.left c.read.new.self) c.loop-lines.lines (take c.in-Ok.len c.read.new.buf) text c.in_err-take_all.field-0.0
    c.loop-lines.invariant.read bytes.0 c.in_err-take_all.ensures.fault known no_memory)
