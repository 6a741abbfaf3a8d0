use Rattle.std.proofs.Common.{◌-◌, List, ℕ, take, sym, ◌∙◌, subst, arith}
use Rattle.std.specs.Io.KnownBytes.{Consumes}
use Rattle.std.proofs.lemmas.Bool.{eqb-true}
use borrow.Rule.Slice.PartMut.{same_len_mid}
use Rattle.pci_machine.proofs.SizesTaken.{consumes_more, chunk_more}
use Rattle.pci_machine.proofs.sizes_reader.fill.Goals as goal

pub loop-drained-preserved : goal.loop-drained-preserved
loop-drained-preserved g c =
    let len = c.loop-drained.len in
    let long = c.loop-drained.invariant.long in
    let bound = c.in_ok-read.ensures.bound in
    let bytes = c.in_ok-read.ensures.bytes in
    let got = c.read.auto.buf in
    record {
      few = omega (arith, bound, got);
      long = same_len_mid len (8160 - len) c.loop-drained.chunk c.read.new.buf got ∙ long;
      bytes = subst (λ (t : List ℕ). Consumes (g.S.Source.left c.args.source.now) (g.S.Source.left c.read.new.self) t) (sym (chunk_more c.loop-drained.chunk c.read.new.buf len (8160 - len) c.in_ok-read.read (omega (arith, long)) bound))
          (consumes_more (g.S.Source.left c.args.source.now) (g.S.Source.left c.loop-drained.source) (g.S.Source.left c.read.new.self) (take len c.loop-drained.chunk) (take c.in_ok-read.read c.read.new.buf) c.loop-drained.invariant.bytes bytes.0);
      over = (λ none less. let zero = eqb-true c.in_ok-read.read 0 none in bytes.1 zero (omega (arith, got, long, less, zero)));
      fine = c.in_ok-read.ensures.counted ∙ c.loop-drained.invariant.fine;
    }
