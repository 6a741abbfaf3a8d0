use Rattle.std.proofs.Common.{◌≡◌, refl, arith}
use Rattle.pci_dump.proofs.RowLine.{space_there, row_written}
use Rattle.pci_dump.proofs.block_text.row_line.Goals as goal

pub loop-i-init : goal.loop-i-init
loop-i-init c = record {
  long = refl;
  first = c.digit_of.ensures;
  second = refl;
  third = refl;
  last = refl;
  spaces = space_there c.digit_of.result;
  high = λ k. omega arith;
  low = λ k. omega arith;
}

pub returns : goal.returns
returns c =
    let all : c.loop-i.i ≡ 16 = omega arith in
    let held = c.loop-i.invariant in
    row_written c.args.row c.loop-i.line c.args.values.now held.long c.requires.within c.requires.whole (λ k. let fits = c.type_inv.values k in omega (arith, fits))
    held.first held.second held.third held.last held.spaces (λ k below. held.high k (omega (arith, below, all))) (λ k below. held.low k (omega (arith, below, all)))
