use Rattle.std.proofs.Common.{◌*◌, ◌-◌, ◌/◌, ◌%◌, ◌^◌, ◌∙◌, arith}
use Rattle.std.proofs.lemmas.List.{length-set}
use Rattle.pci_picture.proofs.LowDigits.{digit_more, digit_of_number, all_digits}
use Rattle.pci_picture.proofs.words.hex_digits.Goals as goal

pub loop-index-preserved : goal.loop-index-preserved
loop-index-preserved c =
    let i = c.loop-index.index in
    record {
      long = length-set c.loop-index.digits i _ ∙ c.loop-index.invariant.long;
      put =
          digit_more c.loop-index.digits i c.args.number _ (omega arith) c.loop-index.invariant.long
          (digit_of_number (c.args.number / 2 ^ (60 - 4 * i) % 16) (omega arith)) c.loop-index.invariant.put;
    }

pub returns : goal.returns
returns c = all_digits c.loop-index.digits c.args.number c.loop-index.index (omega arith) c.loop-index.invariant.long c.loop-index.invariant.put
