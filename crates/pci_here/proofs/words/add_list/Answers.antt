use Rattle.std.proofs.Common.{◌++◌, map, rules}
use Rattle.std.specs.String.{string_bytes}
use Rattle.pci_here.specs.Words.{option_text, range_word}
use Rattle.pci_here.proofs.Options.{range_more}
use Rattle.pci_here.proofs.words.add_list.Goals as goal

pub loop-range-preserved : goal.loop-range-preserved
loop-range-preserved c = (
  search rules,
  range_more c.args.list.now c.loop-range.range-index (string_bytes c.loop-range.text) (string_bytes c.add_range.new.text) c.loop-range.before.now
      (string_bytes c.args.text.now ++ option_text c.args.option.now (map range_word c.args.list.now)) c.loop-range-test.true c.in_ok-add_range.ensures
      c.loop-range.invariant.1,
)
