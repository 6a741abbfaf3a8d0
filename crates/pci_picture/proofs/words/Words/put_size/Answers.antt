use Rattle.std.proofs.Common.{sym, ◌∙◌}
use Rattle.pci_picture.proofs.RegionWords.{size_put}
use Rattle.pci_picture.proofs.words.Words.put_size.Goals as goal

pub returns-in_ok-put-2 : goal.returns-in_ok-put-2
returns-in_ok-put-2 g c =
    size_put c.args.size.now c.args.self.now.bytes.items c.put.new.self.bytes.items c.put-then-are_digits.new.self.bytes.items
    (sym c.are_digits.ensures ∙ c.if-are_digits.true) c.in_ok-put.ensures c.in_ok-put-2.ensures
