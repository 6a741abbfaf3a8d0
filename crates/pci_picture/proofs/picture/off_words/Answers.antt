use Rattle.std.proofs.Common.{[], ◌++◌, ap, ◌∙◌}
use Rattle.pci_picture.specs.Lines.{words_in_line}
use Rattle.pci_picture.specs.RegionWords.{words_of_region}
use Rattle.pci_picture.specs.Roots.{listed_functions}
use Rattle.pci_picture.proofs.RegionWords.{off_put}
use Rattle.pci_picture.proofs.picture.off_words.Goals as goal

pub returns : goal.returns
returns g c =
    let words = words_in_line c.args.region.now.line.now in
    let first = c.put_region.new.self.bytes.items in
    off_put (listed_functions c.args.board.now.functions.items) words c.word.result.now first c.put_all.new.self.bytes.items c.put_called.new.words.bytes.items
    c.word.ensures (c.in_ok-put_region.ensures ∙ ap (λ l. l ++ words_of_region words) c.new-words.ensures)
    (c.in_ok-put_all.ensures ∙ ap (λ comma. first ++ (comma ++ (c.word.result.now ++ []))) c.as_slice.ensures) c.in_ok-put_called.ensures
