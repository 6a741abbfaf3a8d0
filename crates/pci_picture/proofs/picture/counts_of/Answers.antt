use Rattle.std.proofs.Common.{length, ◌∙◌}
use Rattle.pci_picture.specs.Counts.{count_of_regions}
use Rattle.pci_picture.specs.Maps.{kept_regions}
use Rattle.pci_picture.proofs.Counts.{counts_put}
use Rattle.pci_picture.proofs.picture.counts_of.Goals as goal

pub returns : goal.returns
returns g c =
    let board = c.args.board.now in
    counts_put (length board.functions.items) (count_of_regions (kept_regions board.map)) (length board.faults.faults.items)
    c.len.result c.region_count.result c.len-faults.result c.new-words.result.bytes.items c.put_number.new.self.bytes.items c.put.new.self.bytes.items
    c.put_number-2.new.self.bytes.items c.put-2.new.self.bytes.items c.put_faults.new.words.bytes.items c.put-3.new.self.bytes.items
    (c.len.ensures ∙ board.functions.ok.0) c.region_count.ensures (c.len-faults.ensures ∙ board.faults.faults.ok.0) c.new-words.ensures c.in_ok-put_number.ensures c.in_ok-put.ensures c.in_ok-put_number-2.ensures
    c.in_ok-put-2.ensures c.in_ok-put_faults.ensures c.in_ok-put-3.ensures
