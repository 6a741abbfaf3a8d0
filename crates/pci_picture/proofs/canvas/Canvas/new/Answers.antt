use Rattle.std.specs.String.{string_bytes}
use Rattle.pci_picture.proofs.Boxes.{none_spots, none_titles}
use Rattle.pci_picture.proofs.Kept.{none_drawn}
use Rattle.pci_picture.proofs.canvas.Canvas.new.Goals as goal

pub invariant_of-result : goal.invariant_of-result
invariant_of-result g c = record {
  boxes_closed = none_drawn (string_bytes c.new.result) c.new.ensures.bytes;
  words_closed = none_drawn (string_bytes c.new-2.result) c.new-2.ensures.bytes;
}

pub returns : goal.returns
returns g c = record {
  drawn = record {
    in_boxes = none_spots (string_bytes c.new.result) c.new.ensures.bytes;
    in_words = none_titles (string_bytes c.new-2.result) c.new-2.ensures.bytes;
  };
  empty = c.new-2.ensures.bytes;
  blank = c.new.ensures.bytes;
}
