use Rattle.std.specs.Result.{is_ok}
use Rattle.std.specs.String.{string_bytes}
use Rattle.pci_picture.proofs.Kept.{kept}
use Rattle.pci_picture.proofs.canvas.Canvas.keep_box.Goals as goal

pub invariant_of-self : goal.invariant_of-self
invariant_of-self g c = record {
  boxes_closed = kept (is_ok c.push_str.result) (string_bytes c.args.self.now.boxes) (string_bytes c.push_str.new.self) c.as_str.result.now (string_bytes c.args.self.now.element)
      c.args.self.now.boxes_closed c.requires c.push_str.ensures.bytes c.as_str.ensures.value;
  words_closed = c.args.self.now.words_closed;
}
