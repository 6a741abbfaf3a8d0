use Rattle.std.proofs.Common.{arith}
use Rattle.std.specs.String.{string_bytes}
use Rattle.pci_picture.proofs.Boxes.{drawn_of}
use Rattle.pci_picture.proofs.Kept.{finished}
use Rattle.pci_picture.proofs.canvas.Canvas.finish.Goals as goal

pub returns : goal.returns
returns g c = record {
  closed = finished c.text.result (λ text. string_bytes text) c.args.is_told (string_bytes c.args.self.now.boxes) (string_bytes c.args.self.now.words) c.args.width c.args.height
      (omega arith) (omega arith) c.args.self.now.boxes_closed c.args.self.now.words_closed c.text.ensures;
  drawn = λ spots head behind drawn at. drawn_of c.text.result (λ text. string_bytes text) c.args.is_told (string_bytes c.args.self.now.boxes) (string_bytes c.args.self.now.words) c.args.width c.args.height
      spots head behind drawn at c.text.ensures;
  says = c.text.ensures;
}
