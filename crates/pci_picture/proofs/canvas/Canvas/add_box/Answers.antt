use Rattle.std.proofs.Common.{arith}
use Rattle.std.specs.String.{string_bytes}
use Rattle.pci_picture.specs.Elements.{box_text}
use Rattle.pci_picture.proofs.Drawn.{box_content}
use Rattle.std.proofs.lemmas.Result.{on_ok_weaker}
use Rattle.pci_picture.proofs.Boxes.{added_box, draws_made}
use Rattle.pci_picture.proofs.Kept.{made}
use Rattle.pci_picture.proofs.canvas.Canvas.add_box.Goals as goal

pub keep_box-requires : goal.keep_box-requires
keep_box-requires g c =
    made (string_bytes c.clear.new.self) (string_bytes c.push_box.new.text) (box_text c.args.shape.at.x c.args.shape.at.y c.args.shape.at.width c.args.shape.at.height c.args.shape.class.now c.args.shape.anchor.now c.args.title.now)
    (box_content c.args.shape.at.x c.args.shape.at.y c.args.shape.at.width c.args.shape.at.height c.args.shape.class.now c.args.shape.anchor.now c.args.title.now (omega arith) (omega arith) (omega arith) (omega arith)) c.clear.ensures.bytes c.in_ok-push_box.ensures

pub returns-clause-adds : goal.returns-clause-adds
returns-clause-adds g c =
    on_ok_weaker c.keep_box.result
    (λ kept. added_box c.args.shape.at.x c.args.shape.at.y c.args.shape.at.width c.args.shape.at.height c.args.shape.class.now c.args.shape.anchor.now c.args.title.now
    c.args.self.now c.keep_box.new.self (string_bytes c.clear.new.self) (string_bytes c.push_box.new.text) c.clear.ensures.bytes c.in_ok-push_box.ensures kept.0 kept.1)
    c.keep_box.ensures

pub returns-clause-draws : goal.returns-clause-draws
returns-clause-draws g c =
    on_ok_weaker c.keep_box.result
    (λ kept. draws_made (box_text c.args.shape.at.x c.args.shape.at.y c.args.shape.at.width c.args.shape.at.height c.args.shape.class.now c.args.shape.anchor.now c.args.title.now)
    c.args.self.now c.keep_box.new.self (string_bytes c.clear.new.self) (string_bytes c.push_box.new.text) c.clear.ensures.bytes c.in_ok-push_box.ensures kept.0)
    c.keep_box.ensures
