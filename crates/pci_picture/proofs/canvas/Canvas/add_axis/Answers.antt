use Rattle.std.proofs.Common.{arith}
use Rattle.std.specs.String.{string_bytes}
use Rattle.pci_picture.specs.Elements.{axis_text}
use Rattle.pci_picture.proofs.Drawn.{axis_content}
use Rattle.std.proofs.lemmas.Result.{on_ok_weaker}
use Rattle.pci_picture.proofs.Boxes.{added_bare, axis_titles}
use Rattle.pci_picture.proofs.Kept.{made}
use Rattle.pci_picture.proofs.canvas.Canvas.add_axis.Goals as goal

pub keep_box-requires : goal.keep_box-requires
keep_box-requires g c =
    made (string_bytes c.clear.new.self) (string_bytes c.push_axis.new.text) (axis_text c.args.x c.args.y c.args.faint.now c.args.words.now)
    (axis_content c.args.x c.args.y c.args.faint.now c.args.words.now (omega arith) (omega arith)) c.clear.ensures.bytes c.in_ok-push_axis.ensures

pub returns-clause-adds : goal.returns-clause-adds
returns-clause-adds g c =
    on_ok_weaker c.keep_box.result
    (λ kept. added_bare (axis_text c.args.x c.args.y c.args.faint.now c.args.words.now) (axis_titles c.args.x c.args.y c.args.faint.now c.args.words.now)
    c.args.self.now c.keep_box.new.self (string_bytes c.clear.new.self) (string_bytes c.push_axis.new.text) c.clear.ensures.bytes c.in_ok-push_axis.ensures kept.0 kept.1)
    c.keep_box.ensures
