use Rattle.std.proofs.Common.{arith}
use Rattle.std.specs.String.{string_bytes}
use Rattle.pci_picture.specs.Elements.{words_text}
use Rattle.pci_picture.proofs.Drawn.{words_content}
use Rattle.std.proofs.lemmas.Result.{on_ok_weaker}
use Rattle.pci_picture.proofs.Boxes.{added_bare, draws_made, words_titles}
use Rattle.pci_picture.proofs.Kept.{made}
use Rattle.pci_picture.proofs.canvas.Canvas.add_heading.Goals as goal

pub keep_box-requires : goal.keep_box-requires
keep_box-requires g c =
    made (string_bytes c.clear.new.self) (string_bytes c.push_words.new.text) (words_text c.args.label.x c.args.label.y c.args.label.class.now c.args.words.now)
    (words_content c.args.label.x c.args.label.y c.args.label.class.now c.args.words.now (omega arith) (omega arith)) c.clear.ensures.bytes c.in_ok-push_words.ensures

pub returns-clause-adds : goal.returns-clause-adds
returns-clause-adds g c =
    on_ok_weaker c.keep_box.result
    (λ kept. added_bare (words_text c.args.label.x c.args.label.y c.args.label.class.now c.args.words.now) (words_titles c.args.label.x c.args.label.y c.args.label.class.now c.args.words.now)
    c.args.self.now c.keep_box.new.self (string_bytes c.clear.new.self) (string_bytes c.push_words.new.text) c.clear.ensures.bytes c.in_ok-push_words.ensures kept.0 kept.1)
    c.keep_box.ensures

pub returns-clause-draws : goal.returns-clause-draws
returns-clause-draws g c =
    on_ok_weaker c.keep_box.result
    (λ kept. draws_made (words_text c.args.label.x c.args.label.y c.args.label.class.now c.args.words.now)
    c.args.self.now c.keep_box.new.self (string_bytes c.clear.new.self) (string_bytes c.push_words.new.text) c.clear.ensures.bytes c.in_ok-push_words.ensures kept.0)
    c.keep_box.ensures
