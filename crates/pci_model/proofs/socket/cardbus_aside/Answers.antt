use Rattle.std.proofs.Common.{◌≡◌, false, ◌&&◌, refl, sym, ◌∙◌}
use Rattle.std.proofs.Math.Bool.{and-false}
use Rattle.pci_spec.specs.System.{Function}
use Rattle.judge_spec.specs.Taken.{is_cardbus}
use Rattle.pci_model.specs.WordsValue.{words_value}
use Rattle.pci_model.proofs.Parts.{header_stays, socket_aside}
use Rattle.pci_model.proofs.socket.cardbus_aside.Goals as goal
use Rattle.pci_model.proofs.socket.cardbus_aside.Goals.{else-words-via-then-words+else-is_cardbus, else-words-via-else-words}

pub returns-then-is_cardbus : goal.returns-then-is_cardbus
returns-then-is_cardbus c slot =
    let f : Function = record { slot = slot; image = c.args.image.now.0; probe = c.args.probe.now.0 } in
    socket_aside (words_value c.args.words) f c.if-words.true (sym c.is_cardbus.ensures ∙ c.if-is_cardbus.true) _ _ c.make_bare_device.ensures c.clear_registers.ensures

pub returns-else-words : goal.returns-else-words
returns-else-words c slot =
    let f : Function = record { slot = slot; image = c.args.image.now.0; probe = c.args.probe.now.0 } in
    let other : (c.args.words.cardbus && is_cardbus f) ≡ false = elim c.else-words.branch [
      | else-words-via-then-words+else-is_cardbus w ↦ (let no : is_cardbus f ≡ false = sym w.is_cardbus.ensures ∙ w.if-is_cardbus.false in rw no (and-false c.args.words.cardbus))
      | else-words-via-else-words w ↦ (let no : c.args.words.cardbus ≡ false = w.if-words.false in rw no refl)
    ] in
    header_stays (words_value c.args.words) f other
