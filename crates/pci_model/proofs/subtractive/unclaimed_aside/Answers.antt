use Rattle.std.proofs.Common.{◌≡◌, ℕ, List, false, ◌&&◌, refl, sym, ◌∙◌, ap}
use Rattle.std.proofs.Math.Bool.{and-false}
use Rattle.pci_spec.specs.System.{Function, system_of}
use Rattle.judge_spec.specs.Words.{is_alone}
use Rattle.pci_model.specs.WordsValue.{words_value}
use Rattle.pci_model.proofs.Rivals.{left_as_is, made_positive}
use Rattle.pci_model.proofs.subtractive.unclaimed_aside.Goals as goal
use Rattle.pci_model.proofs.subtractive.unclaimed_aside.Goals.{else-words-via-then-words+else-is_alone, else-words-via-else-words}

pub returns-then-is_alone : goal.returns-then-is_alone
returns-then-is_alone c read_backs probe same =
    let f : Function = record { slot = c.args.slot; image = c.args.image.now.0; probe = probe } in
    let s = system_of c.args.blocks.now read_backs in
    ap (λ (image : List ℕ). let g : Function = record { slot = c.args.slot; image = image; probe = probe } in g) c.make_positive.ensures
    ∙ made_positive (words_value c.args.words) s f c.if-words.true (sym (c.is_alone.ensures read_backs probe same) ∙ c.if-is_alone.true)

pub returns-else-words : goal.returns-else-words
returns-else-words c read_backs probe same =
    let f : Function = record { slot = c.args.slot; image = c.args.image.now.0; probe = probe } in
    let s = system_of c.args.blocks.now read_backs in
    let other : (c.args.words.unclaimed && is_alone s f) ≡ false = elim c.else-words.branch [
      | else-words-via-then-words+else-is_alone w ↦ (let no : is_alone s f ≡ false = sym (w.is_alone.ensures read_backs probe same) ∙ w.if-is_alone.false in rw no (and-false c.args.words.unclaimed))
      | else-words-via-else-words w ↦ (let no : c.args.words.unclaimed ≡ false = w.if-words.false in rw no refl)
    ] in
    left_as_is (words_value c.args.words) s f other
