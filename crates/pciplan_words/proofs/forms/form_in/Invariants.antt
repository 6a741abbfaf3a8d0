use Rattle.std.proofs.Common.{◌≡◌, drop, map}
use Rattle.pciplan_words.specs.Forms.{form_in}
use Rattle.pciplan_words.proofs.forms.form_in.Given as goal

abbrev pub invariant-loop-word : goal.invariant-loop-word
invariant-loop-word l = form_in (map (λ w. w.now) l.words) ≡ form_in (map (λ w. w.now) (drop l.word-index l.words))
