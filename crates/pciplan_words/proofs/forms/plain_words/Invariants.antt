use Rattle.std.proofs.Common.{◌≡◌, ◌++◌, drop, map}
use Rattle.pciplan_words.specs.Forms.{plain_words, plain_from}
use Rattle.pciplan_words.proofs.forms.plain_words.Given as goal

abbrev pub invariant-loop-word : goal.invariant-loop-word
invariant-loop-word l = map (λ w. w.now) l.plain.items ++ plain_from l.ended (map (λ w. w.now) (drop l.word-index l.words)) ≡ plain_words (map (λ w. w.now) l.words)
