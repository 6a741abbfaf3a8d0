use Rattle.std.proofs.Common.{rules, ◌≡◌, refl}
use Rattle.pciplan_c.proofs.WordBytes.{no_words, none_read}
use Rattle.pciplan_c.proofs.faults_words.words_of.Goals as goal

pub returns-in_default : goal.returns-in_default
returns-in_default c = search (rules, no_words)

pub returns-in-None : goal.returns-in-None
returns-in-None c =
    let same : c.in-Ok.text.now ≡ c.args.word.now = search rules in
    (refl, none_read c.args.word.now c.in-Ok.text.now c.is_empty.result c.is_empty.ensures c.if-is_empty.false same c.in-None.ensures.word)
