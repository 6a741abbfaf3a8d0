use Rattle.std.proofs.Common.{◌≡◌, ◌≢◌, List, ℕ, Bool, false, codes}
use Rattle.std.specs.Str.{bytes_eq}
use Rattle.std.proofs.lemmas.Slice.Eq.{slice_eq-Decides}
use Rattle.std.proofs.lemmas.Bool.Decides.{Decides-eqb}
use Rattle.pciplan_lists.proofs.ModelWords.{listed_alone}
use Rattle.pciplan_lists.proofs.model_words.words_of_list.Goals as goal

other_word : (word : List ℕ) (equal : Bool) → equal ≡ bytes_eq word (codes "all") → equal ≡ false → word ≢ codes "all"
other_word word equal is other same =
    let yes = (slice_eq-Decides Decides-eqb word (codes "all") equal is).1 same in
    absurd (cc (yes, other))

pub returns-clause-word : goal.returns-clause-word
returns-clause-word c =
    listed_alone c.args.list.now c.listed_words.result (other_word c.args.list.now c.eq.result c.eq.ensures c.if-eq.false) c.listed_words.ensures.word
