use Rattle.std.proofs.Common.{◌≡◌, ◌≢◌, List, ℕ, Bool, false, codes, ◌∙◌, subst}
use Rattle.std.specs.Str.{bytes_eq}
use Rattle.std.proofs.lemmas.Slice.Eq.{slice_eq-Decides}
use Rattle.std.proofs.lemmas.Bool.Decides.{Decides-eqb}
use Rattle.pciplan_lists.specs.ListWords.{IsListWord}
use Rattle.pciplan_lists.proofs.ListWords.{none_only, to_ranges}
use Rattle.pciplan_lists.proofs.list_word.list_of_word.Goals as goal

other_word : (word : List ℕ) (equal : Bool) → equal ≡ bytes_eq word (codes "none") → equal ≡ false → word ≢ codes "none"
other_word word equal is other same =
    let yes = (slice_eq-Decides Decides-eqb word (codes "none") equal is).1 same in
    absurd (cc (yes, other))

pub returns-then-eq-clause-only : goal.returns-then-eq-clause-only
returns-then-eq-clause-only g c = λ list is.
    let same = (slice_eq-Decides Decides-eqb c.args.word.now (codes "none") c.eq.result c.eq.ensures).0 c.if-eq.true in
    c.new.ensures.items ∙ none_only list (subst (λ w. IsListWord w list) same is)

pub returns-then-has_ranges-clause-only : goal.returns-then-has_ranges-clause-only
returns-then-has_ranges-clause-only g c = λ list is.
    c.joined_ranges.ensures.only list
    (to_ranges c.args.word.now list (other_word c.args.word.now c.eq.result c.eq.ensures c.if-eq.false) is)
