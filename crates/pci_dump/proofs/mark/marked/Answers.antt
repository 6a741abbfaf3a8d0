use Rattle.std.proofs.Common.{◌≡◌, ◌≢◌, ◌++◌, ◌∙◌, List, ℕ, Some, ap, subst, sym}
use Rattle.std.specs.Prelude.{MatchOption}
use Rattle.std.proofs.lemmas.Bool.Decides.{Decides-eqb}
use Rattle.std.proofs.lemmas.Slice.Eq.{strip_prefix_is}
use Rattle.pci_spec.specs.Mark.{marked}
use Rattle.pci_dump.proofs.Marks.{no_word, with_word}
use Rattle.pci_dump.proofs.mark.marked.Goals as goal

pub returns-in-None-strip_prefix : goal.returns-in-None-strip_prefix
returns-in-None-strip_prefix c =
    let title = c.bytes-text.result.now in
    let word = c.as_slice.result.now in
    let other = subst (λ o. MatchOption o ((rest : List ℕ) → title ≢ word ++ rest) (λ x. title ≡ word ++ x.now)) c.in-None-strip_prefix.is (strip_prefix_is Decides-eqb title word c.strip_prefix.result c.strip_prefix.ensures.cases) in
    c.new-in-None-strip_prefix.ensures ∙ no_word title (λ rest is. other rest (is ∙ ap (λ w. w ++ rest) (sym c.as_slice.ensures))) ∙ ap (λ t. marked (Some t)) c.bytes-text.ensures.value ∙ ap marked (sym c.in-Some.is)

pub returns-in-Some-strip_prefix : goal.returns-in-Some-strip_prefix
returns-in-Some-strip_prefix c =
    let title = c.bytes-text.result.now in
    let word = c.as_slice.result.now in
    let rest = c.in-Some-strip_prefix.rest.now in
    let is = subst (λ o. MatchOption o ((rest : List ℕ) → title ≢ word ++ rest) (λ x. title ≡ word ++ x.now)) c.in-Some-strip_prefix.is (strip_prefix_is Decides-eqb title word c.strip_prefix.result c.strip_prefix.ensures.cases) in
    c.registers_of.ensures ∙ with_word title rest (is ∙ ap (λ w. w ++ rest) c.as_slice.ensures) ∙ ap (λ t. marked (Some t)) c.bytes-text.ensures.value ∙ ap marked (sym c.in-Some.is)
