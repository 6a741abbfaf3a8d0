use Rattle.std.proofs.Common.{◌∷◌, ◌∙◌, ap}
use Rattle.std.proofs.lemmas.Option.{none-some}
use Rattle.pci_here.specs.Parts.{parts_left}
use Rattle.pci_here.proofs.LogWords.{nothing_behind, nothing_left, passed_more, said_only}
use Rattle.pci_here.proofs.log_line.said_of.Goals as goal

pub returns-in_err-text-clause-said : goal.returns-in_err-text-clause-said
returns-in_err-text-clause-said c =
    rw c.from_residual.ensures (nothing_behind c.args.line.now c.first_part.result.0.now (parts_left 32 c.words.left) c.in-Some-place_named.place
    (ap (parts_left 32) c.in-Some.is ∙ c.first_part.ensures ∙ ap (λ m. c.first_part.result.0.now ∷ parts_left 32 m) c.in_err-text.was)
    c.in-Some-place_named.ensures.name c.words.invariant)

pub returns-in-Some-place_named-clause-only : goal.returns-in-Some-place_named-clause-only
returns-in-Some-place_named-clause-only c =
    said_only c.args.line.now c.first_part.result.0.now c.in_ok-text.text.now (parts_left 32 c.words.left) c.in-Some-place_named.place
    (ap (parts_left 32) c.in-Some.is ∙ c.first_part.ensures ∙ ap (λ m. c.first_part.result.0.now ∷ parts_left 32 m) c.in_ok-text.was)
    c.in-Some-place_named.ensures.name c.words.invariant c.in-Some-place_named.ensures.only

pub words-preserved : goal.words-preserved
words-preserved c =
    passed_more c.args.line.now c.first_part.result.0.now (parts_left 32 c.words.left) (parts_left 32 c.first_part.result.1)
    (ap (parts_left 32) c.in-Some.is ∙ c.first_part.ensures) (λ p is. none-some p (c.in_default-place_named.ensures.only p is)) c.words.invariant

pub returns-clause-said : goal.returns-clause-said
returns-clause-said c = nothing_left c.args.line.now (parts_left 32 c.words.left) (ap (parts_left 32) c.in_default.is) c.words.invariant
