use Rattle.std.proofs.Common.{List, ℕ, ◌&&◌, subst, sym, ap, ◌∙◌}
use Rattle.std.specs.Prelude.{not}
use Rattle.std.specs.List.{Contains}
use Rattle.std.proofs.lemmas.Bool.{iff_false}
use Rattle.judge_spec.specs.Why.{is_said}
use Rattle.pci_base.specs.Space.{space_of}
use Rattle.pci_claims.specs.Values.{code_given_value}
use Rattle.pci_why.proofs.FitsTold.{no_root}
use Rattle.pci_why.proofs.fits.is_sent_all.Goals as goal

pub returns-else-has : goal.returns-else-has
returns-else-has g c =
    c.if-has.false ∙ sym (ap (λ b. b && not (is_said (code_given_value c.args.given.now) (space_of c.args.space))) (no_root c.args.outline.now.roots c.args.bus
    (λ root. iff_false c.has.ensures c.if-has.false (subst (λ (roots : List ℕ). Contains roots c.args.bus) (sym c.roots.ensures) root))))
