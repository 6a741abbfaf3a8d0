use Rattle.std.proofs.Common.{ℕ, List, subst, sym}
use Rattle.std.proofs.lemmas.List.Elements.{All-contains}
use Rattle.std.specs.List.{Contains}
use Rattle.std.proofs.lemmas.Result.{IfOk-weaker}
use Rattle.pci_base.specs.Space.{space_of}
use Rattle.pci_tree.specs.Roots.{buses_of}
use Rattle.judge_spec.specs.Told.{ToldRange}
use Rattle.pci_claims.specs.Values.{code_given_value, told_value}
use Rattle.pci_faults.proofs.Quieting.{quiet_untold}
use Rattle.pci_faults.proofs.quiet.are_roots_quiet.Goals as goal

pub returns-then-are_roots_untold : goal.returns-then-are_roots_untold
returns-then-are_roots_untold g c = IfOk-weaker c.are_untold_roots_apart.result _ _
    (λ quiet is holds. quiet_untold (told_value c.args.board.now.told) (code_given_value c.args.board.now.given) c.args.board.now.outline.now (Contains c.args.board.now.outline.now.roots) (space_of c.args.space)
    (λ r has root. All-contains (λ (x : ToldRange). Contains (buses_of c.roots-roots.result) x.slot.bus → ⊥) c.args.board.now.told.ranges.now r (c.are_roots_untold.ensures c.if-are_roots_untold.true) has (subst (λ (roots : List ℕ). Contains roots r.slot.bus) (sym c.roots-roots.ensures) root))
    (is holds)) c.are_untold_roots_apart.ensures
