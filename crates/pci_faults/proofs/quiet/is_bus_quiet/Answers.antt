use Rattle.std.proofs.Common.{◌≡◌, sym, ◌∙◌}
use Rattle.std.proofs.lemmas.Bool.{eqb-true}
use Rattle.std.proofs.lemmas.Result.{IfOk-weaker}
use Rattle.pci_base.specs.Space.{space_of}
use Rattle.pci_claims.specs.Values.{code_given_value, told_value}
use Rattle.pci_faults.proofs.Quieting.{quiet_untold, none_on_bus}
use Rattle.pci_faults.proofs.quiet.is_bus_quiet.Goals as goal

pub returns-then-is_empty : goal.returns-then-is_empty
returns-then-is_empty g c = IfOk-weaker c.are_apart_on.result _ _
    (λ quiet is holds. quiet_untold (told_value c.args.board.now.told) (code_given_value c.args.board.now.given) c.args.board.now.outline.now (λ b. b ≡ c.args.bus) (space_of c.args.space)
    (none_on_bus (told_value c.args.board.now.told) c.args.bus c.ranges_of.result c.ranges_of.ensures (eqb-true c.ranges_of.result.first c.ranges_of.result.end (sym c.is_empty.ensures ∙ c.if-is_empty.true))) (is holds))
    c.are_apart_on.ensures
