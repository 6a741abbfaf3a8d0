use Rattle.std.proofs.Common.{List, ℕ, subst, sym}
use Rattle.std.specs.List.{Contains}
use Rattle.std.proofs.lemmas.Bool.{iff_false}
use Rattle.std.proofs.lemmas.Result.{IfOk-weaker}
use Rattle.pci_base.specs.Space.{space_of}
use Rattle.pci_claims.specs.Values.{code_given_value, told_value}
use Rattle.pci_why.proofs.Beside.{on_one_bus, on_all_roots}
use Rattle.pci_why.proofs.room.claims_beside.Goals as goal

pub returns-then-has : goal.returns-then-has
returns-then-has g c =
    let board = c.args.board.now in
    IfOk-weaker c.claims_of_roots.result _ _
    (λ v each s tree nested. on_all_roots (told_value board.told) (code_given_value board.given) board.outline.now.roots s c.args.bus (space_of c.args.space) v.items nested
    (subst (λ (roots : List ℕ). Contains roots c.args.bus) c.roots.ensures (c.has.ensures.0 c.if-has.true)) (each s tree))
    c.claims_of_roots.ensures

pub returns-else-has : goal.returns-else-has
returns-else-has g c =
    let board = c.args.board.now in
    IfOk-weaker c.claims_among.result _ _
    (λ v each s tree nested. on_one_bus (told_value board.told) (code_given_value board.given) board.outline.now.roots s c.args.bus (space_of c.args.space) v.items
    (λ root. iff_false c.has.ensures c.if-has.false (subst (λ (roots : List ℕ). Contains roots c.args.bus) (sym c.roots.ensures) root)) (each s tree))
    c.claims_among.ensures
