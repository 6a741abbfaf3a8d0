use Rattle.std.proofs.Common.{List, subst}
use Rattle.std.proofs.lemmas.Result.{IfOk-weaker}
use Rattle.pci_claims.specs.Values.{code_given_value, told_value}
use Rattle.pci_faults.specs.declared.needed.Needed.{Needed}
use Rattle.pci_faults.specs.UnreachedLines.{AreUnreachedLines}
use Rattle.pci_faults.proofs.UnreachedLining.{all_unreached_are, told_unreached_are}
use Rattle.pci_faults.proofs.unreached_lines.all_unreached.Goals as goal

pub returns : goal.returns
returns g c = IfOk-weaker c.unreached_among-2.result _ _
    (λ v made. all_unreached_are (told_value c.args.board.now.told) (code_given_value c.args.board.now.given) c.args.board.now.outline.now c.in_ok-list-2.list.items v.items c.in_ok-list-2.ensures
    (subst (λ (l : List Needed). AreUnreachedLines (code_given_value c.args.board.now.given) c.args.board.now.outline.now l v.items) c.deref-2.ensures.value made)) c.unreached_among-2.ensures

pub returns-then-branch : goal.returns-then-branch
returns-then-branch g c =
    let home = c.in_ok-are_all_home.ensures c.if-branch.true in
    IfOk-weaker c.unreached_among.result _ _
    (λ v made. told_unreached_are (told_value c.args.board.now.told) (code_given_value c.args.board.now.given) c.args.board.now.outline.now c.in_ok-list.list.items v.items c.in_ok-reached.ensures.nested home.0 home.1 c.in_ok-list.ensures
    (subst (λ (l : List Needed). AreUnreachedLines (code_given_value c.args.board.now.given) c.args.board.now.outline.now l v.items) c.deref.ensures.value made)) c.unreached_among.ensures
