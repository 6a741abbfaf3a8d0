use Rattle.std.proofs.Common.{List, subst}
use Rattle.std.proofs.lemmas.Result.{IfOk-weaker}
use Rattle.pci_claims.specs.Values.{code_given_value, told_value}
use Rattle.pci_faults.specs.declared.needed.Needed.{Needed}
use Rattle.pci_faults.specs.OutsideLines.{AreOutsideLines}
use Rattle.pci_faults.proofs.OutsideLining.{all_outside_are}
use Rattle.pci_faults.proofs.outside_lines.all_outside.Goals as goal

pub returns : goal.returns
returns g c = IfOk-weaker c.outside_among.result _ _
    (λ v made. all_outside_are (told_value c.args.board.now.told) (code_given_value c.args.board.now.given) c.args.board.now.outline.now c.in_ok-list.list.items v.items c.in_ok-list.ensures
    (subst (λ (l : List Needed). AreOutsideLines (code_given_value c.args.board.now.given) c.args.board.now.outline.now l v.items) c.deref.ensures.value made)) c.outside_among.ensures
