-- What a node answers once numbering has answered, and where numbers run out.
use Rattle.std.proofs.Common.{◌≡◌, ◌+◌, ◌≤◌, refl, sym, ◌∙◌, subst}
use Rattle.pci_number.specs.Access.{nodes_behind}
use Rattle.pci_number.specs.NoBus.{bridges}
use Rattle.pci_number.specs.SpareBuses.{spare_room}
use Rattle.pci_number.proofs.Among.{among_roots_answers_once}
use Rattle.pci_number.proofs.Enough.{enough_for_all}
use Rattle.pci_number.specs.Left.{NoneFreeRunOut, FoundAnswersOnceOnBoard}
use Rattle.pci_number.proofs.Again.{ready_stays}
use Rattle.pci_number.proofs.Few.{same_bridges}
use Rattle.pci_number.proofs.Left.{none_free_in_order}

pub found_answers_once : FoundAnswersOnceOnBoard
found_answers_once spare root last before after answer ready answers =
    let a = answers ready in
    among_roots_answers_once (spare_room spare) after root last (ready_stays before after root last ready a.others a.numbered.same) (record { same = refl; numbers = a.numbered.numbers })

pub none_free_run_out : NoneFreeRunOut
none_free_run_out root last before after answer low ready answers =
    let a = answers ready in
    let same : bridges (nodes_behind after root) ≡ bridges (nodes_behind before root) = same_bridges (nodes_behind after root) (nodes_behind before root) (sym a.numbered.same) in
    let enough = enough_for_all root last (nodes_behind before root) (nodes_behind after root) low (none_free_in_order root last before after answer ready answers) in (
      λ none. subst (λ k. root + k ≤ last) same (enough.0 (sym a.without ∙ none)),
      λ upto. a.without ∙ enough.1 (subst (λ k. root + k ≤ last) (sym same) upto),
    )
