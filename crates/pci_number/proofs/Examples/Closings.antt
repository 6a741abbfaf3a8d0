-- The first write of numbering, on a board where two bridges lead to bus 5.
use Rattle.std.proofs.Common.{◌≡◌, ℕ, List, [], ◌∷◌, ◌++◌, refl, sym, ◌∙◌, subst, length, Ok}
use Rattle.pci_number.specs.Board.{Board, answers}
use Rattle.pci_number.specs.Access.{nodes_behind}
use Rattle.pci_number.proofs.BoardExamples.Boards.{slot, board, pair}
use Rattle.pci_number.specs.Less.{AreShut}
use Rattle.pci_number.specs.Stood.{latest, board_moment}
use Rattle.pci_number.specs.Single.{IsSingleBeside, IsSingleThroughout}

-- at the start, and once the first bridge leads to no bus above its own
abbrev start : Board
start = board (pair 0x000509 0x000505)

abbrev first : Board
first = board (pair 0x000500 0x000505)

-- once it leads to none at all, one node answers there
abbrev second : Board
second = board (pair 0x000000 0x000505)

two_answer : length (answers start (slot 5 0 0)) ≡ 2
two_answer = refl

two_answer_still : length (answers first (slot 5 0 0)) ≡ 2
two_answer_still = refl

one_answers : length (answers second (slot 5 0 0)) ≡ 1
one_answers = refl

open_start : AreShut (nodes_behind start 0) → ⊥
open_start shut = cc ((shut.0 refl).0)

open_first : AreShut (nodes_behind first 0) → ⊥
open_first shut = cc ((shut.0 refl).0)

-- Where numbering answered, that board can't be the last one: the bridges were never closed.
closed_is : (closed : Board) (added more hushed : List Board) → hushed ≡ added ++ [] → latest start added ≡ closed → first ∷ [] ≡ more ++ hushed → AreShut (nodes_behind closed 0) → ⊥
closed_is closed [] more hushed is last all shut = open_start (subst (λ b. AreShut (nodes_behind b 0)) (sym last) shut)
closed_is closed (b ∷ bs) [] hushed is last all shut =
    let same : first ≡ b = cc (all ∙ is) in
    open_first (subst (λ x. AreShut (nodes_behind x 0)) (sym (same ∙ last)) shut)
closed_is closed (b ∷ bs) (y ∷ []) hushed is last all shut = let none : [] ≡ b ∷ (bs ++ []) = cc (all, is) in cc none
closed_is closed (b ∷ bs) (y ∷ z ∷ zs) hushed is last all shut = cc all

not_answered : IsSingleBeside start 0 → (answer : ℕ) → IsSingleThroughout {T = ℕ} {E = ℕ} (board_moment start []) 0 (Ok answer) (first ∷ []) → ⊥
not_answered beside answer all =
    let later = all.later beside in
    closed_is all.closed.board all.hushing.0 later.0 all.closed.history all.hushing.1 all.hushing.3 later.1 all.done
