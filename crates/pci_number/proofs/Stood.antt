-- Lists of boards that stood.
use Rattle.std.proofs.Common.{◌≡◌, inl, inr, List, [], ◌∷◌, ◌++◌, refl, sym, ◌∙◌, ap, Result, Ok, Err}
use Rattle.std.specs.Result.{IsErr}
use Rattle.std.proofs.lemmas.List.{append_assoc}
use Rattle.pci_number.specs.Board.{Board}
use Rattle.pci_number.specs.Stood.{Each, Adds, Ends, AddsOrEnds, IsOneMore, board_moment}

each_both : (P : Board → Type 0) (xs ys : List Board) → Each P xs → Each P ys → Each P (xs ++ ys)
each_both P [] ys px py = py
each_both P (x ∷ xs) ys px py = (px.0, each_both P xs ys px.1 py)

pub adds_none : (P : Board → Type 0) (old : List Board) → Adds P old old
adds_none P old = ([], refl, tt)

pub adds_then : (P : Board → Type 0) (old mid new : List Board) → Adds P old mid → Adds P mid new → Adds P old new
adds_then P old mid new a b = (b.0 ++ a.0, b.1 ∙ ap (λ xs. b.0 ++ xs) a.1 ∙ sym (append_assoc b.0 a.0 old), each_both P b.0 a.0 b.2 a.2)

pub adds_one : (P : Board → Type 0) (was : Board) (old : List Board) (board : Board) (new : List Board) → IsOneMore (board_moment was old) (board_moment board new) → P board → Adds P old new
adds_one P was old board new more said = elim more [ inl same ↦ ([], same.1, tt) | inr one ↦ (board ∷ [], one, (said, tt)) ]

pub adds_more : (P : Board → Type 0) (was : Board) (old mid : List Board) (board : Board) (new : List Board) → Adds P old mid → IsOneMore (board_moment was mid) (board_moment board new) → P board → Adds P old new
adds_more P was old mid board new before more said = adds_then P old mid new before (adds_one P was mid board new more said)

pub ends_one : (P : Board → Type 0) (was : Board) (old mid : List Board) (board : Board) (new : List Board) → Adds P old mid → IsOneMore (board_moment was mid) (board_moment board new) → Ends P old new
ends_one P was old mid board new before more = (mid, before, elim more [ inl same ↦ inl same.1 | inr one ↦ inr (board, one) ])

pub ends_same : (P : Board → Type 0) (old mid new : List Board) → Adds P old mid → new ≡ mid → Ends P old new
ends_same P old mid new before same = (mid, before, inl same)

pub ends_then : (P : Board → Type 0) (old mid new : List Board) → Adds P old mid → Ends P mid new → Ends P old new
ends_then P old mid new before ends = (ends.0, adds_then P old mid ends.0 before ends.1, ends.2)

-- ---- by an outcome

pub ended : {T E : Type 0} → (P : Board → Type 0) (r : Result T E) (old new : List Board) → IsErr r → Ends P old new → AddsOrEnds P r old new
ended P (Ok x) old new err ends = cc err
ended P (Err e) old new err ends = ends

pub outcome_then : {T E : Type 0} → (P : Board → Type 0) (r : Result T E) (old mid new : List Board) → Adds P old mid → AddsOrEnds P r mid new → AddsOrEnds P r old new
outcome_then P (Ok x) old mid new before after = adds_then P old mid new before after
outcome_then P (Err e) old mid new before after = ends_then P old mid new before after
