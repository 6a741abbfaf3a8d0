-- Boards that stood one after the other.
use Rattle.std.proofs.Common.{◌≡◌, inl, inr, List, [], ◌∷◌, ◌++◌, refl, sym, ◌∙◌, ap, subst, Result, Ok, Err}
use Rattle.std.specs.Result.{IsErr}
use Rattle.std.proofs.lemmas.List.{append_assoc}
use Rattle.pci_number.specs.Board.{Board}
use Rattle.pci_number.specs.Stood.{Each, Adds, Ends, IsOneMore, latest, EachStep, AddsSteps, EndsSteps, StepsOrEnds, board_moment}

latest_join : (a b : Board) (xs ys : List Board) → latest a xs ≡ b → latest a (ys ++ xs) ≡ latest b ys
latest_join a b xs [] is = is
latest_join a b xs (y ∷ ys) is = refl

steps_both : (R : Board → Board → Type 0) (a b : Board) (xs ys : List Board) → latest a xs ≡ b → EachStep R a xs → EachStep R b ys → EachStep R a (ys ++ xs)
steps_both R a b xs [] is rx ry = rx
steps_both R a b xs (y ∷ ys) is rx ry = (subst (λ p. R p y) (sym (latest_join a b xs ys is)) ry.0, steps_both R a b xs ys is rx ry.1)

steps_map : (R Q : Board → Board → Type 0) → ((p b : Board) → R p b → Q p b) → (a : Board) (xs : List Board) → EachStep R a xs → EachStep Q a xs
steps_map R Q so a [] rx = tt
steps_map R Q so a (x ∷ xs) rx = (so (latest a xs) x rx.0, steps_map R Q so a xs rx.1)

steps_each : (R : Board → Board → Type 0) (P : Board → Type 0) → ((p b : Board) → R p b → P b) → (a : Board) (xs : List Board) → EachStep R a xs → Each P xs
steps_each R P so a [] rx = tt
steps_each R P so a (x ∷ xs) rx = (so (latest a xs) x rx.0, steps_each R P so a xs rx.1)

pub steps_none : (R : Board → Board → Type 0) (a : Board) (old : List Board) → AddsSteps R (board_moment a old) (board_moment a old)
steps_none R a old = ([], refl, tt, refl)

pub steps_one : (R : Board → Board → Type 0) (a : Board) (old : List Board) (b : Board) (new : List Board) → IsOneMore (board_moment a old) (board_moment b new) → R a b → AddsSteps R (board_moment a old) (board_moment b new)
steps_one R a old b new more said = elim more [ inl none ↦ ([], none.1, tt, sym none.0) | inr one ↦ (b ∷ [], one, (said, tt), refl) ]

pub steps_then : (R : Board → Board → Type 0) (a : Board) (old : List Board) (b : Board) (mid : List Board) (d : Board) (new : List Board) → AddsSteps R (board_moment a old) (board_moment b mid) → AddsSteps R (board_moment b mid) (board_moment d new) → AddsSteps R (board_moment a old) (board_moment d new)
steps_then R a old b mid d new x y = (y.0 ++ x.0, y.1 ∙ ap (λ xs. y.0 ++ xs) x.1 ∙ sym (append_assoc y.0 x.0 old), steps_both R a b x.0 y.0 x.3 x.2 y.2, latest_join a b x.0 y.0 x.3 ∙ y.3)

pub steps_as : (R Q : Board → Board → Type 0) → ((p b : Board) → R p b → Q p b) → (a : Board) (old : List Board) (b : Board) (new : List Board) → AddsSteps R (board_moment a old) (board_moment b new) → AddsSteps Q (board_moment a old) (board_moment b new)
steps_as R Q so a old b new x = (x.0, x.1, steps_map R Q so a x.0 x.2, x.3)

pub steps_add : (R : Board → Board → Type 0) (P : Board → Type 0) → ((p b : Board) → R p b → P b) → (a : Board) (old : List Board) (b : Board) (new : List Board) → AddsSteps R (board_moment a old) (board_moment b new) → Adds P old new
steps_add R P so a old b new x = (x.0, x.1, steps_each R P so a x.0 x.2)

pub stops_one : (R : Board → Board → Type 0) (a : Board) (old : List Board) (b : Board) (mid : List Board) (d : Board) (new : List Board) → AddsSteps R (board_moment a old) (board_moment b mid) → IsOneMore (board_moment b mid) (board_moment d new) → EndsSteps R (board_moment a old) new
stops_one R a old b mid d new x more = (board_moment b mid, x, elim more [ inl none ↦ inl none.1 | inr one ↦ inr (d, one) ])

pub stops_then : (R : Board → Board → Type 0) (a : Board) (old : List Board) (b : Board) (mid new : List Board) → AddsSteps R (board_moment a old) (board_moment b mid) → EndsSteps R (board_moment b mid) new → EndsSteps R (board_moment a old) new
stops_then R a old b mid new x ends = (ends.0, steps_then R a old b mid ends.0.board ends.0.history x ends.1, ends.2)

pub stops_as : (R Q : Board → Board → Type 0) → ((p b : Board) → R p b → Q p b) → (a : Board) (old new : List Board) → EndsSteps R (board_moment a old) new → EndsSteps Q (board_moment a old) new
stops_as R Q so a old new ends = (ends.0, steps_as R Q so a old ends.0.board ends.0.history ends.1, ends.2)

pub stops_end : (R : Board → Board → Type 0) (P : Board → Type 0) → ((p b : Board) → R p b → P b) → (a : Board) (old new : List Board) → EndsSteps R (board_moment a old) new → Ends P old new
stops_end R P so a old new ends = (ends.0.history, steps_add R P so a old ends.0.board ends.0.history ends.1, ends.2)

pub stopped : {T E : Type 0} → (R : Board → Board → Type 0) (r : Result T E) (a : Board) (old : List Board) (b : Board) (new : List Board) → IsErr r → EndsSteps R (board_moment a old) new → StepsOrEnds R r (board_moment a old) (board_moment b new)
stopped R (Ok x) a old b new err ends = cc err
stopped R (Err e) a old b new err ends = ends
