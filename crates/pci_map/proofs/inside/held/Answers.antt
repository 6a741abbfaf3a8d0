use Rattle.std.proofs.Common.{◌≡◌, ℕ, ◌+◌, ◌<◌, List, [], ◌∷◌, ◌++◌, Bool, true, false, cond, length, take, get_or, ap, sym, ◌∙◌, append-nil}
use Rattle.std.specs.List.{filter}
use Rattle.std.proofs.lemmas.List.{take_more}
use Rattle.std.proofs.lemmas.List.Elements.{filter-append}
use Rattle.pci_map.specs.declared.seat.Seat.{Seat}
use Rattle.pci_map.specs.Inside.{is_held_first}
use Rattle.pci_map.proofs.inside.held.Goals as goal
use Rattle.pci_map.proofs.inside.held.Goals.{then-holds+in_ok-add_seat, else-holds}

module _ (keeps : Seat → Bool) (xs : List Seat) (k : ℕ) (q : Seat) (within : k < length xs) (at : q ≡ get_or xs k q) where
  one_more : filter keeps (take (k + 1) xs) ≡ filter keeps (take k xs) ++ cond (keeps q) (q ∷ []) []
  one_more = ap (filter keeps) (take_more xs k q within ∙ ap (λ (y : Seat). take k xs ++ y ∷ []) (sym at)) ∙ filter-append keeps (take k xs) (q ∷ [])

  one_kept : (old new : List Seat) → old ≡ filter keeps (take k xs) → keeps q ≡ true → new ≡ old ++ q ∷ [] → new ≡ filter keeps (take (k + 1) xs)
  one_kept old new before kept is =
      is ∙ ap (λ ys. ys ++ q ∷ []) before ∙ ap (λ b. filter keeps (take k xs) ++ cond b (q ∷ []) []) (sym kept) ∙ sym one_more

  one_left : (old new : List Seat) → old ≡ filter keeps (take k xs) → keeps q ≡ false → new ≡ old → new ≡ filter keeps (take (k + 1) xs)
  one_left old new before left is =
      is ∙ before ∙ sym (append-nil (filter keeps (take k xs))) ∙ ap (λ b. filter keeps (take k xs) ++ cond b (q ∷ []) []) (sym left) ∙ sym one_more

pub loop-seat-preserved : goal.loop-seat-preserved
loop-seat-preserved g c =
    let q : Seat = c.seat-item.result in
    let keeps = is_held_first c.args.opening.now.window.now c.args.opening.now.earlier c.args.opening.now.cut in elim c.if-holds.branch [
      | then-holds+in_ok-add_seat w ↦
          one_kept keeps c.args.seats.now c.loop-seat.seat-index q c.loop-seat-test.true c.seat-item.is c.loop-seat.out.items c.if-holds.out.items c.loop-seat.invariant
          (sym c.holds.ensures ∙ w.if-holds.true) (ap (λ v. v.items) w.out-is ∙ w.in_ok-add_seat.ensures)
      | else-holds w ↦
          one_left keeps c.args.seats.now c.loop-seat.seat-index q c.loop-seat-test.true c.seat-item.is c.loop-seat.out.items c.if-holds.out.items c.loop-seat.invariant
          (sym c.holds.ensures ∙ w.if-holds.false) (ap (λ v. v.items) w.out-is)
    ]
