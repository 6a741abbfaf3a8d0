use Rattle.std.proofs.Common.{◌≡◌, refl, sym, ap, ◌∙◌, subst, List, ◌∷◌, ◌+◌, take, drop}
use Rattle.std.specs.Prelude.{MatchOption}
use Rattle.std.specs.List.{Contains}
use Rattle.std.specs.String.{string_bytes}
use Rattle.std.proofs.lemmas.List.{drop_more, drop_all}
use Rattle.std.proofs.lemmas.List.Elements.{Contains-get_or}
use Rattle.std.proofs.lemmas.Result.{on_ok_weaker}
use Rattle.pci_base.specs.Space.{space_of}
use Rattle.pci_base.specs.declared.range.Range.{Range}
use Rattle.pci_claims.specs.Values.{code_given_value, told_value}
use Rattle.pci_map.specs.declared.seat.Seat.{Seat}
use Rattle.pci_map.specs.Walk.{ahead, merged, IsNoWindow, HasInside}
use Rattle.pci_map.proofs.Joins.{IsPartly, none_yet, next_seat, last_runs}
use Rattle.pci_map.proofs.Seats.{seat_alone, seat_of_window}
use Rattle.pci_map.proofs.walk.+place.Goals as goal

pub push_place-loop-seat-init : goal.push_place-loop-seat-init
push_place-loop-seat-init g t c = λ s above on.
    let space = space_of c.args.walk.now.space in
    let qs : List Seat = c.args.place.now.regions.items in
    let all = merged space qs c.args.place.now.runs.items in
    subst (λ (left : List Range). IsPartly record { told = told_value c.args.walk.now.mapped.now.told; given = code_given_value c.args.walk.now.mapped.now.given; roots = c.args.walk.now.mapped.now.outline.now.roots; system = s; space = space } c.args.depth all (merged space qs left) (string_bytes c.args.text.now) (string_bytes c.args.text.now)) (sym c.as_slice-left.ensures.value)
    (none_yet (told_value c.args.walk.now.mapped.now.told) (code_given_value c.args.walk.now.mapped.now.given) c.args.walk.now.mapped.now.outline.now.roots s space c.args.depth all (string_bytes c.args.text.now))

pub push_place-loop-seat-preserved : goal.push_place-loop-seat-preserved
push_place-loop-seat-preserved g t c = λ s above on.
    let space = space_of c.args.walk.now.space in
    let qs : List Seat = c.args.place.now.regions.items in
    let k = c.loop-seat.seat-index in
    let xs : List Seat = c.as_slice-seat-items.result.now in
    let same : xs ≡ qs = c.as_slice-seat-items.ensures.value in
    let q : Seat = c.seat-item.result in
    let left : List Range = c.loop-seat.left.now in
    let here : drop k qs ≡ q ∷ drop (k + 1) qs =
    ap (drop k) (sym same) ∙ drop_more xs k q c.loop-seat-test.true ∙ ap (λ x. x ∷ drop (k + 1) xs) (sym c.seat-item.is) ∙ ap (λ ys. q ∷ drop (k + 1) ys) same in
    let listed : Contains qs q = subst (λ ys. Contains ys q) same (subst (Contains xs) (sym c.seat-item.is) (Contains-get_or xs k q c.loop-seat-test.true)) in
    next_seat (told_value c.args.walk.now.mapped.now.told) (code_given_value c.args.walk.now.mapped.now.given) c.args.walk.now.mapped.now.outline.now.roots s space c.args.depth (merged space qs c.args.place.now.runs.items) (string_bytes c.args.text.now) (string_bytes c.loop-seat.text) _ (string_bytes c.push_seat.new.text)
    q (drop (k + 1) qs) (drop k qs) left (take (ahead c.first.result left) left) _ (ahead c.first.result left) here (ap (λ n. ahead n left) c.first.ensures) refl c.in_ok-left.ensures.rest
    (c.loop-seat.invariant s above on) c.in_ok-left.ensures.lines (c.in_ok-push_seat.ensures s above (on q listed))

pub push_place-returns : goal.push_place-returns
push_place-returns g t c = λ s above on.
    let space = space_of c.args.walk.now.space in
    let qs : List Seat = c.args.place.now.regions.items in
    let k = c.loop-seat.seat-index in
    let xs : List Seat = c.as_slice-seat-items.result.now in
    let same : xs ≡ qs = c.as_slice-seat-items.ensures.value in
    last_runs (told_value c.args.walk.now.mapped.now.told) (code_given_value c.args.walk.now.mapped.now.given) c.args.walk.now.mapped.now.outline.now.roots s space c.args.depth (merged space qs c.args.place.now.runs.items) (string_bytes c.args.text.now) (string_bytes c.loop-seat.text) (string_bytes c.push_runs.new.text)
    (drop k qs) c.loop-seat.left.now (ap (drop k) (sym same) ∙ drop_all k xs c.loop-seat-test.false) (c.loop-seat.invariant s above on) c.in_ok-push_runs.ensures

pub push_seat-returns-in_default : goal.push_seat-returns-in_default
push_seat-returns-in_default g t c = λ s above on.
    seat_alone (told_value c.args.walk.now.mapped.now.told) (code_given_value c.args.walk.now.mapped.now.given) c.args.walk.now.mapped.now.outline.now.roots s (space_of c.args.walk.now.space) c.args.depth c.args.seat.now (string_bytes c.args.text.now) (string_bytes c.push_line.new.text)
    (subst (λ o. MatchOption o (IsNoWindow c.args.seat.now)
    (λ i. HasInside record { told = told_value c.args.walk.now.mapped.now.told; given = code_given_value c.args.walk.now.mapped.now.given; roots = c.args.walk.now.mapped.now.outline.now.roots; system = s; space = space_of c.args.walk.now.space } c.args.seat.now i.bus i.regions.items i.runs.items)) c.in_default.is (c.in_ok-inside.ensures.inside s above on))
    c.in_ok-push_line.ensures

pub push_seat-returns : goal.push_seat-returns
push_seat-returns g t c =
    on_ok_weaker c.push_place.result
    (λ last s above on. (
    let inside = subst (λ o. MatchOption o (IsNoWindow c.args.seat.now)
    (λ i. HasInside record { told = told_value c.args.walk.now.mapped.now.told; given = code_given_value c.args.walk.now.mapped.now.given; roots = c.args.walk.now.mapped.now.outline.now.roots; system = s; space = space_of c.args.walk.now.space } c.args.seat.now i.bus i.regions.items i.runs.items)) c.in-Some.is (c.in_ok-inside.ensures.inside s above on) in
    seat_of_window (told_value c.args.walk.now.mapped.now.told) (code_given_value c.args.walk.now.mapped.now.given) c.args.walk.now.mapped.now.outline.now.roots s (space_of c.args.walk.now.space) c.args.depth (c.args.depth + 1) c.args.seat.now c.in-Some.inside.bus c.in-Some.inside.regions.items c.in-Some.inside.runs.items
    (string_bytes c.args.text.now) (string_bytes c.push_line.new.text) (string_bytes c.push_place.new.text) refl inside
    c.in_ok-push_line.ensures (last s above inside.inside.each)))
    c.push_place.ensures
