use Rattle.std.proofs.Common.{◌≡◌, ◌∙◌, false, subst, sym}
use Rattle.std.specs.List.{All}
use Rattle.std.proofs.lemmas.List.{take_all}
use Rattle.std.proofs.lemmas.List.Elements.{All-more}
use Rattle.pci_base.specs.Space.{space_of}
use Rattle.pci_map.specs.declared.seat.Seat.{Seat}
use Rattle.pci_map.specs.Gaps.{is_cut_seat}
use Rattle.pci_claims.specs.Values.{code_given_value}
use Rattle.pci_map.proofs.gaps.any_cut.Goals as goal

pub loop-seat-preserved : goal.loop-seat-preserved
loop-seat-preserved c =
    let q : Seat = c.seat-item.result in
    All-more (λ (x : Seat). is_cut_seat (code_given_value c.args.given.now) (space_of c.args.space) x ≡ false) c.args.seats.now c.loop-seat.seat-index q c.loop-seat-test.true c.loop-seat.invariant
    (subst (λ (x : Seat). is_cut_seat (code_given_value c.args.given.now) (space_of c.args.space) x ≡ false) c.seat-item.is (sym c.is_seat_cut.ensures ∙ c.if-is_seat_cut.false))

pub returns : goal.returns
returns c = λ no.
    subst (All (λ (q : Seat). is_cut_seat (code_given_value c.args.given.now) (space_of c.args.space) q ≡ false)) (take_all c.loop-seat.seat-index c.args.seats.now c.loop-seat-test.false) c.loop-seat.invariant
