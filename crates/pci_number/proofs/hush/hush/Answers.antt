use Rattle.std.proofs.Common.{arith, refl, ap, subst}
use Rattle.pci_number.specs.Steps.{IsShownAt, IsLeftAt}
use Rattle.pci_number.specs.Hushing.{IsHushing}
use Rattle.pci_number.proofs.Errs.{always_err}
use Rattle.pci_number.proofs.Places.{place_of}
use Rattle.pci_number.proofs.Few.{hush_count_start, hush_count_pass, hush_count_close, hush_few, hush_few_close}
use Rattle.pci_number.proofs.Hushing.{hush_start, hush_pass, hush_close, hush_left_close, hush_left, hush_done}
use Rattle.pci_number.proofs.Closing.{standing_start, standing_pass, standing_close, standing_left, standing_left_close, standing_done, IsCloseOk, IsCloseEnd}
use Rattle.pci_number.proofs.hush.hush.Goals as goal
use Rattle.pci_number.proofs.hush.hush.Goals.{then-found+in_ok-close, else-found}

pub loop-place-init : goal.loop-place-init
loop-place-init g c = record {
  hushing = hush_start (g.P.BoardPort.board c.args.port.now) c.args.bus;
  standing = standing_start (g.P.BoardPort.board c.args.port.now) c.args.bus (g.P.BoardPort.history c.args.port.now);
  counted = refl;
  few = hush_count_start (g.P.BoardPort.board c.args.port.now) c.args.bus (g.P.BoardPort.writes c.args.port.now);
  bounded = omega arith;
}

pub returns-in_err-found-clause-left : goal.returns-in_err-found-clause-left
returns-in_err-found-clause-left g c =
    let board = g.P.BoardPort.board in
    always_err c.from_residual.result _
    (hush_left (board c.args.port.now) (board c.loop-place.port) (board c.look.new.port) c.args.bus c.loop-place.place c.loop-place.more c.loop-place.bridges c.in_err-found.ensures.same c.loop-place.invariant.hushing)

pub returns-in_err-close-clause-left : goal.returns-in_err-close-clause-left
returns-in_err-close-clause-left g c =
    let board = g.P.BoardPort.board in
    let slot = c.slot_at-slot.result in
    always_err c.from_residual-in_err-close.result _
    (hush_left_close (board c.args.port.now) (board c.loop-place.port) (board c.close.new.port) slot c.args.bus c.loop-place.place c.loop-place.more c.loop-place.bridges c.in_ok-found.found
    (place_of slot c.args.bus c.loop-place.place c.slot_at-slot.ensures) c.in_ok-found.ensures.looked c.if-found.true
    (subst (λ b. IsLeftAt b slot (board c.close.new.port)) c.in_ok-found.ensures.same c.in_err-close.ensures.left) c.loop-place.invariant.hushing)

pub loop-place-preserved : goal.loop-place-preserved
loop-place-preserved g c =
    let board = g.P.BoardPort.board in
    let writes = g.P.BoardPort.writes in
    let history = g.P.BoardPort.history in
    let before = board c.args.port.now in
    let made = writes c.args.port.now in
    let old = history c.args.port.now in
    let now = board c.loop-place.port in
    let total = writes c.loop-place.port in
    let stood = history c.loop-place.port in
    let slot = c.slot_at-slot.result in
    let bus = c.args.bus in
    let at = c.loop-place.place in
    let place = place_of slot bus at c.slot_at-slot.ensures in
    let more = c.loop-place.more in
    let bridges = c.loop-place.bridges in
    let found = c.in_ok-found.found in
    let looked = c.in_ok-found.ensures in
    let so_far = c.loop-place.invariant in
    elim c.if-found.branch [
      | then-found+in_ok-close w ↦
          let after = board w.close.new.port in
          let shown = subst (λ b. IsShownAt b slot 0 0 0 after) looked.same w.in_ok-close.ensures.closed in
          record {
            hushing = rw (w.port-is, w.bridges-is) (hush_close before now after slot bus at more bridges found place looked.looked w.if-found.true shown so_far.hushing);
            standing = rw w.port-is (standing_close before now after slot bus at old stood (history w.close.new.port) more found place looked.looked w.if-found.true shown
                (subst (λ h. IsCloseOk now slot h after (history w.close.new.port)) looked.same_history
                (subst (λ b. IsCloseOk b slot (history c.look.new.port) after (history w.close.new.port)) looked.same w.in_ok-close.ensures.stood)) so_far.standing);
            counted = omega (arith, ap g.P.BoardPort.failures w.port-is, w.in_ok-close.ensures.counted, looked.counted, so_far.counted);
            few = rw w.port-is (hush_count_close before now after slot bus at more found made total (writes w.close.new.port) place looked.looked w.if-found.true shown
                (omega (arith, w.in_ok-close.ensures.few, looked.no_more)) so_far.few);
            bounded = omega (arith, ap g.P.BoardPort.accesses w.port-is, w.in_ok-close.ensures.bounded, looked.bounded, so_far.bounded);
          }
      | else-found w ↦ record {
        hushing = rw (w.port-is, w.bridges-is, looked.same) (hush_pass before now slot bus at more bridges found place looked.looked w.if-found.false so_far.hushing);
        standing = rw (w.port-is, looked.same, looked.same_history) (standing_pass before now slot bus at old stood more found place looked.looked w.if-found.false so_far.standing);
        counted = omega (arith, ap g.P.BoardPort.failures w.port-is, looked.counted, so_far.counted);
        few = rw (w.port-is, looked.same, looked.no_more) (hush_count_pass before now slot bus at more found made total place looked.looked w.if-found.false so_far.few);
        bounded = omega (arith, ap g.P.BoardPort.accesses w.port-is, looked.bounded, so_far.bounded);
      }
    ]

pub returns-clause-hushed : goal.returns-clause-hushed
returns-clause-hushed g c =
    let board = g.P.BoardPort.board in
    let before = board c.args.port.now in
    hush_done before (board c.loop-place.port) c.args.bus c.loop-place.more c.loop-place.bridges
    (subst (λ p. IsHushing before c.args.bus p c.loop-place.more c.loop-place.bridges (board c.loop-place.port)) (omega (arith, c.loop-place-test.false, c.loop-place.auto.place-end)) c.loop-place.invariant.hushing)

pub returns-in_err-found-clause-few : goal.returns-in_err-found-clause-few
returns-in_err-found-clause-few g c =
    let board = g.P.BoardPort.board in
    let writes = g.P.BoardPort.writes in
    rw c.in_err-found.ensures.no_more (hush_few (board c.args.port.now) (board c.loop-place.port) c.args.bus c.loop-place.place c.loop-place.more (writes c.args.port.now) (writes c.loop-place.port) c.loop-place.invariant.few)

pub returns-in_err-close-clause-few : goal.returns-in_err-close-clause-few
returns-in_err-close-clause-few g c =
    let board = g.P.BoardPort.board in
    let writes = g.P.BoardPort.writes in
    hush_few_close (board c.args.port.now) (board c.loop-place.port) c.slot_at-slot.result c.args.bus c.loop-place.place c.loop-place.more c.in_ok-found.found (writes c.args.port.now) (writes c.loop-place.port) (writes c.close.new.port)
    (place_of c.slot_at-slot.result c.args.bus c.loop-place.place c.slot_at-slot.ensures) c.in_ok-found.ensures.looked c.if-found.true
    (omega (arith, c.in_err-close.ensures.few, c.in_ok-found.ensures.no_more)) c.loop-place.invariant.few

pub returns-clause-few : goal.returns-clause-few
returns-clause-few g c =
    let board = g.P.BoardPort.board in
    let writes = g.P.BoardPort.writes in
    hush_few (board c.args.port.now) (board c.loop-place.port) c.args.bus c.loop-place.place c.loop-place.more (writes c.args.port.now) (writes c.loop-place.port) c.loop-place.invariant.few

pub returns-in_err-found-clause-stood : goal.returns-in_err-found-clause-stood
returns-in_err-found-clause-stood g c =
    let board = g.P.BoardPort.board in
    let history = g.P.BoardPort.history in
    standing_left (board c.args.port.now) (board c.loop-place.port) (board c.look.new.port) c.args.bus c.loop-place.place (history c.args.port.now) (history c.loop-place.port) (history c.look.new.port) c.loop-place.more c.from_residual.result c.from_residual.ensures.0
    c.in_err-found.ensures.same_history c.loop-place.invariant.standing

pub returns-in_err-close-clause-stood : goal.returns-in_err-close-clause-stood
returns-in_err-close-clause-stood g c =
    let board = g.P.BoardPort.board in
    let history = g.P.BoardPort.history in
    let slot = c.slot_at-slot.result in
    let now = board c.loop-place.port in
    standing_left_close (board c.args.port.now) now (board c.close.new.port) slot c.args.bus c.loop-place.place (history c.args.port.now) (history c.loop-place.port) (history c.close.new.port) c.loop-place.more c.in_ok-found.found
    c.from_residual-in_err-close.result c.from_residual-in_err-close.ensures.0 (place_of slot c.args.bus c.loop-place.place c.slot_at-slot.ensures) c.in_ok-found.ensures.looked c.if-found.true
    (subst (λ h. IsCloseEnd now slot h (history c.close.new.port)) c.in_ok-found.ensures.same_history
    (subst (λ b. IsCloseEnd b slot (history c.look.new.port) (history c.close.new.port)) c.in_ok-found.ensures.same c.in_err-close.ensures.stood)) c.loop-place.invariant.standing

pub returns-clause-stood : goal.returns-clause-stood
returns-clause-stood g c =
    let board = g.P.BoardPort.board in
    let history = g.P.BoardPort.history in
    standing_done (board c.args.port.now) (board c.loop-place.port) c.args.bus c.loop-place.place (history c.args.port.now) (history c.loop-place.port) c.loop-place.more c.loop-place.invariant.standing
