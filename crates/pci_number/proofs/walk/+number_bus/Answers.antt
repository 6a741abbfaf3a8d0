use Rattle.std.proofs.Common.{◌+◌, ◌≤◌, true, false, arith, refl, ap, subst}
use Rattle.pci_number.specs.Accesses.{most_of_numbers, most_of_walk}
use Rattle.pci_number.specs.Board.{HasOneAnswer}
use Rattle.pci_number.specs.Steps.{IsOpenLeft}
use Rattle.pci_number.specs.Stood.{Adds}
use Rattle.pci_number.specs.Walked.{outset}
use Rattle.pci_number.specs.Walking.{IsWalking}
use Rattle.pci_number.specs.declared.walk.Walk.{Walk}
use Rattle.pci_number.proofs.Errs.{always_err}
use Rattle.pci_number.proofs.Behind.{is_open, few_from, open_ok, open_end, Behind, behind_alone, behind_wide}
use Rattle.pci_number.proofs.Few.{IsBegunFew, begun_few_alone, begun_few_wide, walk_count_start, walk_count_pass, walk_count_without, walk_count_led, walk_few, walk_few_open, walk_few_led}
use Rattle.pci_number.proofs.Places.{place_of}
use Rattle.pci_number.proofs.Spent.{spent_look, spent_open, spent_bus, spent_led, spent_on}
use Rattle.pci_number.proofs.Walking.{IsBegun, begun_alone, begun_wide, walk_start, walk_pass, walk_without, walk_led, walk_left, walk_left_open, walk_left_bus, walk_left_led, walk_done}
use Rattle.pci_number.proofs.Standing.{Bridge, stood_here, stood_wide, stand_start, stand_pass, stand_without, stand_led, stand_left, stand_left_open, stand_left_bus, stand_left_led, stand_done}
use Rattle.pci_number.proofs.walk.+number_bus.Goals as goal
use Rattle.pci_number.proofs.walk.+number_bus.Goals.{then-found+then-walk-last+in_ok-open+in_ok-walk-2, then-branch+in_ok-walk, else-branch, then-found+else-walk-last, else-found}

pub loop-place-init : goal.loop-place-init
loop-place-init g t c = record {
  walking = walk_start c.args.spare (g.P.BoardPort.board c.args.port.now) c.args.bus c.args.last c.args.start;
  standing = stand_start c.args.spare (g.P.BoardPort.board c.args.port.now) c.args.bus c.args.last c.args.start (g.P.BoardPort.history c.args.port.now);
  above = omega arith;
  counted = refl;
  few = walk_count_start (g.P.BoardPort.board c.args.port.now) c.args.bus c.args.last c.args.start (g.P.BoardPort.writes c.args.port.now);
  spent = omega arith;
}

pub returns-in_err-found-clause-left : goal.returns-in_err-found-clause-left
returns-in_err-found-clause-left g t c =
    let board = g.P.BoardPort.board in
    always_err c.from_residual.result _
    (walk_left c.args.spare (board c.args.port.now) (board c.loop-place.port) (board c.look.new.port) c.args.bus c.loop-place.place c.args.last c.args.start c.loop-place.walk c.loop-place.more c.in_err-found.ensures.same c.loop-place.invariant.walking)

pub returns-in_err-open-clause-left : goal.returns-in_err-open-clause-left
returns-in_err-open-clause-left g t c =
    let board = g.P.BoardPort.board in
    let slot = c.slot_at-slot.result in
    let walk = c.loop-place.walk in
    always_err c.from_residual-in_err-open.result _
    (walk_left_open c.args.spare (board c.args.port.now) (board c.loop-place.port) (board c.open.new.port) slot c.args.bus c.loop-place.place c.args.last c.args.start walk c.loop-place.more c.in_ok-found.found
    (place_of slot c.args.bus c.loop-place.place c.slot_at-slot.ensures) c.in_ok-found.ensures.looked c.if-found.true c.if-walk-last.true
    (subst (λ b. IsOpenLeft b slot (walk.taken + 1) c.args.last (board c.open.new.port)) c.in_ok-found.ensures.same c.in_err-open.ensures.left) c.loop-place.invariant.walking)

pub returns-in_err-walk-clause-left : goal.returns-in_err-walk-clause-left
returns-in_err-walk-clause-left g t c =
    let board = g.P.BoardPort.board in
    let now = board c.loop-place.port in
    let opened = board c.open.new.port in
    let slot = c.slot_at-slot.result in
    let walk = c.loop-place.walk in
    always_err c.from_residual-in_err-walk.result _
    (walk_left_bus c.args.spare (board c.args.port.now) now opened (board c.number_bus.new.port) slot c.args.bus c.loop-place.place c.args.last c.args.start walk c.loop-place.more c.in_ok-found.found
    (place_of slot c.args.bus c.loop-place.place c.slot_at-slot.ensures) c.in_ok-found.ensures.looked c.if-found.true c.if-walk-last.true
    (is_open now (board c.look.new.port) slot (walk.taken + 1) c.args.last c.in_ok-found.ensures.same opened c.in_ok-open.field-0 true c.if-branch.true c.in_ok-open.ensures.opened)
    c.in_err-walk.ensures.left c.loop-place.invariant.walking)

pub loop-place-preserved : goal.loop-place-preserved
loop-place-preserved g t c =
    let board = g.P.BoardPort.board in
    let writes = g.P.BoardPort.writes in
    let history = g.P.BoardPort.history in
    let failures = g.P.BoardPort.failures in
    let accesses = g.P.BoardPort.accesses in
    let before = board c.args.port.now in
    let made = writes c.args.port.now in
    let old = history c.args.port.now in
    let failed = failures c.args.port.now in
    let now = board c.loop-place.port in
    let total = writes c.loop-place.port in
    let stood = history c.loop-place.port in
    let spare = c.args.spare in
    let bus = c.args.bus in
    let last = c.args.last in
    let start = c.args.start in
    let walk = c.loop-place.walk in
    let more = c.loop-place.more in
    let at = c.loop-place.place in
    let slot = c.slot_at-slot.result in
    let place = place_of slot bus at c.slot_at-slot.ensures in
    let found = c.in_ok-found.found in
    let look = c.in_ok-found.ensures in
    let so_far = c.loop-place.invariant in
    let seen_on = board c.look.new.port in
    elim c.if-found.branch [
      | then-found+then-walk-last+in_ok-open+in_ok-walk-2 w ↦
          let opened = board w.open.new.port in
          let opened_by = writes w.open.new.port in
          let newer = history w.open.new.port in
          let led_on = w.if-branch.walk in
          let far = board w.if-branch.port in
          let far_by = writes w.if-branch.port in
          let far_stood = history w.if-branch.port in
          let later = board w.lead_to.new.port in
          let led = w.in_ok-walk-2.ensures in
          let after : Walk = record { taken = w.in_ok-walk-2.field-0; without = led_on.without } in
          let opened_few = few_from now seen_on slot (walk.taken + 1) last look.same total (writes c.look.new.port) opened_by look.no_more w.in_ok-open.ensures.few in
          let opened_ok = open_ok now seen_on slot (walk.taken + 1) last look.same stood (history c.look.new.port) newer look.same_history w.in_ok-open.ensures.stood in
          let behind : Behind spare now far slot last walk led_on total far_by old stood far_stood found.more failed (failures w.if-branch.port) = elim w.if-branch.branch [
            | then-branch+in_ok-walk y ↦ rw (y.port-is, y.walk-is)
                (behind_wide spare now opened slot last walk total opened_by old stood newer found.more failed w.if-walk-last.true opened_few opened_ok
                (board y.number_bus.new.port) y.in_ok-walk.walk (writes y.number_bus.new.port) (failures y.number_bus.new.port) (history y.number_bus.new.port)
                (is_open now seen_on slot (walk.taken + 1) last look.same opened w.in_ok-open.field-0 true y.if-branch.true w.in_ok-open.ensures.opened)
                y.in_ok-walk.ensures.numbered y.in_ok-walk.ensures.above y.in_ok-walk.ensures.few y.in_ok-walk.ensures.stood
                (omega (arith, y.in_ok-walk.ensures.counted, w.in_ok-open.ensures.counted, look.counted, so_far.counted)))
            | else-branch y ↦ rw (y.port-is, y.walk-is)
                (behind_alone spare now opened slot last walk total opened_by old stood newer found.more failed w.if-walk-last.true opened_few opened_ok (failures w.open.new.port)
                (is_open now seen_on slot (walk.taken + 1) last look.same opened w.in_ok-open.field-0 false y.if-branch.false w.in_ok-open.ensures.opened)
                (omega (arith, w.in_ok-open.ensures.counted, look.counted, so_far.counted)))
          ] in
          let gone : accesses w.if-branch.port + most_of_numbers last led_on.taken ≤ accesses w.open.new.port + most_of_walk last (walk.taken + 1) = elim w.if-branch.branch [
            | then-branch+in_ok-walk y ↦ rw (y.port-is, y.walk-is) y.in_ok-walk.ensures.spent
            | else-branch y ↦ rw (y.port-is, y.walk-is) (omega arith)
          ] in
          record {
            walking = rw (w.port-is, w.walk-is) (walk_led spare before now far later slot bus at last start walk led_on after more found place look.looked w.if-found.true w.if-walk-last.true
                behind.begun led.put led.led led.above refl so_far.walking);
            standing = rw (w.port-is, w.walk-is) (stand_led spare before now slot bus at last start walk old stood newer more found place look.looked w.if-found.true w.if-walk-last.true so_far.standing
                far far_stood behind.stood later (history w.lead_to.new.port) led.stood led_on after behind.begun led.put led.led led.above);
            above = omega (arith, ap (λ (x : Walk). x.taken) w.walk-is, led.above, behind.above, so_far.above);
            counted = omega (arith, ap failures w.port-is, led.counted, behind.counted);
            few = rw (w.port-is, w.walk-is) (walk_count_led before now far later slot bus at spare last start walk led_on after more found made total far_by (writes w.lead_to.new.port) place look.looked w.if-found.true w.if-walk-last.true
                behind.begun led.put led.above behind.few led.few so_far.few);
            spent = rw (w.port-is, w.walk-is) (spent_on last (accesses c.args.port.now) start.taken at walk.taken led_on.taken after.taken (accesses c.loop-place.port) (accesses c.look.new.port) (accesses w.open.new.port) (accesses w.if-branch.port) (accesses w.lead_to.new.port)
                w.if-walk-last.true so_far.spent look.bounded w.in_ok-open.ensures.bounded gone led.bounded led.above);
          }
      | then-found+else-walk-last w ↦
          let after = w.and_without-walk.result in
          let same_taken = w.and_without-walk.ensures.taken in
          record {
            walking = rw (w.port-is, w.walk-is, look.same) (walk_without spare before now slot bus at last start walk after more found place look.looked w.if-found.true w.if-walk-last.false same_taken w.and_without-walk.ensures.named so_far.walking);
            standing = rw (w.port-is, w.walk-is, look.same, look.same_history) (stand_without spare before now slot bus at last start walk after old stood more found place look.looked w.if-found.true same_taken so_far.standing);
            above = omega (arith, ap (λ (x : Walk). x.taken) w.walk-is, same_taken, so_far.above);
            counted = omega (arith, ap failures w.port-is, look.counted, so_far.counted);
            few = rw (w.port-is, w.walk-is, look.same, look.no_more) (walk_count_without before now slot bus at last start walk after more found made total place look.looked w.if-found.true same_taken so_far.few);
            spent = omega (arith, ap accesses w.port-is, ap (λ (x : Walk). x.taken) w.walk-is, same_taken, look.bounded, so_far.spent);
          }
      | else-found w ↦ record {
        walking = rw (w.port-is, w.walk-is, look.same) (walk_pass spare before now slot bus at last start walk more found place look.looked w.if-found.false so_far.walking);
        standing = rw (w.port-is, w.walk-is, look.same, look.same_history) (stand_pass spare before now slot bus at last start walk old stood more found place look.looked w.if-found.false so_far.standing);
        above = omega (arith, ap (λ (x : Walk). x.taken) w.walk-is, so_far.above);
        counted = omega (arith, ap failures w.port-is, look.counted, so_far.counted);
        few = rw (w.port-is, w.walk-is, look.same, look.no_more) (walk_count_pass before now slot bus at last start walk more found made total place look.looked w.if-found.false so_far.few);
        spent = omega (arith, ap accesses w.port-is, ap (λ (x : Walk). x.taken) w.walk-is, look.bounded, so_far.spent);
      }
    ]

pub returns-clause-numbered : goal.returns-clause-numbered
returns-clause-numbered g t c =
    let board = g.P.BoardPort.board in
    let before = board c.args.port.now in
    walk_done c.args.spare before (board c.loop-place.port) c.args.bus c.args.last c.args.start c.loop-place.walk c.loop-place.more
    (subst (λ p. IsWalking before (outset c.args.bus c.args.last c.args.spare c.args.start) p c.loop-place.more c.loop-place.walk (board c.loop-place.port)) (omega (arith, c.loop-place-test.false, c.loop-place.auto.place-end)) c.loop-place.invariant.walking)

pub returns-in_err-found-clause-few : goal.returns-in_err-found-clause-few
returns-in_err-found-clause-few g t c =
    let board = g.P.BoardPort.board in
    let writes = g.P.BoardPort.writes in
    rw c.in_err-found.ensures.no_more (walk_few c.args.spare (board c.args.port.now) (board c.loop-place.port) c.args.bus c.args.last c.loop-place.place c.args.start c.loop-place.walk c.loop-place.more (writes c.args.port.now) (writes c.loop-place.port) c.loop-place.invariant.few)

pub returns-in_err-open-clause-few : goal.returns-in_err-open-clause-few
returns-in_err-open-clause-few g t c =
    let board = g.P.BoardPort.board in
    let writes = g.P.BoardPort.writes in
    let now = board c.loop-place.port in
    let total = writes c.loop-place.port in
    let slot = c.slot_at-slot.result in
    let walk = c.loop-place.walk in
    walk_few_open c.args.spare (board c.args.port.now) now slot c.args.bus c.loop-place.place c.args.last c.args.start walk c.loop-place.more c.in_ok-found.found (writes c.args.port.now) total (writes c.open.new.port)
    (place_of slot c.args.bus c.loop-place.place c.slot_at-slot.ensures) c.in_ok-found.ensures.looked c.if-found.true c.if-walk-last.true
    (few_from now (board c.look.new.port) slot (walk.taken + 1) c.args.last c.in_ok-found.ensures.same total (writes c.look.new.port) (writes c.open.new.port) c.in_ok-found.ensures.no_more c.in_err-open.ensures.few) c.loop-place.invariant.few

pub returns-in_err-walk-clause-few : goal.returns-in_err-walk-clause-few
returns-in_err-walk-clause-few g t c =
    let board = g.P.BoardPort.board in
    let writes = g.P.BoardPort.writes in
    let now = board c.loop-place.port in
    let opened = board c.open.new.port in
    let total = writes c.loop-place.port in
    let far_by = writes c.number_bus.new.port in
    let slot = c.slot_at-slot.result in
    let walk = c.loop-place.walk in
    let last = c.args.last in
    walk_few_led c.args.spare (board c.args.port.now) now slot c.args.bus c.loop-place.place last c.args.start walk c.loop-place.more c.in_ok-found.found (writes c.args.port.now) total far_by far_by
    (place_of slot c.args.bus c.loop-place.place c.slot_at-slot.ensures) c.in_ok-found.ensures.looked c.if-found.true
    (begun_few_wide c.args.spare now opened slot last walk total (writes c.open.new.port) far_by c.if-walk-last.true
    (is_open now (board c.look.new.port) slot (walk.taken + 1) last c.in_ok-found.ensures.same opened c.in_ok-open.field-0 true c.if-branch.true c.in_ok-open.ensures.opened)
    (few_from now (board c.look.new.port) slot (walk.taken + 1) last c.in_ok-found.ensures.same total (writes c.look.new.port) (writes c.open.new.port) c.in_ok-found.ensures.no_more c.in_ok-open.ensures.few)
    c.in_err-walk.ensures.few) (omega arith) c.loop-place.invariant.few

pub returns-clause-few : goal.returns-clause-few
returns-clause-few g t c =
    let board = g.P.BoardPort.board in
    let writes = g.P.BoardPort.writes in
    walk_few c.args.spare (board c.args.port.now) (board c.loop-place.port) c.args.bus c.args.last c.loop-place.place c.args.start c.loop-place.walk c.loop-place.more (writes c.args.port.now) (writes c.loop-place.port) c.loop-place.invariant.few

pub returns-in_err-found-clause-stood : goal.returns-in_err-found-clause-stood
returns-in_err-found-clause-stood g t c =
    let board = g.P.BoardPort.board in
    let history = g.P.BoardPort.history in
    stand_left c.args.spare (board c.args.port.now) (board c.loop-place.port) c.args.bus c.loop-place.place c.args.last c.args.start c.loop-place.walk (history c.args.port.now) (history c.loop-place.port) (history c.look.new.port) c.loop-place.more c.from_residual.result c.from_residual.ensures.0
    c.in_err-found.ensures.same_history c.loop-place.invariant.standing

pub returns-in_err-open-clause-stood : goal.returns-in_err-open-clause-stood
returns-in_err-open-clause-stood g t c =
    let board = g.P.BoardPort.board in
    let history = g.P.BoardPort.history in
    let now = board c.loop-place.port in
    let stood = history c.loop-place.port in
    let slot = c.slot_at-slot.result in
    let walk = c.loop-place.walk in
    let last = c.args.last in
    stand_left_open c.args.spare (board c.args.port.now) now slot c.args.bus c.loop-place.place last c.args.start walk (history c.args.port.now) stood (history c.open.new.port) c.loop-place.more c.in_ok-found.found
    (place_of slot c.args.bus c.loop-place.place c.slot_at-slot.ensures) c.in_ok-found.ensures.looked c.if-found.true c.if-walk-last.true c.loop-place.invariant.standing
    c.from_residual-in_err-open.result c.from_residual-in_err-open.ensures.0
    (open_end now (board c.look.new.port) slot (walk.taken + 1) last c.in_ok-found.ensures.same stood (history c.look.new.port) (history c.open.new.port) c.in_ok-found.ensures.same_history c.in_err-open.ensures.stood)

pub returns-in_err-walk-clause-stood : goal.returns-in_err-walk-clause-stood
returns-in_err-walk-clause-stood g t c =
    let board = g.P.BoardPort.board in
    let history = g.P.BoardPort.history in
    let now = board c.loop-place.port in
    let opened = board c.open.new.port in
    let stood = history c.loop-place.port in
    let newer = history c.open.new.port in
    let slot = c.slot_at-slot.result in
    let walk = c.loop-place.walk in
    let last = c.args.last in
    stand_left_bus c.args.spare (board c.args.port.now) now slot c.args.bus c.loop-place.place last c.args.start walk (history c.args.port.now) stood newer c.loop-place.more c.in_ok-found.found
    (place_of slot c.args.bus c.loop-place.place c.slot_at-slot.ensures) c.in_ok-found.ensures.looked c.if-found.true c.if-walk-last.true c.loop-place.invariant.standing opened
    (is_open now (board c.look.new.port) slot (walk.taken + 1) last c.in_ok-found.ensures.same opened c.in_ok-open.field-0 true c.if-branch.true c.in_ok-open.ensures.opened)
    (open_ok now (board c.look.new.port) slot (walk.taken + 1) last c.in_ok-found.ensures.same stood (history c.look.new.port) newer c.in_ok-found.ensures.same_history c.in_ok-open.ensures.stood)
    (history c.number_bus.new.port) c.from_residual-in_err-walk.result c.from_residual-in_err-walk.ensures.0 c.in_err-walk.ensures.stood

pub returns-clause-stood : goal.returns-clause-stood
returns-clause-stood g t c =
    let board = g.P.BoardPort.board in
    let history = g.P.BoardPort.history in
    stand_done c.args.spare (board c.args.port.now) (board c.loop-place.port) c.args.bus c.loop-place.place c.args.last c.args.start c.loop-place.walk (history c.args.port.now) (history c.loop-place.port) c.loop-place.more c.loop-place.invariant.standing

-- where the bridge doesn't lead on

pub returns-in_err-walk-2-clause-left : goal.returns-in_err-walk-2-clause-left
returns-in_err-walk-2-clause-left g t c =
    let board = g.P.BoardPort.board in
    let now = board c.loop-place.port in
    let opened = board c.open.new.port in
    let slot = c.slot_at-slot.result in
    let walk = c.loop-place.walk in
    let last = c.args.last in
    let is_opened = is_open now (board c.look.new.port) slot (walk.taken + 1) last c.in_ok-found.ensures.same opened c.in_ok-open.field-0 in
    let begun : IsBegun c.args.spare now (board c.if-branch.port) slot last walk c.if-branch.walk = elim c.if-branch.branch [
      | then-branch+in_ok-walk y ↦ rw (y.port-is, y.walk-is)
          (begun_wide c.args.spare now opened (board y.number_bus.new.port) slot last walk y.in_ok-walk.walk c.if-walk-last.true (is_opened true y.if-branch.true c.in_ok-open.ensures.opened)
          y.in_ok-walk.ensures.numbered y.in_ok-walk.ensures.above)
      | else-branch y ↦ rw (y.port-is, y.walk-is) (begun_alone c.args.spare now opened slot last walk c.if-walk-last.true (is_opened false y.if-branch.false c.in_ok-open.ensures.opened))
    ] in
    always_err c.from_residual-in_err-walk-2.result _
    (walk_left_led c.args.spare (board c.args.port.now) now (board c.if-branch.port) (board c.lead_to.new.port) slot c.args.bus c.loop-place.place last c.args.start walk c.if-branch.walk c.loop-place.more c.in_ok-found.found
    (place_of slot c.args.bus c.loop-place.place c.slot_at-slot.ensures) c.in_ok-found.ensures.looked c.if-found.true begun c.in_err-walk-2.ensures.left c.loop-place.invariant.walking)

pub returns-in_err-walk-2-clause-few : goal.returns-in_err-walk-2-clause-few
returns-in_err-walk-2-clause-few g t c =
    let board = g.P.BoardPort.board in
    let writes = g.P.BoardPort.writes in
    let now = board c.loop-place.port in
    let opened = board c.open.new.port in
    let total = writes c.loop-place.port in
    let opened_by = writes c.open.new.port in
    let slot = c.slot_at-slot.result in
    let walk = c.loop-place.walk in
    let last = c.args.last in
    let opened_few = few_from now (board c.look.new.port) slot (walk.taken + 1) last c.in_ok-found.ensures.same total (writes c.look.new.port) opened_by c.in_ok-found.ensures.no_more c.in_ok-open.ensures.few in
    let far_few : IsBegunFew now slot last walk.taken total (writes c.if-branch.port) = elim c.if-branch.branch [
      | then-branch+in_ok-walk y ↦ rw y.port-is
          (begun_few_wide c.args.spare now opened slot last walk total opened_by (writes y.number_bus.new.port) c.if-walk-last.true
          (is_open now (board c.look.new.port) slot (walk.taken + 1) last c.in_ok-found.ensures.same opened c.in_ok-open.field-0 true y.if-branch.true c.in_ok-open.ensures.opened)
          opened_few y.in_ok-walk.ensures.few)
      | else-branch y ↦ rw y.port-is (begun_few_alone now slot last walk total opened_by c.if-walk-last.true opened_few)
    ] in
    walk_few_led c.args.spare (board c.args.port.now) now slot c.args.bus c.loop-place.place last c.args.start walk c.loop-place.more c.in_ok-found.found (writes c.args.port.now) total (writes c.if-branch.port) (writes c.lead_to.new.port)
    (place_of slot c.args.bus c.loop-place.place c.slot_at-slot.ensures) c.in_ok-found.ensures.looked c.if-found.true far_few c.in_err-walk-2.ensures.few c.loop-place.invariant.few

pub returns-in_err-walk-2-clause-stood : goal.returns-in_err-walk-2-clause-stood
returns-in_err-walk-2-clause-stood g t c =
    let board = g.P.BoardPort.board in
    let history = g.P.BoardPort.history in
    let now = board c.loop-place.port in
    let old = history c.args.port.now in
    let stood = history c.loop-place.port in
    let opened = board c.open.new.port in
    let newer = history c.open.new.port in
    let slot = c.slot_at-slot.result in
    let walk = c.loop-place.walk in
    let last = c.args.last in
    let found = c.in_ok-found.found in
    let look = c.in_ok-found.ensures in
    let opened_ok = open_ok now (board c.look.new.port) slot (walk.taken + 1) last look.same stood (history c.look.new.port) newer look.same_history c.in_ok-open.ensures.stood in
    let far_stood : (b : Bridge now slot last walk old stood found.more) → Adds HasOneAnswer old (history c.if-branch.port) = elim c.if-branch.branch [
      | then-branch+in_ok-walk y ↦ rw y.port-is (λ b. stood_wide now opened slot last walk old stood newer (history y.number_bus.new.port) found.more b c.if-walk-last.true
          (is_open now (board c.look.new.port) slot (walk.taken + 1) last look.same opened c.in_ok-open.field-0 true y.if-branch.true c.in_ok-open.ensures.opened) opened_ok y.in_ok-walk.ensures.stood)
      | else-branch y ↦ rw y.port-is (λ b. stood_here now slot last walk old stood newer found.more b c.if-walk-last.true opened_ok)
    ] in
    stand_left_led c.args.spare (board c.args.port.now) now slot c.args.bus c.loop-place.place last c.args.start walk old stood newer c.loop-place.more found
    (place_of slot c.args.bus c.loop-place.place c.slot_at-slot.ensures) look.looked c.if-found.true c.if-walk-last.true c.loop-place.invariant.standing
    (board c.if-branch.port) (history c.if-branch.port) far_stood (board c.lead_to.new.port) (history c.lead_to.new.port) c.in_err-walk-2.ensures.stood
    c.from_residual-in_err-walk-2.result c.from_residual-in_err-walk-2.ensures.0

-- how many accesses were made

pub returns-in_err-found-clause-bounded : goal.returns-in_err-found-clause-bounded
returns-in_err-found-clause-bounded g t c =
    let accesses = g.P.BoardPort.accesses in
    spent_look c.args.last (accesses c.args.port.now) c.args.start.taken c.loop-place.place c.loop-place.walk.taken (accesses c.loop-place.port) (accesses c.look.new.port)
    c.loop-place-test.true c.loop-place.invariant.spent c.in_err-found.ensures.bounded

pub returns-in_err-open-clause-bounded : goal.returns-in_err-open-clause-bounded
returns-in_err-open-clause-bounded g t c =
    let accesses = g.P.BoardPort.accesses in
    spent_open c.args.last (accesses c.args.port.now) c.args.start.taken c.loop-place.place c.loop-place.walk.taken (accesses c.loop-place.port) (accesses c.look.new.port) (accesses c.open.new.port)
    c.loop-place-test.true c.if-walk-last.true c.loop-place.invariant.spent c.in_ok-found.ensures.bounded c.in_err-open.ensures.bounded

pub returns-in_err-walk-clause-bounded : goal.returns-in_err-walk-clause-bounded
returns-in_err-walk-clause-bounded g t c =
    let accesses = g.P.BoardPort.accesses in
    spent_bus c.args.last (accesses c.args.port.now) c.args.start.taken c.loop-place.place c.loop-place.walk.taken (accesses c.loop-place.port) (accesses c.look.new.port) (accesses c.open.new.port) (accesses c.number_bus.new.port)
    c.loop-place-test.true c.if-walk-last.true c.loop-place.invariant.spent c.in_ok-found.ensures.bounded c.in_ok-open.ensures.bounded c.in_err-walk.ensures.bounded

pub returns-in_err-walk-2-clause-bounded : goal.returns-in_err-walk-2-clause-bounded
returns-in_err-walk-2-clause-bounded g t c =
    let accesses = g.P.BoardPort.accesses in
    let last = c.args.last in
    let walk = c.loop-place.walk in
    let led_on = c.if-branch.walk in
    let gone : accesses c.if-branch.port + most_of_numbers last led_on.taken ≤ accesses c.open.new.port + most_of_walk last (walk.taken + 1) = elim c.if-branch.branch [
      | then-branch+in_ok-walk y ↦ rw (y.port-is, y.walk-is) y.in_ok-walk.ensures.spent
      | else-branch y ↦ rw (y.port-is, y.walk-is) (omega arith)
    ] in
    spent_led last (accesses c.args.port.now) c.args.start.taken c.loop-place.place walk.taken led_on.taken (accesses c.loop-place.port) (accesses c.look.new.port) (accesses c.open.new.port) (accesses c.if-branch.port) (accesses c.lead_to.new.port)
    c.loop-place-test.true c.if-walk-last.true c.loop-place.invariant.spent c.in_ok-found.ensures.bounded c.in_ok-open.ensures.bounded gone c.in_err-walk-2.ensures.bounded
