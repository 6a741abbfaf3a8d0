use Rattle.std.proofs.Common.{◌≡◌, suc, ◌+◌, ◌-◌, ◌/◌, ◌*◌, arith, refl, sym, ◌∙◌, ap}
use Rattle.pci_number.specs.SpareBuses.{leads_to_slot}
use Rattle.pci_number.proofs.Spares.{read_there, no_list_there, first_place, in_header, at_slot, past_place}
use Rattle.pci_number.proofs.spare.has_hot_plug_slot.Goals as goal

pub returns-then-status-eq0-clause-has : goal.returns-then-status-eq0-clause-has
returns-then-status-eq0-clause-has g c = λ v high last image behind others is seen alone.
    let before = g.P.BoardPort.board c.args.port.now in
    let status = read_there before before c.args.slot 6 c.in_ok-status.status refl c.in_ok-status.ensures.value v high last image behind others is seen alone in
    no_list_there image c.in_ok-status.status status c.if-status-eq0.true

pub loop-n-init : goal.loop-n-init
loop-n-init g c = record {
  same = refl;
  same_history = refl;
  no_write = refl;
  counted = refl;
  no_more = refl;
  bounded = omega arith;
  aligned = omega (arith, c.place_of-place.ensures);
  says = λ v high last image behind others is seen alone.
      let board = g.P.BoardPort.board in
      let before = board c.read-2.new.self in
      let back = sym c.in_ok-status.ensures.same ∙ sym c.in_ok-read.ensures.same in
      let status = read_there (board c.args.port.now) before c.args.slot 6 c.in_ok-status.status back c.in_ok-status.ensures.value v high last image behind others is seen alone in
      let first = read_there (board c.read.new.self) before c.args.slot 0x34 c.in_ok-read.field-0 (sym c.in_ok-read.ensures.same) c.in_ok-read.ensures.value v high last image behind others is seen alone in
      first_place image c.in_ok-status.status c.in_ok-read.field-0 c.place_of-place.result status c.if-status-eq0.false first c.place_of-place.ensures;
}

pub returns-then-place-lt-FIRST_PLACE-clause-has : goal.returns-then-place-lt-FIRST_PLACE-clause-has
returns-then-place-lt-FIRST_PLACE-clause-has g c = λ v high last image behind others is seen alone.
    let from_start = c.in_ok-read.ensures.same ∙ c.in_ok-status.ensures.same in
    let says = c.loop-n.invariant.says v high last image behind others (from_start ∙ is) seen alone in
    sym (says ∙ in_header image (48 - c.loop-n.n) c.loop-n.place c.if-place-lt-FIRST_PLACE.true)

pub returns-then-branch-clause-has : goal.returns-then-branch-clause-has
returns-then-branch-clause-has g c = λ v high last image behind others is seen alone.
    let from_start = c.in_ok-read.ensures.same ∙ c.in_ok-status.ensures.same in
    let says = c.loop-n.invariant.says v high last image behind others (from_start ∙ is) seen alone in
    let hot = c.in_ok-is_hot_plug.ensures.is v high last image behind others (c.loop-n.invariant.same ∙ from_start ∙ is) seen alone in
    sym (says ∙ at_slot image (48 - c.loop-n.n) c.loop-n.place (omega (arith, c.loop-n-test.true)) (omega (arith, c.if-place-lt-FIRST_PLACE.false)) (sym c.if-branch.true ∙ hot))

pub loop-n-preserved : goal.loop-n-preserved
loop-n-preserved g c = record {
  same = c.in_ok-read-2.ensures.same ∙ c.in_ok-is_hot_plug.ensures.same ∙ c.loop-n.invariant.same;
  same_history = c.in_ok-read-2.ensures.same_history ∙ c.in_ok-is_hot_plug.ensures.same_history ∙ c.loop-n.invariant.same_history;
  no_write = c.in_ok-read-2.ensures.no_write ∙ c.in_ok-is_hot_plug.ensures.no_write ∙ c.loop-n.invariant.no_write;
  counted = omega (arith, c.in_ok-read-2.ensures.counted, c.in_ok-is_hot_plug.ensures.counted, c.loop-n.invariant.counted);
  no_more = c.in_ok-read-2.ensures.no_more ∙ c.in_ok-is_hot_plug.ensures.no_more ∙ c.loop-n.invariant.no_more;
  bounded = omega (arith, c.in_ok-read-2.ensures.accessed, c.in_ok-is_hot_plug.ensures.bounded, c.loop-n.invariant.bounded);
  aligned = omega (arith, c.place_of-place-in-loop-n.ensures);
  says = λ v high last image behind others is seen alone.
      let board = g.P.BoardPort.board in
      let start = board c.read-2.new.self in
      let says = c.loop-n.invariant.says v high last image behind others is seen alone in
      let hot = c.in_ok-is_hot_plug.ensures.is v high last image behind others (c.loop-n.invariant.same ∙ is) seen alone in
      let next = read_there (board c.is_hot_plug.new.port) start c.args.slot (c.loop-n.place + 1) c.in_ok-read-2.field-0 (c.in_ok-is_hot_plug.ensures.same ∙ c.loop-n.invariant.same) c.in_ok-read-2.ensures.value v high last image behind others is seen alone in
      let count : 48 - c.loop-n.n ≡ suc (48 - (c.loop-n.n + 1)) = omega (arith, c.loop-n-test.true) in
      says ∙ ap (λ n. leads_to_slot image n c.loop-n.place) count
      ∙ past_place image (48 - (c.loop-n.n + 1)) c.loop-n.place c.place_of-place-in-loop-n.result (omega (arith, c.if-place-lt-FIRST_PLACE.false)) (sym c.if-branch.false ∙ hot) (c.place_of-place-in-loop-n.ensures ∙ ap (λ n. n / 4 * 4) next);
}

pub returns-clause-has : goal.returns-clause-has
returns-clause-has g c = λ v high last image behind others is seen alone.
    let from_start = c.in_ok-read.ensures.same ∙ c.in_ok-status.ensures.same in
    let says = c.loop-n.invariant.says v high last image behind others (from_start ∙ is) seen alone in
    let none : 48 - c.loop-n.n ≡ 0 = omega (arith, c.loop-n-test.false) in
    sym (says ∙ ap (λ n. leads_to_slot image n c.loop-n.place) none)
