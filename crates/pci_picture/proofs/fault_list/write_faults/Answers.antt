use Rattle.std.proofs.Common.{◌+◌, ◌-◌, [], get_or, length, ap, sym, subst, arith}
use Rattle.std.specs.String.{string_bytes}
use Rattle.pci_picture.specs.declared.faults.Fault.{Fault}
use Rattle.pci_picture.specs.declared.faults.Keys.TheVariants.{None as NoKey}
use Rattle.pci_picture.proofs.Boxes.{then_draws}
use Rattle.pci_picture.proofs.FaultLines.{AreListed, all_below, fault_listed, fault_there, left_out_below, rest_left_out}
use Rattle.pci_picture.proofs.fault_list.write_faults.Goals as goal

none : Fault
none = record { number = 0; keys = NoKey; begin = 0; end = 0 }

pub returns-then-room-lines-clause-writes : goal.returns-then-room-lines-clause-writes
unfolding none
returns-then-room-lines-clause-writes g c =
    let faults = c.args.board.now.faults in
    let items = c.as_slice-faults.result.now in
    let i = c.loop-index.index in
    let there = fault_there faults items i none c.as_slice-faults.ensures.value c.loop-index-test.true in
    let long = ap length c.as_slice-faults.ensures.value in
    let base = c.loop-index.invariant.listed.base in
    let many = c.loop-index.invariant.listed.many in
    rest_left_out faults i c.loop-index.room c.loop-index.y (string_bytes c.args.canvas.now.words) (string_bytes c.loop-index.canvas.words) c.loop-index.invariant.listed
    (get_or items i none) there.0 there.1 (string_bytes c.write_left.new.canvas.words) (length items - i) c.saturating_add-y.result there.2
    (omega (arith, c.if-room-lines.true, c.lines.ensures)) (omega (arith, long)) (omega (arith, c.saturating_add-y.ensures, base, many))
    c.in_ok-write_left.ensures.writes

pub loop-index-preserved : goal.loop-index-preserved
unfolding none
loop-index-preserved g c =
    let faults = c.args.board.now.faults in
    let items = c.as_slice-faults.result.now in
    let i = c.loop-index.index in
    let fault = get_or items i none in
    let there = fault_there faults items i none c.as_slice-faults.ensures.value c.loop-index-test.true in
    let listed =
    fault_listed faults i c.loop-index.room c.loop-index.y (string_bytes c.args.canvas.now.words) (string_bytes c.loop-index.canvas.words) c.loop-index.invariant.listed
    fault there.0 there.1 (string_bytes c.write_fault.new.canvas.words) there.2 (omega (arith, c.if-room-lines.false, c.lines.ensures)) c.in_ok-y.ensures.writes in
    record {
      adds = then_draws [] _ _ _ c.loop-index.invariant.adds c.in_ok-y.ensures.adds;
      listed =
          subst (λ n. AreListed faults (i + 1) n c.in_ok-y.y (string_bytes c.args.canvas.now.words) (string_bytes c.write_fault.new.canvas.words)) (ap (λ n. c.loop-index.room - n) (sym c.lines-room.ensures))
          (subst (λ y. AreListed faults (i + 1) (c.loop-index.room - (fault.end - fault.begin)) y (string_bytes c.args.canvas.now.words) (string_bytes c.write_fault.new.canvas.words)) (sym c.in_ok-y.ensures.below) listed);
    }

pub returns-then-room-lines-clause-below : goal.returns-then-room-lines-clause-below
unfolding none
returns-then-room-lines-clause-below g c =
    let faults = c.args.board.now.faults in
    let items = c.as_slice-faults.result.now in
    let i = c.loop-index.index in
    let there = fault_there faults items i none c.as_slice-faults.ensures.value c.loop-index-test.true in
    let base = c.loop-index.invariant.listed.base in
    let many = c.loop-index.invariant.listed.many in
    (left_out_below faults i c.loop-index.room c.loop-index.y (string_bytes c.args.canvas.now.words) (string_bytes c.loop-index.canvas.words) c.loop-index.invariant.listed
    (get_or items i none) there.0 there.1 c.saturating_add-y.result there.2 (omega (arith, c.if-room-lines.true, c.lines.ensures))
    (omega (arith, c.saturating_add-y.ensures, base, many))).0

pub returns-then-room-lines-clause-high : goal.returns-then-room-lines-clause-high
returns-then-room-lines-clause-high g c =
    let base = c.loop-index.invariant.listed.base in
    let many = c.loop-index.invariant.listed.many in
    omega (arith, c.saturating_add-y.ensures, base, many)

pub returns-clause-below : goal.returns-clause-below
returns-clause-below g c =
    let long = ap length c.as_slice-faults.ensures.value in
    (all_below c.args.board.now.faults c.loop-index.index c.loop-index.room c.loop-index.y (string_bytes c.args.canvas.now.words) (string_bytes c.loop-index.canvas.words)
    c.loop-index.invariant.listed (omega (arith, c.loop-index-test.false, long))).0

pub returns-clause-high : goal.returns-clause-high
returns-clause-high g c =
    let base = c.loop-index.invariant.listed.base in
    let many = c.loop-index.invariant.listed.many in
    omega (arith, base, many)
