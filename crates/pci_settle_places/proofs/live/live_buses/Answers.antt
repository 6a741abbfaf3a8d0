use Rattle.std.proofs.Common.{◌≡◌, ◌-◌, ◌≤◌, ℕ, length, set, cond, true, arith, sym, ap, ◌∙◌, subst}
use Rattle.pci_base.specs.Space.{space_of}
use Rattle.pci_place.specs.Above.{system_in}
use Rattle.pci_place.proofs.Records.{lent, same_count}
use Rattle.pci_settle_places.proofs.LiveBuses.{AreLiveFrom, live_none, live_all, live_step}
use Rattle.pci_settle_places.proofs.Registers.{registers_at}
use Rattle.pci_settle_places.proofs.live.live_buses.Goals as goal
use Rattle.pci_settle_places.proofs.live.live_buses.Goals.{then-is_live, else-is_live}

pub loop-done-init : goal.loop-done-init
loop-done-init g c =
    let s = system_in c.args.admitted.now in
    let admitted = c.outline-outline.ensures.admitted in
    live_none c.args.admitted.now.roots s admitted.system admitted.nested (space_of c.args.space) c.args.answering.now c.args.table.now (length s - 0) (omega arith)

pub is_live-requires-clause-registers : goal.is_live-requires-clause-registers
is_live-requires-clause-registers g c =
    let s = system_in c.args.admitted.now in
    let records = c.records-records.result.now in
    let has = lent s records c.records-records.ensures.value c.outline-outline.ensures.records in
    registers_at s records has (length records - 1 - c.loop-done.done) c.index-records-function.result (let less = c.loop-done-test.true in omega (arith, less)) c.index-records-function.is

pub loop-done-preserved : goal.loop-done-preserved
loop-done-preserved g c =
    let s = system_in c.args.admitted.now in
    let admitted = c.outline-outline.ensures.admitted in
    let records = c.records-records.result.now in
    let has = lent s records c.records-records.ensures.value c.outline-outline.ensures.records in
    live_step c.args.admitted.now.roots s admitted.system admitted.nested (space_of c.args.space) c.args.answering.now c.args.table.now c.args.aboves.now c.requires.above records has c.loop-done.done
    c.index-records-function.result c.loop-done-test.true c.index-records-function.is c.loop-done.live c.loop-done.invariant c.from-bus.result _ _
    c.is_live_behind-behind.result c.is_live.result c.if-is_live.live (c.from-bus.ensures ∙ c.bus.ensures) c.is_live_behind-behind.ensures c.is_live.ensures
    (elim c.if-is_live.branch [
      | then-is_live w ↦ w.live-is ∙ sym (ap (λ b. cond b (set c.loop-done.live c.from-bus.result true) c.loop-done.live) w.if-is_live.true)
      | else-is_live w ↦ w.live-is ∙ sym (ap (λ b. cond b (set c.loop-done.live c.from-bus.result true) c.loop-done.live) w.if-is_live.false)
    ])

at_start : (n done : ℕ) → n ≤ done → n - done ≡ 0
at_start n done h = omega (arith, h)

pub returns : goal.returns
returns g c =
    let s = system_in c.args.admitted.now in
    let admitted = c.outline-outline.ensures.admitted in
    let records = c.records-records.result.now in
    let has = lent s records c.records-records.ensures.value c.outline-outline.ensures.records in
    let count = same_count s records has in
    let start = at_start (length s) c.loop-done.done (let done = c.loop-done-test.false in omega (arith, count, done)) in
    live_all c.args.admitted.now.roots s admitted.system admitted.nested (space_of c.args.space) c.args.answering.now c.args.table.now c.loop-done.live
    (subst (λ n. AreLiveFrom c.args.admitted.now.roots s (space_of c.args.space) c.args.answering.now c.args.table.now n c.loop-done.live) start c.loop-done.invariant)
