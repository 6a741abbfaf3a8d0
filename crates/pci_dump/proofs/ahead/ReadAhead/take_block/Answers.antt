use Rattle.std.proofs.Common.{◌∙◌, ◌==◌, ap, sym, subst, length, arith, ℕ, List, Option}
use Rattle.std.proofs.lemmas.Bool.{false≢true}
use Rattle.pci_spec.specs.Slot.{Slot}
use Rattle.pci_dump.specs.BlockFault.{BlockStops}
use Rattle.pci_dump.specs.FaultAt.{fault_at}
use Rattle.pci_dump.proofs.Fronted.{holds_stop, holds_many}
use Rattle.pci_dump.proofs.ahead.ReadAhead.take_block.Goals as goal

pub returns-then-self-eq-COUNT_MAX-clause-err : goal.returns-then-self-eq-COUNT_MAX-clause-err
returns-then-self-eq-COUNT_MAX-clause-err c =
    holds_many c.args.self.now c.fail.new.self c.fail.result (ap (λ a. a.count) (sym c.self.view_is) ∙ c.if-self-eq-COUNT_MAX.true)
    (λ empty. false≢true (sym c.if-is_empty.false ∙ c.is_empty.ensures ∙ ap (λ (xs : List ℕ). length xs == 0) (c.held.ensures ∙ empty)))
    c.fail.ensures.result c.fail.ensures.state

pub returns-in-Err-clause-err : goal.returns-in-Err-clause-err
returns-in-Err-clause-err c =
    let stops = subst (λ (o : Option Slot). BlockStops o c.args.self.now.held c.in-Err.stop) (ap (λ a. a.last) c.self.view_is)
    (subst (λ (xs : List ℕ). BlockStops c.self.inside.last xs c.in-Err.stop) c.held-2.ensures c.in-Err.ensures.err) in
    let count = ap (λ a. a.count) c.self.view_is in
    let room = c.self.invariant in
    holds_stop c.args.self.now c.fail-in-Err-2.new.self c.in-Err.stop c.fault_of.result c.fail-in-Err-2.result (omega (arith, count, room.2, c.if-self-eq-COUNT_MAX.false)) stops
    (c.fault_of.ensures ∙ ap (λ (n : ℕ). fault_at n c.in-Err.stop) (ap (λ a. a.count) c.fail-in-Err.view_is))
    c.fail-in-Err-2.ensures.result c.fail-in-Err-2.ensures.state
