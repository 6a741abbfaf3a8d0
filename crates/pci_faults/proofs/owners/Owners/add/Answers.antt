use Rattle.std.proofs.Common.{ℕ, ◌+◌, arith}
use Rattle.std.proofs.lemmas.Result.{on_ok_weaker}
use Rattle.pci_faults.specs.Owners.{OwnedRangeHas, Owns}
use Rattle.pci_faults.proofs.Filling.{added, found_added, end_added}
use Rattle.pci_faults.proofs.owners.Owners.add.Goals.{in_default-via-in-Some+else-found-range, in_default-via-in_default}
use Rattle.pci_faults.proofs.owners.Owners.add.Goals as goal

pub returns-then-range-found : goal.returns-then-range-found
returns-then-range-found g c =
    added c.args.self.now c.fill_up_to.new.self c.args.range c.args.owner (c.in-Some.found.last + 1) (let past = c.if-range-found.true in omega (arith, past))
    (found_added c.args.self.now c.loop-found.self c.fill_up_to.new.self c.args.range c.args.owner c.loop-found.first c.in-Some.found
    c.loop-found.invariant.from c.if-found-range.true c.in-Some.ensures c.in_ok-fill_up_to-in-Some.ensures c.loop-found.invariant.added)

pub loop-found-preserved : goal.loop-found-preserved
loop-found-preserved g c = record {
  from = (let from = c.loop-found.invariant.from in let on = c.in-Some.ensures.from_on in let some = c.in-Some.ensures.some in omega (arith, from, on, some));
  within = (let low = c.if-range-found.false in omega (arith, low));
  added =
      found_added c.args.self.now c.loop-found.self c.fill_up_to.new.self c.args.range c.args.owner c.loop-found.first c.in-Some.found
      c.loop-found.invariant.from c.if-found-range.true c.in-Some.ensures c.in_ok-fill_up_to-in-Some.ensures c.loop-found.invariant.added;
}

pub fill-requires-clause-free : goal.fill-requires-clause-free
fill-requires-clause-free g c = elim c.in_default.branch [
  | in_default-via-in-Some+else-found-range w ↦ λ a i held. w.in-Some.ensures.least a i held.0 (let past = w.if-found-range.false in let to = held.1 in omega (arith, past, to))
  | in_default-via-in_default w ↦ λ a i held. w.in_default.ensures a i held.0
]

pub returns-in_default : goal.returns-in_default
returns-in_default g c =
    let free : (a i : ℕ) → OwnedRangeHas (record { first = c.loop-found.first; last = c.args.range.last }) a → Owns c.loop-found.self a i → ⊥ = elim c.in_default.branch [
      | in_default-via-in-Some+else-found-range w ↦ λ a i held. w.in-Some.ensures.least a i held.0 (let past = w.if-found-range.false in let to = held.1 in omega (arith, past, to))
      | in_default-via-in_default w ↦ λ a i held. w.in_default.ensures a i held.0
    ] in
    on_ok_weaker c.fill.result
    (λ is. end_added c.args.self.now c.loop-found.self c.fill.new.self c.args.range c.args.owner c.loop-found.first c.loop-found.invariant.from c.loop-found.invariant.within is free c.loop-found.invariant.added)
    c.fill.ensures
