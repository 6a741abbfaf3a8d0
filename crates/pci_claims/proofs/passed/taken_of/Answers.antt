use Rattle.std.proofs.Common.{◌+◌, [], arith, subst, sym, ap, ◌∙◌, take}
use Rattle.pci_base.specs.Space.{space_of}
use Rattle.pci_claims.specs.Gathered.{AreLawfulBehind}
use Rattle.pci_claims.specs.Passed.{AreTakenPieces}
use Rattle.pci_claims.proofs.Bridging.{no_taken, taken_more, taken_less, all_taken, same_of}
use Rattle.pci_claims.proofs.passed.taken_of.Goals as goal
use Rattle.pci_claims.proofs.passed.taken_of.Goals.{then-eq+in_ok-add_lawful, else-eq}

pub loop-entry-init : goal.loop-entry-init
loop-entry-init g c = subst (λ xs. AreTakenPieces [] c.args.slot (space_of c.args.space) xs) (sym c.new-out.ensures.items) (no_taken c.args.slot (space_of c.args.space))

pub loop-entry-preserved : goal.loop-entry-preserved
loop-entry-preserved g c = elim c.if-eq.branch [
  | then-eq+in_ok-add_lawful w ↦
      taken_more c.args.unclaimed.now c.loop-entry.entry-index c.entry-item.result c.args.slot (space_of c.args.space) c.loop-entry.out.items w.ranges_of.result.now c.if-eq.out.items
      c.loop-entry.invariant (omega arith) c.entry-item.is (same_of c.entry-item.result.slot c.args.slot _ (sym c.eq.ensures ∙ w.if-eq.true)) w.ranges_of.ensures
      (subst (λ xs. AreLawfulBehind c.loop-entry.out.items w.ranges_of.result.now xs) (sym (ap (λ v. v.items) w.out-is)) w.in_ok-add_lawful.ensures)
  | else-eq w ↦
      subst (λ xs. AreTakenPieces (take (c.loop-entry.entry-index + 1) c.args.unclaimed.now) c.args.slot (space_of c.args.space) xs) (sym (ap (λ v. v.items) w.out-is))
      (taken_less c.args.unclaimed.now c.loop-entry.entry-index c.entry-item.result c.args.slot (space_of c.args.space) c.loop-entry.out.items
      c.loop-entry.invariant (omega arith) c.entry-item.is (same_of c.entry-item.result.slot c.args.slot _ (sym c.eq.ensures ∙ w.if-eq.false)))
]

pub returns : goal.returns
returns g c = all_taken c.args.unclaimed.now c.loop-entry.entry-index c.args.slot (space_of c.args.space) c.loop-entry.out.items (omega arith) c.loop-entry.invariant
