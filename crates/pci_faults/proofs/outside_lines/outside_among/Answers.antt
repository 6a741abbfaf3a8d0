use Rattle.std.proofs.Common.{◌+◌, List, [], ◌∙◌, ap, subst, sym, take}
use Rattle.pci_faults.specs.declared.named.Outside.{Outside}
use Rattle.pci_claims.specs.Values.{code_given_value}
use Rattle.pci_faults.specs.OutsideLines.{AreOutsideLines}
use Rattle.pci_faults.proofs.OutsideLining.{none_outside, one_outside_more, no_outside_more}
use Rattle.pci_faults.proofs.outside_lines.outside_among.Goals.{in-Some+in_ok-push, in_default}
use Rattle.pci_faults.proofs.outside_lines.outside_among.Goals as goal

pub loop-one-init : goal.loop-one-init
loop-one-init g c = subst (λ (l : List Outside). AreOutsideLines (code_given_value c.args.given.now) c.args.outline.now [] l) (sym c.new-out.ensures.items)
    (none_outside (code_given_value c.args.given.now) c.args.outline.now)

pub loop-one-preserved : goal.loop-one-preserved
loop-one-preserved g c = elim c.match-branch-2.branch [
  | in-Some+in_ok-push w ↦
      subst (λ (l : List Outside). AreOutsideLines (code_given_value c.args.given.now) c.args.outline.now (take (c.loop-one.one-index + 1) c.args.list.now) l)
      (sym (ap (λ v. v.items) w.out-is ∙ w.in_ok-push.ensures.items))
      (one_outside_more (code_given_value c.args.given.now) c.args.outline.now c.args.list.now c.loop-one.one-index c.one-item.result c.loop-one.out.items c.loop-one-test.true c.one-item.is
      c.loop-one.invariant w.in-Some.address (rw w.in-Some.is at c.in_ok-address.ensures))
  | in_default w ↦
      subst (λ (l : List Outside). AreOutsideLines (code_given_value c.args.given.now) c.args.outline.now (take (c.loop-one.one-index + 1) c.args.list.now) l) (sym (ap (λ v. v.items) w.out-is))
      (no_outside_more (code_given_value c.args.given.now) c.args.outline.now c.args.list.now c.loop-one.one-index c.one-item.result c.loop-one.out.items c.loop-one-test.true c.one-item.is
      c.loop-one.invariant (rw w.in_default.is at c.in_ok-address.ensures))
]
