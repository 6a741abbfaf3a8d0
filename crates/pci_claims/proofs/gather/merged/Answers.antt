use Rattle.std.proofs.Common.{◌≡◌, ◌+◌, arith, get_or, length, subst, sym, ap, ◌∙◌}
use Rattle.std.proofs.lemmas.Bool.{ltb-true, ltb-false}
use Rattle.std.proofs.lemmas.List.{get_or_default}
use Rattle.pci_base.specs.declared.range.Range.{Range}
use Rattle.pci_claims.proofs.Gathering.{IsOpen, open_first, open_apart, open_touch, open_done, some_of}
use Rattle.pci_claims.proofs.gather.merged.Goals as goal
use Rattle.pci_claims.proofs.gather.merged.Goals.{then-is_apart+in_ok-push, else-is_apart}

pub loop-i-init : goal.loop-i-init
loop-i-init g c =
    let some = some_of (length c.args.ranges.now) c.is_empty.result c.is_empty.ensures c.if-is_empty.false in
    let r : Range = get_or c.args.ranges.now 0 record { first = 0; last = 0 } in
    subst (λ out. IsOpen c.args.ranges.now 1 out r) (sym c.new-out.ensures.items)
    (open_first c.args.ranges.now r some (get_or_default c.args.ranges.now 0 record { first = 0; last = 0 } r some) c.requires.lawful c.requires.sorted)

pub loop-i-preserved : goal.loop-i-preserved
loop-i-preserved g c =
    let r : Range = get_or c.args.ranges.now c.loop-i.i record { first = 0; last = 0 } in
    let at : r ≡ get_or c.args.ranges.now c.loop-i.i r = get_or_default c.args.ranges.now c.loop-i.i record { first = 0; last = 0 } r (omega arith) in
    elim c.if-is_apart.branch [
      | then-is_apart+in_ok-push w ↦
          subst (λ (v : Range). IsOpen c.args.ranges.now (c.loop-i.i + 1) c.if-is_apart.out.items v) (sym w.open-is)
          (open_apart c.args.ranges.now c.loop-i.i c.loop-i.out.items c.if-is_apart.out.items c.loop-i.open r c.loop-i.invariant (omega arith) at
          (ltb-true _ _ (sym c.is_apart.ensures ∙ w.if-is_apart.true)) c.requires.lawful c.requires.sorted (ap (λ v. v.items) w.out-is ∙ w.in_ok-push.ensures.items))
      | else-is_apart w ↦
          subst (λ (v : Range). IsOpen c.args.ranges.now (c.loop-i.i + 1) c.if-is_apart.out.items v) (sym w.open-is)
          (subst (λ out. IsOpen c.args.ranges.now (c.loop-i.i + 1) out w.joined-open.result) (sym (ap (λ v. v.items) w.out-is))
          (open_touch c.args.ranges.now c.loop-i.i c.loop-i.out.items c.loop-i.open r w.joined-open.result c.loop-i.invariant (omega arith) at
          (ltb-false _ _ (sym c.is_apart.ensures ∙ w.if-is_apart.false)) w.joined-open.ensures))
    ]

pub returns : goal.returns
returns g c =
    let some = some_of (length c.args.ranges.now) c.is_empty.result c.is_empty.ensures c.if-is_empty.false in
    open_done c.args.ranges.now c.loop-i.i c.loop-i.out.items _ c.loop-i.open c.loop-i.invariant (omega (arith, some)) c.in_ok-push-2.ensures.items
