use Rattle.std.proofs.Common.{◌≡◌, ◌+◌, arith, ap, get_or, subst, sym, take, ◌∙◌}
use Rattle.std.proofs.lemmas.Bool.{iff_false}
use Rattle.std.proofs.lemmas.List.{get_or_default}
use Rattle.pci_base.specs.declared.range.Range.{Range}
use Rattle.pci_claims.specs.Gathered.{AreLawfulBehind}
use Rattle.pci_claims.proofs.Bridging.{none_behind, one_behind, empty_behind, all_behind}
use Rattle.pci_claims.proofs.passed.add_lawful.Goals as goal
use Rattle.pci_claims.proofs.passed.add_lawful.Goals.{then-has_address+in_ok-push, else-has_address}

pub loop-range-init : goal.loop-range-init
loop-range-init g c = none_behind c.args.out.now.items

pub loop-range-preserved : goal.loop-range-preserved
loop-range-preserved g c =
    let r : Range = get_or c.args.ranges.now c.loop-range.range-index record { first = 0; last = 0 } in
    let at : r ≡ get_or c.args.ranges.now c.loop-range.range-index r = get_or_default c.args.ranges.now c.loop-range.range-index record { first = 0; last = 0 } r (omega arith) in
    elim c.if-has_address.branch [
      | then-has_address+in_ok-push w ↦ one_behind c.args.out.now.items c.args.ranges.now c.loop-range.range-index r c.loop-range.out.items _ c.loop-range.invariant (omega arith) at
          (c.has_address.ensures.0 w.if-has_address.true) (ap (λ v. v.items) w.out-is ∙ w.in_ok-push.ensures.items)
      | else-has_address w ↦ subst (λ xs. AreLawfulBehind c.args.out.now.items (take (c.loop-range.range-index + 1) c.args.ranges.now) xs) (sym (ap (λ v. v.items) w.out-is))
          (empty_behind c.args.out.now.items c.args.ranges.now c.loop-range.range-index r c.loop-range.out.items c.loop-range.invariant (omega arith) at (iff_false c.has_address.ensures w.if-has_address.false))
    ]

pub returns : goal.returns
returns g c = all_behind c.args.out.now.items c.args.ranges.now c.loop-range.range-index c.loop-range.out.items (omega arith) c.loop-range.invariant
