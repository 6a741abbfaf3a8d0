use Rattle.std.proofs.Common.{List, sym, ◌∙◌, ap, subst, arith}
use Rattle.pci_claims.specs.Values.{told_value}
use Rattle.pci_faults.specs.declared.needed.Needed.{Needed}
use Rattle.pci_faults.specs.Needed.{AreNeededAppended, IsNeededRange}
use Rattle.pci_faults.proofs.ToldListing.{IsOfRangeAt, Is, no_ranges, one_range_more, all_ranges, range_added, range_left}
use Rattle.pci_faults.proofs.told_needed.add_told.Goals as goal
use Rattle.pci_faults.proofs.told_needed.add_told.Goals.{then-is_needed+in_ok-push, else-is_needed}

pub loop-index-init : goal.loop-index-init
loop-index-init g c t are = no_ranges (told_value c.args.told.now) t c.args.out.now.items

pub loop-index-preserved : goal.loop-index-preserved
loop-index-preserved g c t are =
    one_range_more (told_value c.args.told.now) t c.loop-index.index c.args.out.now.items c.loop-index.out.items c.if-is_needed.out.items (c.loop-index.invariant t are) (elim c.if-is_needed.branch [
      | then-is_needed+in_ok-push w ↦
          range_added (told_value c.args.told.now) t c.requires.told c.loop-index.index c.range-item.result (omega arith) c.range-item.is c.args.on.now are (sym c.is_needed.ensures ∙ w.if-is_needed.true)
          w.needed_of.result (subst (λ n. IsNeededRange c.range-item.result n w.needed_of.result) (omega arith) w.needed_of.ensures) c.loop-index.out.items c.if-is_needed.out.items
          (ap (λ v. v.items) w.out-is ∙ w.in_ok-push.ensures.items)
      | else-is_needed w ↦
          subst (λ (l : List Needed). AreNeededAppended (IsOfRangeAt (told_value c.args.told.now) (Is c.loop-index.index)) t c.loop-index.out.items l) (sym (ap (λ v. v.items) w.out-is))
          (range_left (told_value c.args.told.now) t c.requires.told c.loop-index.index c.range-item.result (omega arith) c.range-item.is c.args.on.now are (sym c.is_needed.ensures ∙ w.if-is_needed.false)
          c.loop-index.out.items)
    ])

pub returns : goal.returns
returns g c t are = all_ranges (told_value c.args.told.now) t c.loop-index.index (omega arith) c.args.out.now.items c.loop-index.out.items (c.loop-index.invariant t are)
