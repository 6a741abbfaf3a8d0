use Rattle.std.proofs.Common.{rules, arith, ◌≡◌, ◌+◌, ◌<◌, List, length, set, get_or, take, ap, subst, sym, ◌∙◌}
use Rattle.std.specs.List.{Contains}
use Rattle.std.proofs.lemmas.List.{length-set}
use Rattle.std.proofs.lemmas.List.Elements.{Contains-get_or}
use Rattle.pci_spec.proofs.Members.{in_nil}
use Rattle.pci_function.specs.declared.record.Record.{Record}
use Rattle.pci_map.specs.Above.{IsOnlyRootAbove}
use Rattle.pci_map.proofs.RootsAbove.{AreFilled, one_more, one_more_there, root_put, above_record, all_filled}
use Rattle.pci_map.proofs.above.roots_above.Goals as goal
use Rattle.pci_map.proofs.above.roots_above.Goals.{then-bus-last, else-bus-last}

pub loop-function-init : goal.loop-function-init
loop-function-init g c = record { size = search rules; known = λ small s has are. (let no : ⊥ = omega (arith, small) in absurd no); filled = λ s has are r none. absurd (in_nil r none) }

pub loop-function-preserved : goal.loop-function-preserved
loop-function-preserved g c =
    let roots = c.args.outline.now.roots in
    let rs : List Record = c.args.records.now in
    let k = c.loop-function.function-index in
    let r : Record = c.function-item.result in
    let table = c.loop-function.roots_above in
    let last = c.loop-function.last in
    let before = c.loop-function.invariant in
    let size : length table ≡ 256 = before.size in
    let low = c.bus-bus.type_inv in
    let bus : c.bus-bus.result ≡ r.slot.bus = c.bus-bus.ensures in
    let small : r.slot.bus < length table = omega (arith, size, low, bus) in
    let listed : Contains rs r = subst (Contains rs) (sym c.function-item.is) (Contains-get_or rs k r c.loop-function-test.true) in
    record {
      size = elim c.if-bus-last.branch [
        | then-bus-last w ↦ ap length w.roots_above-is ∙ length-set table c.bus-bus.result w.root_over.result ∙ size
        | else-bus-last w ↦ ap length w.roots_above-is ∙ size
      ];
      known = λ below s has are. elim c.if-bus-last.branch [
        | then-bus-last w ↦
            subst (λ n. IsOnlyRootAbove roots s n (get_or c.if-bus-last.roots_above n 0)) (sym (w.last-is ∙ bus))
            (subst (λ t. IsOnlyRootAbove roots s r.slot.bus (get_or t r.slot.bus 0)) (sym (w.roots_above-is ∙ ap (λ n. set table n w.root_over.result) bus))
            (root_put roots s table r.slot.bus w.root_over.result small
            (above_record roots s rs r w.root_over.result are listed (λ f is_in same. w.root_over.ensures s has f is_in same))))
        | else-bus-last w ↦
            let is = w.last-is in
            subst (λ n. IsOnlyRootAbove roots s n (get_or c.if-bus-last.roots_above n 0)) (sym w.last-is)
            (subst (λ t. IsOnlyRootAbove roots s last (get_or t last 0)) (sym w.roots_above-is) (before.known (omega (arith, below, is)) s has are))
      ];
      filled = λ s has are. elim c.if-bus-last.branch [
        | then-bus-last w ↦
            one_more roots s rs k r table c.if-bus-last.roots_above w.root_over.result c.loop-function-test.true c.function-item.is small
            (w.roots_above-is ∙ ap (λ n. set table n w.root_over.result) bus) (before.filled s has are)
            (above_record roots s rs r w.root_over.result are listed (λ f is_in same. w.root_over.ensures s has f is_in same))
        | else-bus-last w ↦
            let same : c.bus-bus.result ≡ last = w.if-bus-last.false in
            subst (λ t. AreFilled roots s (take (k + 1) rs) t) (sym w.roots_above-is)
            (one_more_there roots s rs k r table c.loop-function-test.true c.function-item.is (before.filled s has are)
            (subst (λ n. IsOnlyRootAbove roots s n (get_or table n 0)) (sym same ∙ bus) (before.known (omega (arith, low, same)) s has are)))
      ];
    }

pub returns : goal.returns
returns g c = λ s has are.
    all_filled c.args.outline.now.roots s c.args.records.now c.loop-function.function-index c.loop-function.roots_above are c.loop-function-test.false (c.loop-function.invariant.filled s has are)
