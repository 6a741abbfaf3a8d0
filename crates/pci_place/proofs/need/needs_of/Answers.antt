use Rattle.std.proofs.Common.{◌≡◌, ◌-◌, length, max, true, false, arith, sym, ◌∙◌, subst}
use Rattle.std.specs.List.{Contains}
use Rattle.std.proofs.lemmas.Bool.{both_ways}
use Rattle.pci_spec.specs.Bus.{is_root}
use Rattle.pci_spec.proofs.BusRanges.{root_means}
use Rattle.pci_spec.proofs.Records.{same_truth}
use Rattle.pci_base.specs.WindowKinds.{kind_value}
use Rattle.pci_place.specs.declared.above.Above.{Above}
use Rattle.pci_place.specs.Pools.{pools_value}
use Rattle.pci_place.specs.Above.{system_in}
use Rattle.pci_place.proofs.Records.{lent}
use Rattle.pci_place.proofs.NeedTables.{needs_none, needs_step, whole_needs, whole_greatest}
use Rattle.pci_place.proofs.need.needs_of.Goals as goal
use Rattle.pci_place.proofs.need.needs_of.Goals.{then-has+then-greatest-tally, else-has, else-has-via-then-has+else-greatest-tally, else-has-via-else-has}

pub loop-done-init : goal.loop-done-init
loop-done-init g c =
    let s = system_in c.args.admitted.now in
    needs_none c.args.admitted.now.roots s (pools_value c.args.pools.now) (kind_value c.args.class) (length s - 0) (omega arith)

pub loop-done-preserved : goal.loop-done-preserved
loop-done-preserved g c =
    let roots = c.args.admitted.now.roots in
    let s = system_in c.args.admitted.now in
    let admitted = c.outline-outline.ensures.admitted in
    let records = c.records-records.result.now in
    let has = lent s records c.records-records.ensures.value c.outline-outline.ensures.records in
    let r = c.index-records-records.result in
    let bus = c.bus-bus.result in
    let d : Above = record { io = false; pref = false; wide = false } in
    let t = c.tally_of-tally.result in
    let most = c.loop-done.greatest in
    let next = c.if-has.greatest in
    let same_bus : c.bus.result ≡ bus = c.bus.ensures ∙ sym c.bus-bus.ensures in
    let same_roots = c.roots-roots.ensures ∙ c.outline-outline.ensures.roots in
    let is : is_root roots bus ≡ c.has.result =
    same_truth (is_root roots bus) c.has.result
    (λ root. c.has.ensures.1 (subst (λ xs. Contains xs c.bus.result) (sym same_roots) (subst (λ n. Contains roots n) (sym same_bus) ((root_means roots bus).0 root))))
    (λ yes. (root_means roots bus).1 (subst (λ n. Contains roots n) same_bus (subst (λ xs. Contains xs c.bus.result) same_roots (c.has.ensures.0 yes)))) in
    let root : is_root roots bus ≡ true → next ≡ max t.greatest most = λ root. (elim c.if-has.branch [
      | then-has+then-greatest-tally w ↦ let e = w.greatest-is in let less = w.if-greatest-tally.true in omega (arith, e, less)
      | else-has w ↦ let e = w.greatest-is in elim w.else-has.branch [
        | else-has-via-then-has+else-greatest-tally v ↦ let less = v.if-greatest-tally.false in omega (arith, e, less)
        | else-has-via-else-has v ↦ absurd (both_ways c.has.result v.if-has.false (sym is ∙ root))
      ]
    ]) in
    let other : is_root roots bus ≡ false → next ≡ most = λ off. (elim c.if-has.branch [
      | then-has+then-greatest-tally w ↦ absurd (both_ways c.has.result (sym is ∙ off) w.if-has.true)
      | else-has w ↦ w.greatest-is
    ]) in
    needs_step roots s admitted.system admitted.nested c.args.pools.now (kind_value c.args.class) records has c.args.aboves.now c.requires
    c.loop-done.done r c.loop-done-test.true c.index-records-records.is c.loop-done.needs.of_bus most c.loop-done.invariant bus d c.bus-bus.ensures t c.tally_of-tally.ensures c.min.result next c.min.ensures root other

pub returns-clause-need : goal.returns-clause-need
returns-clause-need g c =
    let s = system_in c.args.admitted.now in
    let admitted = c.outline-outline.ensures.admitted in
    let has = lent s c.records-records.result.now c.records-records.ensures.value c.outline-outline.ensures.records in
    whole_needs c.args.admitted.now.roots s admitted.system admitted.nested c.args.pools.now (kind_value c.args.class)
    c.records-records.result.now has c.loop-done.done (omega arith) c.loop-done.needs.of_bus c.loop-done.greatest c.loop-done.invariant

pub returns-clause-greatest : goal.returns-clause-greatest
returns-clause-greatest g c =
    let s = system_in c.args.admitted.now in
    let admitted = c.outline-outline.ensures.admitted in
    let has = lent s c.records-records.result.now c.records-records.ensures.value c.outline-outline.ensures.records in
    whole_greatest c.args.admitted.now.roots s admitted.system admitted.nested c.args.pools.now (kind_value c.args.class)
    c.records-records.result.now has c.loop-done.done (omega arith) c.loop-done.needs.of_bus c.loop-done.greatest c.loop-done.invariant
