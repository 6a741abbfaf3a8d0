use Rattle.std.proofs.Common.{List, length, take, refl, sym, subst, arith}
use Rattle.std.proofs.lemmas.Result.{on_ok_weaker}
use Rattle.pci_spec.specs.Decoded as decoded
use Rattle.pci_spec.specs.Decoded.{HasRecords}
use Rattle.pci_spec.specs.System.{Io, Memory}
use Rattle.pci_spec.proofs.Members.{in_nil}
use Rattle.pci_tree.specs.Ways.{slots_of}
use Rattle.pci_claims.specs.Values.{code_given_value, told_value}
use Rattle.pci_map.specs.Asides.{AreFoundBy}
use Rattle.pci_map.proofs.Tolds.{record_in}
use Rattle.pci_map.proofs.RangeAsides.{behind_more, below_more, up_to}
use Rattle.pci_map.proofs.AsideTexts.{none_among, ranges_aside, next_function_aside, all_functions_aside}
use Rattle.pci_map.proofs.asides.push_all.Goals as goal

pub loop-function-init : goal.loop-function-init
loop-function-init g c = record {
  within = omega arith;
  below = λ k d from within i e low high. absurd (let no : ⊥ = omega (arith, high) in no);
  behind = λ x has. absurd (in_nil x has);
  written = λ s of. none_among (told_value c.args.mapped.now.told) of.is.is_told.lawful (code_given_value c.args.mapped.now.given) c.args.mapped.now.outline.now.roots s c.args.asides.now;
}

pub push_told_asides-requires-clause-low : goal.push_told_asides-requires-clause-low
push_told_asides-requires-clause-low g c =
    let was = c.loop-function.invariant in
    up_to c.args.mapped.now.told.ranges.now c.records-records.result.now c.loop-function.function-index c.function-item.result c.records-records.ensures.rising c.loop-function-test.true (sym c.function-item.is)
    c.first_of_slot-end.result c.loop-function.next was.within was.below c.first_of_slot-end.ensures.after

pub loop-function-preserved : goal.loop-function-preserved
loop-function-preserved g c =
    let mapped = c.args.mapped.now in
    let told = told_value mapped.told in
    let given = code_given_value mapped.given in
    let rs = c.records-records.result.now in
    let k = c.loop-function.function-index in
    let r = c.function-item.result in
    let rise = c.records-records.ensures.rising in
    let lt = c.loop-function-test.true in
    let at = sym c.function-item.is in
    let end = c.first_of_slot-end.result in
    let was = c.loop-function.invariant in
    let slot = c.first_of_slot-end.ensures in
    record {
      within = slot.bound;
      below = below_more mapped.told.ranges.now rs k r rise lt at end slot.before;
      behind = behind_more mapped.told.ranges.now rs k r rise lt at end slot.after;
      written = λ s of. (
          let is = record_in s rs k r (subst (λ (xs : List decoded.Record). HasRecords s xs) (sym c.records-records.ensures.value) of.is.tree.records) rise c.records-records.ensures.lawful lt at in
          let ways = of.ways_are in
          next_function_aside told of.is.is_told.lawful given mapped.outline.now.roots s rs k r end c.args.asides.now c.push_told_asides.new.asides c.push_asides_of.new.asides rise lt at slot.before
          (ranges_aside told of.is.is_told.lawful given mapped.outline.now.roots s (slots_of (take k rs)) c.loop-function.next end c.args.asides.now c.loop-function.asides c.push_told_asides.new.asides
          (up_to mapped.told.ranges.now rs k r rise lt at end c.loop-function.next was.within was.below slot.after) was.behind (was.written s of) (c.in_ok-push_told_asides.ensures s of.is ways))
          (c.in_ok-push_asides_of.ensures told mapped.outline.now s of.is.sent ways
          (subst (AreFoundBy s r.slot Io) (sym c.as_slice-io.ensures.value) (c.in_ok-find_both.ensures s is).0)
          (subst (AreFoundBy s r.slot Memory) (sym c.as_slice-memory.ensures.value) (c.in_ok-find_both.ensures s is).1)));
    }

pub returns : goal.returns
returns g c =
    on_ok_weaker c.push_told_asides-2.result
    (λ last s of. (
    let mapped = c.args.mapped.now in
    let told = told_value mapped.told in
    let given = code_given_value mapped.given in
    let rs = c.records-records.result.now in
    let k = c.loop-function.function-index in
    let was = c.loop-function.invariant in
    let ways = of.ways_are in
    all_functions_aside told of.is.is_told.lawful given mapped.outline.now.roots s rs k (length mapped.told.ranges.now) c.args.asides.now c.push_told_asides-2.new.asides
    (subst (λ (xs : List decoded.Record). HasRecords s xs) (sym c.records-records.ensures.value) of.is.tree.records) c.loop-function-test.false refl
    (ranges_aside told of.is.is_told.lawful given mapped.outline.now.roots s (slots_of (take k rs)) c.loop-function.next (length mapped.told.ranges.now) c.args.asides.now c.loop-function.asides c.push_told_asides-2.new.asides
    was.within was.behind (was.written s of) (last s of.is ways))))
    c.push_told_asides-2.ensures
