use Rattle.std.proofs.Common.{rules, ◌≡◌, List, ap, sym, ◌∙◌, subst, map, length}
use Rattle.std.specs.Prelude.{MatchOption}
use Rattle.std.specs.List.{Contains}
use Rattle.std.proofs.lemmas.List.{nil_from_length}
use Rattle.std.proofs.lemmas.List.Elements.{Contains-get_or}
use Rattle.pci_spec.specs.Decoded.{HasRecords, Record as Decoded}
use Rattle.pci_function.specs.declared.record.Record.{Record}
use Rattle.pci_tree.proofs.Lifting.{Has, function_for}
use Rattle.pci_claims.specs.Values.{code_given_value, taking_value}
use Rattle.pci_map.specs.Takers.{MayTake, IsTaker}
use Rattle.pci_map.proofs.TakerLists.{none_yet, one_none, one_taker, all_takers, no_takers}
use Rattle.pci_map.proofs.takers.find_takers.Goals.{in-Some+in_ok-push, in_default}
use Rattle.pci_map.proofs.takers.find_takers.Goals as goal

pub returns-then-is_empty : goal.returns-then-is_empty
returns-then-is_empty g c = λ s tree.
    let none : length c.args.given.now.unclaimed.now ≡ 0 = search rules in
    no_takers (code_given_value c.args.given.now) c.args.outline.now.roots s c.new-takers.result.items (ap (map taking_value) (nil_from_length c.args.given.now.unclaimed.now none)) c.new-takers.ensures.items

pub loop-function-init : goal.loop-function-init
loop-function-init g c = λ s tree. none_yet (code_given_value c.args.given.now) c.args.outline.now.roots s c.new-takers.result.items c.new-takers.ensures.items

pub loop-function-preserved : goal.loop-function-preserved
loop-function-preserved g c = λ s tree.
    let given = code_given_value c.args.given.now in
    let roots = c.args.outline.now.roots in
    let rs : List Record = c.records-function-items.result.now in
    let k = c.loop-function.function-index in
    let r : Record = c.function-item.result in
    let was = c.loop-function.invariant s tree in
    let has : Has s rs = subst (λ (xs : List Decoded). HasRecords s xs) (sym c.records-function-items.ensures.value) tree.records in
    let listed : Contains rs r = subst (Contains rs) (sym c.function-item.is) (Contains-get_or rs k r c.loop-function-test.true) in
    elim c.match-taker_of.branch [
      | in-Some+in_ok-push w ↦
          let own = function_for s rs r has listed in
          let is = subst (λ o. MatchOption o (MayTake given own.0 → ⊥) (λ taker. IsTaker roots s own.0 taker)) w.in-Some.is (c.taker_of.ensures s tree own.0 own.1 own.2) in
          one_taker given roots s rs k r c.loop-function-test.true c.function-item.is c.loop-function.takers.items _ w.in-Some.taker own.0 c.records-function-items.ensures.rising
          (ap (λ v. v.items) w.takers-is ∙ w.in_ok-push.ensures.items) own.1 own.2 is was
      | in_default w ↦
          one_none given roots s rs k r c.loop-function-test.true c.function-item.is c.loop-function.takers.items _ (ap (λ v. v.items) w.takers-is)
          (λ f there same. subst (λ o. MatchOption o (MayTake given f → ⊥) (λ taker. IsTaker roots s f taker)) w.in_default.is (c.taker_of.ensures s tree f there same)) was
    ]

pub returns : goal.returns
returns g c = λ s tree.
    all_takers (code_given_value c.args.given.now) c.args.outline.now.roots s c.records-function-items.result.now c.loop-function.function-index c.loop-function.takers.items
    (subst (λ (xs : List Decoded). HasRecords s xs) (sym c.records-function-items.ensures.value) tree.records) c.loop-function-test.false (c.loop-function.invariant s tree)
