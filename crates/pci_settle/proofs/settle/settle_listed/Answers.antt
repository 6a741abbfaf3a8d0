use Rattle.std.proofs.Common.{◌≡◌, ◌∙◌, ◌&&◌, List, length, refl, sym, ap, true}
use Rattle.std.specs.Bool.{◌==◌}
use Rattle.std.proofs.lemmas.Bool.{and_parts, both_ways}
use Rattle.std.proofs.lemmas.Result.{IfOk-weaker}
use Rattle.judge_spec.specs.Told.{ToldRange}
use Rattle.pci_first_fit.specs.Slots.{demand_value}
use Rattle.pci_kept.specs.Known.{asked_by_rules}
use Rattle.pci_settle.proofs.IoFirst.{empty_if}
use Rattle.pci_settle.proofs.settle.settle_listed.Goals as goal

pub settle_all-requires-clause-untold : goal.settle_all-requires-clause-untold
settle_all-requires-clause-untold g c =
    empty_if c.args.lists.now.told.ranges.now (and_parts c.args.rules.now.anew (length c.args.lists.now.told.ranges.now == 0) (sym c.is_all_moved.ensures ∙ c.if-is_all_moved.true)).1

pub settle_rest-requires-clause-rest : goal.settle_rest-requires-clause-rest
settle_rest-requires-clause-rest g c = λ anew untold.
    both_ways (c.args.rules.now.anew && length c.args.lists.now.told.ranges.now == 0) (sym c.is_all_moved.ensures ∙ c.if-is_all_moved.false)
    (ap (λ b. b && length c.args.lists.now.told.ranges.now == 0) anew ∙ ap (λ (xs : List ToldRange). length xs == 0) untold)

pub returns-then-is_all_moved-clause-ends : goal.returns-then-is_all_moved-clause-ends
returns-then-is_all_moved-clause-ends g c =
    let q = asked_by_rules c.args.admitted.now.roots (demand_value c.args.lists.now) c.args.rules.now in
    let anew : c.args.rules.now.anew ≡ true = (and_parts c.args.rules.now.anew (length c.args.lists.now.told.ranges.now == 0) (sym c.is_all_moved.ensures ∙ c.if-is_all_moved.true)).0 in
    IfOk-weaker c.settle_all.result _ _
    (λ x ends. ends q record { roots_are = refl; demands_are = refl } anew c.requires.flags)
    c.settle_all.ensures.ends
