use Rattle.std.proofs.Common.{◌≤◌, ◌<◌, length, subst, sym, ◌∙◌}
use Rattle.std.specs.List.{AllWithin}
use Rattle.std.proofs.lemmas.Bool.{eqb-true}
use Rattle.std.proofs.lemmas.List.{nil_from_length}
use Rattle.judge_spec.specs.Told.{ToldRange}
use Rattle.pci_kept.proofs.Leading.{all_held, no_bridge_leads, by_lines}
use Rattle.pci_kept.proofs.leads.leads_to_one.Goals as goal

pub returns-then-is_empty : goal.returns-then-is_empty
returns-then-is_empty c = λ q s tree same lines is.
    let indexes = c.args.reachable.now.indexes.now in
    all_held c.args.any q s c.args.region.now is c.args.reachable.now.told.ranges.now same indexes (nil_from_length indexes (eqb-true _ 0 (sym c.is_empty.ensures ∙ c.if-is_empty.true))) c.requires.reachable

pub returns-in_default : goal.returns-in_default
returns-in_default c = λ q s tree same lines is.
    no_bridge_leads c.args.any q s c.args.region.now is c.args.records.now tree c.args.reachable.now.told.lines.now lines c.requires.function _ c.in_default.is

pub returns : goal.returns
returns c = λ q s tree same lines is.
    let ranges = c.args.reachable.now.told.ranges.now in
    by_lines c.args.any q s c.args.region.now is c.args.records.now tree c.args.reachable.now.told.lines.now lines c.requires.function _ c.in-Some.bridge c.in-Some.is
    ranges same c.first_from-first.result c.first_above-end.result c.first_above-end.ensures.bound
    (subst (λ n. AllWithin (λ (t : ToldRange). t.slot.bus < n) ranges 0 c.first_from-first.result) c.from.ensures c.first_from-first.ensures.before)
    (subst (λ n. AllWithin (λ (t : ToldRange). n ≤ t.slot.bus) ranges c.first_from-first.result (length ranges)) c.from.ensures c.first_from-first.ensures.after)
    c.first_above-end.ensures.before c.first_above-end.ensures.after c.leads_to_some.result c.leads_to_some.ensures.some c.leads_to_some.ensures.none
