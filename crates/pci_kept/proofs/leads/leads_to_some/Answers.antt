use Rattle.std.proofs.Common.{get_or, inl, inr, arith, ap, ◌∙◌}
use Rattle.std.proofs.lemmas.Bool.{cases_eq}
use Rattle.std.proofs.lemmas.List.{get_or_default}
use Rattle.pci_kept.specs.ToldLines.{leads_to_line}
use Rattle.pci_kept.proofs.Reaching.{leads_by_look}
use Rattle.pci_kept.proofs.leads.leads_to_some.Goals as goal

pub loop-at-preserved : goal.loop-at-preserved
loop-at-preserved c = λ j e t d from up.
    let reachable = c.args.reachable.now in
    let ranges = reachable.told.ranges.now in
    let lines = reachable.told.lines.now in
    let indexes = reachable.indexes.now in
    let region = c.args.region.now in
    let any = c.args.any in
    let at = c.loop-at.at in
    let low = c.loop-at-test.true in
    let bound = c.count_below-to.ensures.bound in
    elim (cases_eq j at) [
      | inl same ↦
          ap (λ n. leads_to_line any region (get_or ranges n t) (get_or lines n d)) (ap (λ n. get_or indexes n e) same ∙ get_or_default indexes at e 0 (omega (arith, low, bound)))
          ∙ leads_by_look any region ranges lines c.requires.count (get_or indexes at 0) (c.requires.reachable.within at 0 (omega (arith, low, bound)))
          c.index-ranges-index.result c.index-ranges-index.is c.leads_to.result c.leads_to.ensures t d
          ∙ c.if-leads_to.false
      | inr other ↦ c.loop-at.invariant j e t d from (omega (arith, up, other))
    ]

pub returns-then-leads_to-clause-some : goal.returns-then-leads_to-clause-some
returns-then-leads_to-clause-some c = λ yes.
    let reachable = c.args.reachable.now in
    let at = c.loop-at.at in
    let index = get_or reachable.indexes.now at 0 in
    let begun = c.loop-at.auto.at in
    let low = c.loop-at-test.true in
    let bound = c.count_below-to.ensures.bound in (
      index,
      c.count_below-from.ensures.after at 0 begun (omega (arith, low, bound)),
      c.count_below-to.ensures.before at 0 (omega arith) low,
      λ t d.
          leads_by_look c.args.any c.args.region.now reachable.told.ranges.now reachable.told.lines.now c.requires.count index (c.requires.reachable.within at 0 (omega (arith, low, bound)))
          c.index-ranges-index.result c.index-ranges-index.is c.leads_to.result c.leads_to.ensures t d
          ∙ c.if-leads_to.true,
    )
