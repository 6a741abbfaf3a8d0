use Rattle.std.proofs.Common.{map, refl, sym, subst, ◌∙◌}
use Rattle.std.proofs.lemmas.List.{length-map}
use Rattle.pci_plan.specs.Plans.{IsPlanIn}
use Rattle.pciplan_c.proofs.PlanWrites.{write_of_c, writes_as_planned}
use Rattle.pciplan_c.proofs.planning.put_plan.Goals as goal

pub returns-clause-why : goal.returns-clause-why
returns-clause-why g c = λ roots dump probe texts. record {
  writes = map write_of_c c.writes.result.now;
  safe_from = c.in-Ok.plan.safe_from;
  so = record {
    start = c.args.admitted.now;
    texts = texts;
    admitted = c.outline-outline.ensures.admitted;
    plan = c.in-Ok.plan;
    stands = subst (λ pools. IsPlanIn c.args.admitted.now pools c.in-Ok.plan) c.pools.ensures c.in-Ok.ensures.planned;
    made = writes_as_planned c.writes.result.now ∙ c.writes.ensures.value;
    safe = refl;
  };
  number = c.in-Err.ensures.needed.0 ∙ sym (length-map c.writes.result.now write_of_c);
  more = c.in-Err.ensures.needed.1;
}
