use Rattle.std.proofs.Common.{◌≡◌, ◌^◌, ◌<◌, map, sym, ◌∙◌, ap, subst, arith}
use Rattle.plan_spec.specs.Planning.PlanWrites.{plan_writes}
use Rattle.pci_place.specs.Pools.{pools_value}
use Rattle.pci_plan.specs.Plans.{IsPlanIn}
use Rattle.pci_plan.specs.Writes.{write_value, block_changes}
use Rattle.pci_plan.proofs.Judged.{plan_kept, plan_made}
use Rattle.pci_plan.proofs.planning.made.Goals as goal
use Rattle.pci_plan.proofs.planning.made.Goals.{In_ok-writes}

-- the writes are those of a plan that leads from one dump to the other
are_writes : (g : _) (c : In_ok-writes g) → map write_value c.in_ok-writes.writes.items ≡ plan_writes (block_changes c.args.admitted.now.dump c.in_ok-dump.dump)
are_writes g c =
    c.in_ok-writes.ensures ∙ ap (λ xs. plan_writes (block_changes xs c.blocks-3.result.now)) (c.blocks-2.ensures.value ∙ c.dump.ensures)
    ∙ ap (λ xs. plan_writes (block_changes c.args.admitted.now.dump xs)) c.blocks-3.ensures.value

pub of-requires : goal.of-requires
of-requires g c =
    let facts = c.roots_of-roots.ensures in
    let small : c.args.pools.now.pref.last < 2 ^ 64 = omega arith in
    plan_kept c.args.admitted.now facts.admitted facts.decodable facts.rising (pools_value c.args.pools.now) small c.requires.plannable c.in_ok-dump.dump c.in_ok-dump.ensures.slots c.in_ok-dump.ensures.planned
    (map write_value c.in_ok-writes.writes.items) (are_writes g (goal.at.of-requires g c).In_ok-writes) c.in_ok-safe_from.safe_from c.in_ok-safe_from.ensures

pub returns : goal.returns
returns g c =
    let facts = c.roots_of-roots.ensures in
    let small : c.args.pools.now.pref.last < 2 ^ 64 = omega arith in
    subst (IsPlanIn c.args.admitted.now (pools_value c.args.pools.now)) (sym c.of.ensures)
    (plan_made c.args.admitted.now facts.admitted facts.decodable facts.rising (pools_value c.args.pools.now) small c.requires.plannable c.in_ok-dump.dump c.in_ok-dump.ensures.slots c.in_ok-dump.ensures.planned
    (map write_value c.in_ok-writes.writes.items) (are_writes g (goal.at.returns g c).In_ok-writes) c.in_ok-safe_from.safe_from c.in_ok-safe_from.ensures c.in_ok-dump.ensures.titles)
