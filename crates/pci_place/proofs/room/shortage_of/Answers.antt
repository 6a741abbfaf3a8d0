use Rattle.std.proofs.Common.{arith, ◌∙◌, ap}
use Rattle.pci_spec.specs.Decoded.{Range}
use Rattle.plan_spec.proofs.Planning.Tallies.{greatest_small}
use Rattle.pci_base.specs.WindowKinds.{kind_value}
use Rattle.pci_place.specs.Pools.{pools_value}
use Rattle.pci_place.specs.Above.{system_in}
use Rattle.pci_place.proofs.RootNeeds.{need_is, needs_limited, unfit_greatest, shortage_is}
use Rattle.pci_place.proofs.room.shortage_of.Goals as goal

pub raised-start-requires-clause-some : goal.raised-start-requires-clause-some
raised-start-requires-clause-some g c =
    unfit_greatest c.args.admitted.now.roots (system_in c.args.admitted.now) (pools_value c.args.pools.now) (kind_value c.args.class)
    c.needs_of.new.needs.greatest c.needs_of.ensures.greatest c.requires

pub raised-start-requires-clause-limited : goal.raised-start-requires-clause-limited
raised-start-requires-clause-limited g c =
    let admitted = c.outline.ensures.admitted in
    let small = greatest_small c.args.admitted.now.roots (system_in c.args.admitted.now) (pools_value c.args.pools.now) (kind_value c.args.class) admitted.system admitted.nested in
    let is = c.needs_of.ensures.greatest in
    omega (arith, small, is)

pub need_of_roots-needed-requires : goal.need_of_roots-needed-requires
need_of_roots-needed-requires g c =
    needs_limited c.args.admitted.now.roots (system_in c.args.admitted.now) (pools_value c.args.pools.now) (kind_value c.args.class)
    c.needs_of.new.needs.of_bus c.needs_of.ensures.size c.needs_of.ensures.need

pub returns-clause-lacking : goal.returns-clause-lacking
returns-clause-lacking g c =
    let roots = c.args.admitted.now.roots in
    let s = system_in c.args.admitted.now in
    let pools = pools_value c.args.pools.now in
    let class = kind_value c.args.class in
    let needs = c.needs_of.new.needs in
    let need = need_is roots s pools class c.need_of_roots-needed.result c.roots.result.flags needs.of_bus c.need_of_roots-needed.ensures.sum (c.roots.ensures ∙ c.outline.ensures.roots) c.needs_of.ensures.need in
    shortage_is roots s pools class needs.greatest c.of-pool.result.first c.from.result (record { needed = c.need_of_roots-needed.result; start = c.raised-start.result; available = c.saturating_sub.result })
    need c.needs_of.ensures.greatest (ap (λ (x : Range). x.first) c.of-pool.ensures) (c.from.ensures ∙ ap (λ (x : Range). x.last) c.of-pool.ensures) c.raised-start.ensures.raised c.saturating_sub.ensures
