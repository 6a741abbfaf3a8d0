use Rattle.std.proofs.Common.{arith, ◌∙◌, ap}
use Rattle.pci_spec.specs.Decoded.{Range}
use Rattle.plan_spec.proofs.Planning.Tallies.{greatest_small}
use Rattle.pci_base.specs.WindowKinds.{kind_value}
use Rattle.pci_place.specs.Pools.{pools_value}
use Rattle.pci_place.specs.Above.{system_in}
use Rattle.pci_place.proofs.RootNeeds.{need_is, some_greatest, fits_none, fits_some}
use Rattle.pci_place.proofs.room.has_room.Goals as goal

pub raised-requires-clause-some : goal.raised-requires-clause-some
raised-requires-clause-some g c =
    let need = need_is c.args.admitted.now.roots (system_in c.args.admitted.now) (pools_value c.args.pools.now) (kind_value c.args.class)
    c.need_of_roots-need.result c.roots.result.flags c.args.needs.now.of_bus c.need_of_roots-need.ensures.sum (c.roots.ensures ∙ c.outline.ensures.roots) c.requires.need in
    some_greatest _ _ _ _ c.need_of_roots-need.result c.args.needs.now.greatest need c.if-need-eq0.false c.requires.greatest

pub raised-requires-clause-limited : goal.raised-requires-clause-limited
raised-requires-clause-limited g c =
    let admitted = c.outline.ensures.admitted in
    let small = greatest_small c.args.admitted.now.roots (system_in c.args.admitted.now) (pools_value c.args.pools.now) (kind_value c.args.class) admitted.system admitted.nested in
    let is = c.requires.greatest in
    omega (arith, small, is)

pub returns-then-need-eq0 : goal.returns-then-need-eq0
returns-then-need-eq0 g c =
    let need = need_is c.args.admitted.now.roots (system_in c.args.admitted.now) (pools_value c.args.pools.now) (kind_value c.args.class)
    c.need_of_roots-need.result c.roots.result.flags c.args.needs.now.of_bus c.need_of_roots-need.ensures.sum (c.roots.ensures ∙ c.outline.ensures.roots) c.requires.need in
    fits_none c.args.admitted.now.roots (system_in c.args.admitted.now) (pools_value c.args.pools.now) (kind_value c.args.class) c.need_of_roots-need.result need c.if-need-eq0.true

pub returns-else-need-eq0 : goal.returns-else-need-eq0
returns-else-need-eq0 g c =
    let need = need_is c.args.admitted.now.roots (system_in c.args.admitted.now) (pools_value c.args.pools.now) (kind_value c.args.class)
    c.need_of_roots-need.result c.roots.result.flags c.args.needs.now.of_bus c.need_of_roots-need.ensures.sum (c.roots.ensures ∙ c.outline.ensures.roots) c.requires.need in
    fits_some c.args.admitted.now.roots (system_in c.args.admitted.now) (pools_value c.args.pools.now) (kind_value c.args.class) c.need_of_roots-need.result c.args.needs.now.greatest c.of-pool.result.first c.from.result c.raised.result need c.if-need-eq0.false c.requires.greatest
    (ap (λ (x : Range). x.first) c.of-pool.ensures) (c.from.ensures ∙ ap (λ (x : Range). x.last) c.of-pool.ensures) c.raised.ensures.raised
