use Rattle.std.proofs.Common.{◌++◌, map, ap, sym, ◌∙◌}
use Rattle.settle_spec.specs.Growth.{place_around}
use Rattle.pci_base.specs.Ranges.{decoded_range_of}
use Rattle.pci_first_fit.specs.Spots.{extent_value}
use Rattle.pci_grow.proofs.around.take_one.Goals as goal

pub returns-clause-place : goal.returns-clause-place
returns-clause-place g c = λ held is.
    c.in_ok-place.ensures.place
    ∙ ap (λ e. place_around (decoded_range_of c.args.ground.now.around.window) (decoded_range_of c.args.ground.now.around.reach) (map decoded_range_of c.args.taken.now.items) (extent_value e)) c.search_for-search.ensures.extent
    ∙ ap (λ xs. place_around (decoded_range_of c.args.ground.now.around.window) (decoded_range_of c.args.ground.now.around.reach) (xs ++ map decoded_range_of c.args.taken.now.items) (extent_value c.args.item.now.extent)) (sym (c.can_hold.ensures c.if-can_hold.false held is))
