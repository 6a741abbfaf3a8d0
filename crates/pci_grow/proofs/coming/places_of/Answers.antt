use Rattle.std.proofs.Common.{◌∙◌, length, ap, sym, arith}
use Rattle.pci_kept.proofs.Whole.{slice_back}
use Rattle.pci_grow.specs.Grounds.{ground_value}
use Rattle.pci_grow.proofs.Lacking.{one_lacks, none_lacks}
use Rattle.pci_grow.proofs.coming.places_of.Goals as goal

pub returns-then-is_some-clause-none : goal.returns-then-is_some-clause-none
returns-then-is_some-clause-none g c =
    one_lacks c.args.ground.now.around (ground_value c.args.ground.now) c.args.taken.items c.args.items.now c.places_around.new.places c.in_ok-lack.lack c.in_ok-lack.ensures.placing (sym c.is_some.ensures ∙ c.if-is_some.true) c.in_ok-lack.ensures.within

pub returns-clause-some : goal.returns-clause-some
returns-clause-some g c =
    let long = c.in_ok-places.places.ok.0 in
    let even = c.places_around.auto.places ∙ ap length c.as_mut_slice.ensures.value in
    let places = c.in_ok-places.ensures.len in
    none_lacks c.args.ground.now.around (ground_value c.args.ground.now) c.args.taken.items c.args.items.now c.places_around.new.places c.in_ok-lack.lack c.in_ok-lack.ensures.placing (sym c.is_some.ensures ∙ c.if-is_some.false) c.in_ok-lack.ensures.ends
    (omega (arith, long, even, places)) _ (slice_back c.in_ok-places.places.len c.places_around.new.places c.in_ok-places.places.items even (omega (arith, long)))
