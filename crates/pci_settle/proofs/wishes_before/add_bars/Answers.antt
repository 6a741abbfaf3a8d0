use Rattle.std.proofs.Common.{false, get_or, arith}
use Rattle.pci_image.specs.declared.bar.Bar.{Bar}
use Rattle.pci_image.specs.declared.bar.BarKind.TheVariants.{Io}
use Rattle.pci_grow.specs.Located.{located_total}
use Rattle.pci_settle.specs.Before.{bar_weight}
use Rattle.pci_settle.proofs.WishesLists.{bar_added, bars_next, bars_all}
use Rattle.pci_settle.proofs.wishes_before.add_bars.Goals as goal

abbrev blank : Bar
blank = record { reg = 0; kind = Io; prefetch = false; first = 0; last = 0 }

pub bar_before-requires : goal.bar_before-requires
bar_before-requires g c = c.requires c.loop-bar.bar-index _ c.loop-bar-test.true

pub loop-bar-preserved : goal.loop-bar-preserved
loop-bar-preserved g c = λ roots weight n.
    bars_next (bar_weight roots weight n c.args.bus c.args.places.now c.args.kept.now) c.args.bars.now c.loop-bar.bar-index blank
    (located_total roots weight n c.loop-bar.parts.items) (located_total roots weight n c.add.new.parts.items) _ c.loop-bar-test.true
    (c.loop-bar.invariant roots weight n)
    (bar_added roots weight n c.args.bus c.args.places.now c.args.kept.now (get_or c.args.bars.now c.loop-bar.bar-index blank) c.space.result c.bar_before.result
    (located_total roots weight n c.loop-bar.parts.items) (located_total roots weight n c.add.new.parts.items)
    c.space.ensures c.bar_before.ensures (c.in_ok-add.ensures roots weight n))

pub returns : goal.returns
returns g c = λ roots weight n.
    let was = c.loop-bar.invariant roots weight n in
    let none = bars_all (bar_weight roots weight n c.args.bus c.args.places.now c.args.kept.now) c.args.bars.now c.loop-bar.bar-index c.loop-bar-test.false in
    omega (arith, was, none)
