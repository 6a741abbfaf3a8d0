use Rattle.std.proofs.Common.{◌∙◌, ap, arith, length, map, subst, sym}
use Rattle.std.specs.List.{All}
use Rattle.pci_spec.specs.Window.{page_size}
use Rattle.settle_spec.specs.Items.{in_turn}
use Rattle.pci_base.specs.WindowKinds.{kind_value}
use Rattle.pci_first_fit.specs.Slots.{spare_by}
use Rattle.pci_first_fit.specs.Spots.{extent_value, IsExtent}
use Rattle.pci_first_fit.specs.Placings.{item_extent}
use Rattle.pci_first_fit.specs.Turns.{extent_of_item}
use Rattle.pci_first_fit.specs.Windows.{IsSpareAdded}
use Rattle.pci_first_fit.proofs.ItemExtents.{extents_lawful, extents_some, around_turn, if_ok_by}
use Rattle.pci_first_fit.proofs.Marked.{some_page}
use Rattle.pci_first_fit.proofs.Spares.{large_around}
use Rattle.pci_first_fit.proofs.window.window_around.Goals as goal

pub add_spare-requires : goal.add_spare-requires
add_spare-requires g c =
    extents_lawful c.args.items.now.items c.sort_items.new.items.items c.sort_items.ensures.permutation c.in_ok-extents.extents.items
    (c.in_ok-extents.ensures ∙ ap (map extent_of_item) c.as_slice.ensures.value) c.requires

pub returns-then-not-branch-clause-around : goal.returns-then-not-branch-clause-around
returns-then-not-branch-clause-around g c value valued rise =
    let class = kind_value c.args.class in
    let spare = spare_by class c.args.wanted c.args.highest in
    large_around (page_size class) c.args.highest spare (map item_extent (in_turn (map value c.args.items.now.items))) (some_page class)
    (subst (IsSpareAdded c.in_ok-extents.extents.items c.add_spare.new.extents.items spare) c.if-not-branch.true c.in_ok-add_spare.ensures.added)

pub extent_around-requires : goal.extent_around-requires
extent_around-requires g c = subst (All IsExtent) (sym c.as_slice-2.ensures.value) c.add_spare.ensures.lawful

pub returns-clause-around : goal.returns-clause-around
returns-clause-around g c =
    let class = kind_value c.args.class in
    let spare = spare_by class c.args.wanted c.args.highest in
    if_ok_by _ _ c.extent_around.result
    (λ window is value valued rise.
    around_turn c.args.items.now.items c.sort_items.new.items.items c.sort_items.ensures.permutation c.in_ok-extents.extents.items
    (c.in_ok-extents.ensures ∙ ap (map extent_of_item) c.as_slice.ensures.value)
    (page_size class) c.args.highest spare window (map extent_value c.as_slice-2.result.now)
    (ap (map extent_value) c.as_slice-2.ensures.value
    ∙ subst (IsSpareAdded c.in_ok-extents.extents.items c.add_spare.new.extents.items spare) c.if-not-branch.false c.in_ok-add_spare.ensures.added)
    is value valued (c.in_ok-sort_items.ensures.turn value valued rise))
    c.extent_around.ensures.around

pub returns-clause-some : goal.returns-clause-some
returns-clause-some g c some =
    let own = extents_some c.args.items.now.items c.sort_items.new.items.items c.sort_items.ensures.permutation c.in_ok-extents.extents.items
    (c.in_ok-extents.ensures ∙ ap (map extent_of_item) c.as_slice.ensures.value) some in
    let more = c.add_spare.ensures.some in
    let all = ap length c.as_slice-2.ensures.value in
    c.extent_around.ensures.some (omega (arith, own, more, all))
