use Rattle.std.proofs.Common.{◌≡◌, arith, sym, ◌∙◌, ap, length, get_or, refl}
use Rattle.pci_base.specs.WindowKinds.{kind_value}
use Rattle.pci_place.specs.Sorting.{SortedClass}
use Rattle.pci_place.proofs.SortedPlaces.{item, place, in_numbers}
use Rattle.pci_place.proofs.Walking.{walk_start, in_table, by_window, by_other, walk_step, all_placed, others_kept}
use Rattle.pci_place.proofs.place.place_sorted.Goals as goal
use Rattle.pci_place.proofs.place.place_sorted.Goals.{Joined-item-group, then-item-group, else-item-group, in-Window, in_default}

-- the item stands at `next`
here : (c : Joined-item-group) (of : SortedClass (kind_value c.args.class) (length c.args.places.now) c.args.start c.args.items.now)
    → c.if-item-group.next ≡ place of (item of c.loop-item.item-index)
here c of =
    let is = (c.loop-item.invariant of).next_at c.loop-item-test.true in
    elim c.if-item-group.branch [
      | then-item-group w ↦ w.next-is ∙ ap (λ n. get_or c.loop-item.starts n 0) w.from.ensures ∙ is.other (λ e. w.if-item-group.true (sym e))
      | else-item-group w ↦ w.next-is ∙ is.same (sym w.if-item-group.false)
    ]

pub loop-item-init : goal.loop-item-init
loop-item-init c = λ of. walk_start of _ _ refl

pub overflow_cast-next : goal.overflow_cast-next
overflow_cast-next c =
    let low = (in_numbers c.requires c.loop-item.item-index c.loop-item-test.true).0 in
    let is = here (goal.at.overflow_cast-next c).Joined-item-group c.requires in
    omega (arith, low, is)

pub overflow_add-next : goal.overflow_add-next
overflow_add-next c =
    let low = (in_numbers c.requires c.loop-item.item-index c.loop-item-test.true).1 in
    let is = here (goal.at.overflow_add-next c).Joined-item-group c.requires in
    omega (arith, low, is)

pub loop-item-preserved : goal.loop-item-preserved
loop-item-preserved c = λ of.
    let before = c.loop-item.invariant of in
    walk_step of _ _ _ _ _ _ c.loop-item-test.true before _ (here (goal.at.loop-item-preserved c).Joined-item-group of) _ _ (in_table of _ _ c.loop-item-test.true c.loop-item.auto.places)
    c.set.ensures.set c.set.ensures.others _ _
    (elim c.match-item.branch [
      | in-Window w ↦ by_window _ _ _ _ _ _ before.room w.in-Window.is w.from-in-Window.ensures (omega arith) w.starts-is
      | in_default w ↦ by_other _ _ _ _ before.room w.in_default.not-Window w.starts-is
    ])
    (elim c.if-item-group.branch [
      | then-item-group w ↦ w.group-is
      | else-item-group w ↦ w.group-is ∙ sym w.if-item-group.false
    ])

pub returns-clause-placed : goal.returns-clause-placed
returns-clause-placed c = λ of. all_placed of _ _ _ _ _ _ (c.loop-item.invariant of) c.loop-item-test.false

pub returns-clause-others : goal.returns-clause-others
returns-clause-others c = λ of. others_kept of _ _ _ _ _ _ (c.loop-item.invariant of) c.loop-item.auto.item-index-end c.loop-item.auto.places
