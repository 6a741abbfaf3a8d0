use Rattle.std.proofs.Common.{◌≡◌, ℕ, length, refl, arith, sym, ◌∙◌}
use Rattle.std.proofs.lemmas.Bool.{eqb-true}
use Rattle.plan_spec.specs.Plan.{raised_to}
use Rattle.plan_spec.proofs.Planning.Tallies.{greatest_small}
use Rattle.pci_base.specs.WindowKinds.{kind_value}
use Rattle.pci_place.specs.Pools.{pools_value}
use Rattle.pci_place.specs.Above.{system_in}
use Rattle.pci_place.specs.Sorting.{SortedClass}
use Rattle.pci_place.proofs.SortedItems.{sorted_class}
use Rattle.pci_place.proofs.SortedPlaces.{some_greatest}
use Rattle.pci_place.proofs.Walking.{has_places}
use Rattle.pci_place.proofs.place.place_class.Given.{Over}
use Rattle.pci_place.proofs.place.place_class.Goals as goal
use Rattle.pci_place.proofs.place.place_class.Goals.{After-as_slice-sorted}

-- the sorted items, where those on the roots stand from this start on
abbrev sorted_from : (g : Over) (c : After-as_slice-sorted g) (start : ℕ) → start ≡ raised_to c.args.needs.now.greatest c.of-pool.result.first
    → SortedClass (kind_value c.args.class) (length c.args.places.now) start c.as_slice-sorted.result.now
sorted_from g c start =
    sorted_class c.args.admitted.now.roots (system_in c.args.admitted.now) (pools_value c.args.pools.now) (kind_value c.args.class) c.of-pool.result _ _ start _ _ _ c.in_ok-items.ensures.rooted c.requires.plannable
    c.of-pool.ensures c.of-pool.type_inv.1.1.1.0.1 c.requires.needs.greatest c.requires.count c.in_ok-items.ensures.items c.sort_items.ensures.permutation c.in_ok-sort_items.ensures.sorted c.as_slice-sorted.ensures.value

pub returns-then-is_empty-clause-placed : goal.returns-then-is_empty-clause-placed
returns-then-is_empty-clause-placed g c =
    has_places (sorted_from g (goal.at.returns-then-is_empty-clause-placed g c).After-as_slice-sorted _ refl) c.args.places.now (λ n d part among.
    let none = eqb-true (length c.as_slice-sorted.result.now) 0 (sym c.is_empty.ensures ∙ c.if-is_empty.true) in
    let below = among.1 in
    absurd (let impossible : ⊥ = omega (arith, below, none) in impossible))

pub raised-start-requires-clause-some : goal.raised-start-requires-clause-some
raised-start-requires-clause-some g c =
    let some = some_greatest (sorted_from g (goal.at.raised-start-requires-clause-some g c).After-as_slice-sorted _ refl) (grind arith) in
    let is = c.requires.needs.greatest in
    omega (arith, some, is)

pub raised-start-requires-clause-limited : goal.raised-start-requires-clause-limited
raised-start-requires-clause-limited g c =
    let rooted = c.in_ok-items.ensures.rooted in
    let small = greatest_small c.args.admitted.now.roots (system_in c.args.admitted.now) (pools_value c.args.pools.now) (kind_value c.args.class) rooted.system rooted.nested in
    let is = c.requires.needs.greatest in
    omega (arith, small, is)

pub place_sorted-requires : goal.place_sorted-requires
place_sorted-requires g c = sorted_from g (goal.at.place_sorted-requires g c).After-as_slice-sorted _ c.raised-start.ensures.raised

pub returns-clause-placed : goal.returns-clause-placed
returns-clause-placed g c = c.place_sorted.ensures.placed (sorted_from g (goal.at.returns-clause-placed g c).After-as_slice-sorted _ c.raised-start.ensures.raised)

pub returns-clause-others : goal.returns-clause-others
returns-clause-others g c = c.place_sorted.ensures.others (sorted_from g (goal.at.returns-clause-others g c).After-as_slice-sorted _ c.raised-start.ensures.raised)
