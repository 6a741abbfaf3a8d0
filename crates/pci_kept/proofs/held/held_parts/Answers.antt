use Rattle.std.proofs.Common.{◌∙◌, sym}
use Rattle.std.proofs.lemmas.Bool.{eqb-true}
use Rattle.pci_place.specs.Above.{system_in}
use Rattle.pci_first_fit.specs.Lists.{lists_value}
use Rattle.pci_first_fit.specs.Slots.{demand_value}
use Rattle.pci_kept.proofs.Helds.{nothing_held, chosen_sorted, are_held, held_forward}
use Rattle.pci_kept.proofs.held.held_parts.Goals as goal

pub returns-then-is_empty-clause-held : goal.returns-then-is_empty-clause-held
returns-then-is_empty-clause-held g c =
    nothing_held c.args.admitted.now.roots (system_in c.args.admitted.now) (lists_value c.args.lists.now) c.args.kept.now c.args.grown.now c.new-held.result.items (eqb-true _ _ (sym c.is_empty.ensures ∙ c.if-is_empty.true)) c.new-held.ensures.items

pub returns-clause-held : goal.returns-clause-held
returns-clause-held g c = λ q keep rooted lists keeps ranges.
    are_held c.args.admitted.now.roots (demand_value c.args.lists.now) (system_in c.args.admitted.now) c.in_ok-regions.regions.items c.in_ok-regions.ensures c.args.kept.now c.args.grown.now q keep rooted lists keeps ranges c.sort_by_level.new.held.items
    (chosen_sorted c.args.admitted.now.roots (demand_value c.args.lists.now) (system_in c.args.admitted.now) c.in_ok-regions.regions.items c.in_ok-regions.ensures c.args.kept.now c.args.grown.now _ _ c.sort_by_level.new.held.items c.as_slice.result.now c.new-held.ensures.items c.as_slice.ensures.value c.in_ok-add_held.ensures c.sort_by_level.ensures.permutation)

pub returns-clause-order : goal.returns-clause-order
returns-clause-order g c = record {
  order = c.sort_by_level.ensures.order;
  forward = held_forward c.args.admitted.now.roots (demand_value c.args.lists.now) (system_in c.args.admitted.now) c.in_ok-regions.regions.items c.in_ok-regions.ensures c.args.kept.now c.args.grown.now c.requires c.sort_by_level.new.held.items
      (chosen_sorted c.args.admitted.now.roots (demand_value c.args.lists.now) (system_in c.args.admitted.now) c.in_ok-regions.regions.items c.in_ok-regions.ensures c.args.kept.now c.args.grown.now _ _ c.sort_by_level.new.held.items c.as_slice.result.now c.new-held.ensures.items c.as_slice.ensures.value c.in_ok-add_held.ensures c.sort_by_level.ensures.permutation);
}
