use Rattle.std.proofs.Common.{rules, map, string_bytes, subst}
use Rattle.std.proofs.lemmas.List.Sorted.{IsNonDecreasingBy-from_sort_by_key}
use Rattle.pci_here.specs.Place.{function_place_number}
use Rattle.pci_here.specs.Places.{ArePlacesOfNames}
use Rattle.pci_here.proofs.Read.{shown_then}
use Rattle.pci_here.proofs.places.places_of.Goals as goal

pub returns : goal.returns
returns g c =
    shown_then (g.M.Machine.shown c.args.machine.now) _ _ (λ m told. record {
      names = map string_bytes c.in_ok-names.names.items;
      are_names = told;
      named = c.in_ok-places.places.items;
      are_named = subst (λ names. ArePlacesOfNames (map string_bytes names) c.args.domain c.in_ok-places.places.items) c.as_slice.ensures.value c.in_ok-places.ensures;
      same = c.sort_by_key.ensures.permutation;
      rising = IsNonDecreasingBy-from_sort_by_key function_place_number _ c.in_ok-sort_by_key.ensures.sorted (λ a r q k. search rules);
    }) c.in_ok-names.ensures
