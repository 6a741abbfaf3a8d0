use Rattle.std.proofs.Common.{rules, ap, ◌∙◌}
use Rattle.std.proofs.lemmas.List.Sorted.{IsNonDecreasingBy-from_sort_by_key}
use Rattle.pci_picture.specs.Listings.{functions_listed}
use Rattle.pci_picture.proofs.Listings.{by_slot}
use Rattle.pci_picture.proofs.listing.read_functions.Goals as goal

pub returns : goal.returns
returns g c =
    by_slot c.in_ok-functions.functions.items c.sort_by_key.new.self.items c.args.show.now
    (c.in_ok-functions.ensures ∙ ap functions_listed c.as_bytes.ensures.value) c.in_ok-sort_by_key.ensures.permutation
    (IsNonDecreasingBy-from_sort_by_key (λ function. function.number) _ c.in_ok-sort_by_key.ensures.sorted (λ a r q k. search rules))
