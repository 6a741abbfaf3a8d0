use Rattle.std.proofs.Common.{rules, ◌≡◌, min, sym, subst, refl}
use Rattle.pci_grow.specs.LastPlaces.{IsDescended}
use Rattle.pci_grow.proofs.Late.{start_from}
use Rattle.pci_grow.proofs.last_place.last_start.Goals as goal

pub returns-clause-start : goal.returns-clause-start
returns-clause-start c =
    let is : c.min.result ≡ min c.args.range.last c.args.extent.highest = search rules in
    record {
      none = refl;
      descended = λ taken. subst (λ a. IsDescended c.args.range taken c.args.extent a 0) (sym c.in_ok-at.ensures.1)
          (start_from _ _ _ c.requires.extent is c.in_ok-at.ensures.0 taken);
    }
