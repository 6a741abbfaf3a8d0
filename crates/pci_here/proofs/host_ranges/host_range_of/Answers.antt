use Rattle.std.proofs.Common.{◌≡◌, sym, subst}
use Rattle.std.proofs.lemmas.Bool.{iff_false}
use Rattle.pci_tree.specs.Roots.{buses_of}
use Rattle.pci_here.specs.HostRanges.{IsOfHost}
use Rattle.pci_here.proofs.host_ranges.host_range_of.Goals as goal

pub returns-in_default : goal.returns-in_default
returns-in_default c = λ r is.
    let found = c.in-Some.ensures.only is.told is.is in
    let same : c.in-Some.told ≡ is.told = cc found in
    iff_false c.is_of_host.ensures c.if-is_of_host.false (subst (λ t. IsOfHost c.args.domain (buses_of c.args.roots.now) t) (sym same) is.host)

pub returns-in_default-2 : goal.returns-in_default-2
returns-in_default-2 c = λ r is.
    let found = c.bus_range_of.ensures.only is.told is.is in
    absurd (cc (found, c.in_default.is))
