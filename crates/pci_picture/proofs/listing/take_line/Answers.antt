use Rattle.std.proofs.Common.{◌-◌, Some, is_some, refl, arith, sym, ap, ◌∙◌}
use Rattle.pci_picture.specs.Listings.{bridge_with}
use Rattle.pci_picture.specs.Roots.{listed_function}
use Rattle.pci_picture.proofs.Listings.{line_buses}
use Rattle.pci_picture.proofs.listing.take_line.Goals as goal

pub returns-then-count-ne0 : goal.returns-then-count-ne0
returns-then-count-ne0 g c =
    line_buses c.args.functions.now.items _ _ c.index_mut.result.now (c.len-count.result - 1) c.args.line.now refl
    (omega arith) c.index_mut.ensures.value (ap (bridge_with (listed_function c.index_mut.result.now)) c.in-Some-buses_of.ensures.told)
    (sym c.function_of.ensures.some ∙ ap is_some c.in_default.is) (sym c.buses_of.ensures.some ∙ ap is_some c.in-Some-buses_of.is)
