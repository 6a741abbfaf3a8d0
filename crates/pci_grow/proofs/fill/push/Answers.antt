use Rattle.std.proofs.Common.{◌++◌, ◌∷◌, [], ◌∙◌, ap, sym, Vec}
use Rattle.pci_base.specs.declared.range.Range.{Range}
use Rattle.pci_grow.proofs.Filled.{pushed_is}
use Rattle.pci_grow.proofs.fill.push.Goals as goal

pub returns-clause-pushed : goal.returns-clause-pushed
returns-clause-pushed g c =
    pushed_is c.args.rows.now c.args.row c.requires c.index-rows-row.result c.push.new.self c.index-rows-row.is c.args.range
    (c.in_ok-push.ensures.items ∙ ap (λ (v : Vec Range g.row.A.Denot). v.items ++ c.args.range ∷ []) (sym c.index-rows-row.is))
