use Rattle.std.proofs.Common.{List, ◌++◌, ap, ◌∙◌}
use Rattle.std.proofs.lemmas.Result.{on_ok_weaker}
use Rattle.pci_tree.specs.declared.region.Region.{Region}
use Rattle.pci_faults.specs.Needed.{needed_among}
use Rattle.pci_faults.proofs.NeededListing.{among_added}
use Rattle.pci_faults.proofs.bars_and_roms.add_in.Goals as goal

pub returns : goal.returns
returns g c = on_ok_weaker c.add_among.result
    (λ appended. among_added c.args.outline.now c.args.bus c.args.space c.in_ok-regions.regions.items c.args.out.now.items c.add_among.new.out.items
    (λ s tree. c.in_ok-regions.ensures s tree.records)
    (appended ∙ ap (λ (l : List Region). c.args.out.now.items ++ needed_among c.args.space l) c.deref.ensures.value)) c.add_among.ensures
