use Rattle.std.proofs.Common.{◌≡◌, subst}
use Rattle.std.specs.List.{All}
use Rattle.std.proofs.lemmas.List.{take_all}
use Rattle.std.proofs.lemmas.List.Elements.{All-contains}
use Rattle.pci_tree.specs.declared.region.Region.{Region}
use Rattle.pci_map.proofs.asides.at_register.Goals as goal

pub returns : goal.returns
returns c = λ q listed.
    All-contains (λ (x : Region). x.reg ≡ c.args.reg → ⊥) c.args.regions.now q
    (subst (All (λ (x : Region). x.reg ≡ c.args.reg → ⊥)) (take_all c.loop-region.region-index c.args.regions.now c.loop-region-test.false) c.loop-region.invariant) listed.0 listed.1
