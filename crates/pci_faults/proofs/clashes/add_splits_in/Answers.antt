use Rattle.std.proofs.Common.{List, [], ◌∷◌, subst, sym}
use Rattle.std.proofs.lemmas.Result.{on_ok_weaker}
use Rattle.pci_base.specs.Space.{space_of}
use Rattle.pci_tree.specs.declared.region.Region.{Region}
use Rattle.pci_check.specs.Clashes.{AreRootsListed}
use Rattle.pci_check.proofs.Splitting.{whole_space}
use Rattle.pci_faults.specs.declared.shares.Among.TheVariants.{Roots}
use Rattle.pci_faults.specs.declared.shares.Share.{Share}
use Rattle.pci_faults.specs.Shares.{AreShares}
use Rattle.pci_faults.proofs.Claiming.{splits_added}
use Rattle.pci_faults.proofs.clashes.add_splits_in.Goals as goal

pub returns : goal.returns
returns g c = on_ok_weaker c.add_told.result
    (splits_added c.args.outline.now c.args.space c.as_slice-regions.result.now (c.whole.result ∷ [])
    (subst (λ (l : List Region). AreRootsListed c.args.outline.now (space_of c.args.space) l) (sym c.as_slice-regions.ensures.value) c.in_ok-regions.ensures)
    (whole_space (space_of c.args.space) c.whole.result c.whole.ensures.exact)
    c.as_slice.result.now (λ rise. subst (λ (l : List Share). AreShares Roots c.as_slice-regions.result.now (c.whole.result ∷ []) l) (sym c.as_slice.ensures.value) (c.in_ok-shared.ensures.exact rise)) c.args.out.now.items c.add_told.new.out.items) c.add_told.ensures
