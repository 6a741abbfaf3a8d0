use Rattle.std.proofs.Common.{List, [], ap, ◌∙◌, subst, sym, get_or, arith}
use Rattle.std.proofs.lemmas.Result.{on_ok_weaker}
use Rattle.pci_base.specs.Space.{space_of}
use Rattle.pci_tree.specs.declared.region.Region.{Region}
use Rattle.pci_check.specs.Stops.{reaches_by, AreBusRegionsOfTree}
use Rattle.pci_check.proofs.Clashing.{allowed_at}
use Rattle.pci_faults.specs.declared.shares.Among.TheVariants.{Bus}
use Rattle.pci_faults.specs.declared.shares.Share.{Share}
use Rattle.pci_faults.specs.Shares.{AreShares}
use Rattle.pci_faults.proofs.Claiming.{clashes_added}
use Rattle.pci_faults.proofs.clashes.add_clashes_in.Goals as goal

pub returns : goal.returns
returns g c = on_ok_weaker c.add_told.result
    (clashes_added c.args.board.now.outline.now c.args.bus c.args.space c.as_slice-regions.result.now c.ranges-allowed.result.now
    (subst (λ (l : List Region). AreBusRegionsOfTree c.args.board.now.outline.now c.args.bus (space_of c.args.space) l) (sym c.as_slice-regions.ensures.value) c.in_ok-regions.ensures)
    (allowed_at c.args.board.now.outline.now c.args.board.now.reached.now (space_of c.args.space) c.args.bus c.ranges-allowed.result.now (omega arith)
    (c.ranges-allowed.ensures.same ∙ ap (λ k. get_or (reaches_by c.args.board.now.reached.now k) c.args.bus []) c.furthest.ensures) c.requires)
    c.as_slice.result.now (λ rise. subst (λ (l : List Share). AreShares (Bus c.args.bus) c.as_slice-regions.result.now c.ranges-allowed.result.now l) (sym c.as_slice.ensures.value) (c.in_ok-shared.ensures.exact rise)) c.args.out.now.items c.add_told.new.out.items) c.add_told.ensures
