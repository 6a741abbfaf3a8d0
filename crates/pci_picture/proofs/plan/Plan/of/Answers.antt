use Rattle.std.proofs.Common.{◌∙◌, arith, List, ap, ap₂, subst, sym}
use Rattle.std.specs.List.Sorted.{IsNonDecreasingBy}
use Rattle.pci_picture.specs.FaultLines.{faults_read}
use Rattle.pci_picture.specs.Keyed.{AreKeysOf}
use Rattle.pci_picture.specs.Looks.{looks_up_to}
use Rattle.pci_picture.specs.Maps.{lines_of_regions}
use Rattle.pci_picture.specs.Tellings.{ranges_of_faults}
use Rattle.pci_picture.specs.declared.heights.Cut.{Cut}
use Rattle.pci_picture.proofs.Marked.{planned_of}
use Rattle.pci_picture.proofs.plan.Plan.of.Goals as goal

pub returns-clause-placed : goal.returns-clause-placed
returns-clause-placed g c = c.in_ok-placed.ensures.regions ∙ c.as_slice-every.ensures.value ∙ c.in_ok-regions.ensures

pub returns-clause-looks : goal.returns-clause-looks
returns-clause-looks g c look =
    c.in_ok-placed.ensures.looks look
    ∙ ap₂ (λ n l. looks_up_to look n l) c.lost_from.ensures (c.as_slice-every.ensures.value ∙ c.in_ok-regions.ensures)

pub returns-clause-planned : goal.returns-clause-planned
returns-clause-planned g c small =
    let heights = c.in_ok-heights.heights in
    let every = c.as_slice-every.result.now in
    let same = c.as_slice-every.ensures.value ∙ c.in_ok-regions.ensures in
    let told =
    c.in_ok-tellings.ensures (λ some. subst (AreKeysOf every) (sym c.as_slice.ensures.value) (c.in_ok-keys.ensures some))
    ∙ ap (λ regions. ranges_of_faults (faults_read c.args.faults.now) (lines_of_regions regions)) same in
    planned_of c.args.site.now.section _ c.saturating_add.result c.args.site.now.y every _ _
    c.in_ok-tellings.tellings.shared.items c.in_ok-tellings.tellings.fits.items c.as_slice-2.result.now c.in_ok-cuts.cuts.items heights.runs.items heights.bottom told
    c.base-base.ensures.exact (omega (arith, c.saturating_add.ensures, c.in_ok-heights.ensures.down, small))
    same c.as_slice-2.ensures.value
    (c.in_ok-heights.ensures.uncut (subst (λ (l : List Cut). IsNonDecreasingBy (λ cut. cut.at) l) (sym c.as_slice-2.ensures.value) c.in_ok-cuts.ensures.sorted) small)
    c.in_ok-cuts.ensures.all
