use Rattle.std.proofs.Common.{◌<◌, length, ap, refl, arith}
use Rattle.std.specs.List.{slice_get}
use Rattle.pci_picture.specs.Cuts.{extents_told}
use Rattle.pci_picture.specs.FaultLines.{faults_read}
use Rattle.pci_picture.specs.Keyed.{told_by_some}
use Rattle.pci_picture.specs.Maps.{lines_of_regions}
use Rattle.pci_picture.specs.Tellings.{fits_by, shared_by}
use Rattle.pci_picture.proofs.Told.{all_told, index_more}
use Rattle.pci_picture.proofs.tellings.tellings_of.Goals as goal

pub loop-index-init : goal.loop-index-init
loop-index-init g c = record {
  shared = ap extents_told c.new.ensures.items;
  fits = λ are. ap extents_told c.new-2.ensures.items;
}

pub loop-index-preserved : goal.loop-index-preserved
loop-index-preserved g c =
    let said = faults_read c.args.faults.now in
    let indexes = c.deref-index-items.result.now in
    let i = c.loop-index.index-index in
    let long = ap length c.deref-index-items.ensures.value in
    let inside : i < length indexes = omega (arith, c.loop-index-test.true) in
    record {
      shared =
          index_more (λ index. told_by_some (shared_by c.digits_of-digits.result) (slice_get said index)) indexes i _ _ _ inside refl
          c.loop-index.invariant.shared c.in_ok-add_fault.ensures.shared;
      fits = λ are.
          index_more (λ index. told_by_some (fits_by c.digits_of-digits.result (lines_of_regions c.args.regions.now)) (slice_get said index)) indexes i _ _ _ inside refl
          (c.loop-index.invariant.fits are)
          (c.in_ok-add_fault.ensures.fits c.args.regions.now (are (c.in_ok-about.ensures.named (omega (arith, long, inside)))));
    }

pub returns : goal.returns
returns g c are =
    all_told (faults_read c.args.faults.now) (lines_of_regions c.args.regions.now) c.loop-index.tellings.shared.items c.loop-index.tellings.fits.items c.digits_of-digits.result
    c.loop-index.index-index c.in_ok-about.about.items c.deref-index-items.result.now c.in_ok-about.ensures.exact c.deref-index-items.ensures.value
    c.digits_of-digits.ensures (omega (arith, c.loop-index-test.false)) c.loop-index.invariant.shared (c.loop-index.invariant.fits are)
