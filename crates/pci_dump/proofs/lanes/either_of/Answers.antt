use Rattle.std.proofs.Common.{◌∙◌, sym, arith, get_or}
use Rattle.std.proofs.lemmas.Simd.{get_or-zip2, length-zip2}
use Rattle.pci_dump.proofs.SixteenLanes.{either, both_zero, zero_of_both}
use Rattle.pci_dump.proofs.lanes.either_of.Goals as goal

pub returns-clause-long : goal.returns-clause-long
returns-clause-long c = length-zip2 either c.args.one c.args.other (c.fits-one.0 ∙ sym c.fits-other.0) ∙ c.fits-one.0

pub returns-clause-zero : goal.returns-clause-zero
returns-clause-zero c =
    let a = c.fits-one.0 in
    let b = c.fits-other.0 in (
      (λ zero. (
        (λ k below. (both_zero (get_or c.args.one k 0) (get_or c.args.other k 0) (sym (get_or-zip2 either c.args.one c.args.other k 0 0 0 (omega (arith, below, a)) (omega (arith, below, b))) ∙ zero k below)).0),
        (λ k below. (both_zero (get_or c.args.one k 0) (get_or c.args.other k 0) (sym (get_or-zip2 either c.args.one c.args.other k 0 0 0 (omega (arith, below, a)) (omega (arith, below, b))) ∙ zero k below)).1),
      )),
      (λ both k below. get_or-zip2 either c.args.one c.args.other k 0 0 0 (omega (arith, below, a)) (omega (arith, below, b)) ∙ zero_of_both (get_or c.args.one k 0) (get_or c.args.other k 0) (both.0 k below) (both.1 k below)),
    )
