use Rattle.std.proofs.Common.{◌≡◌, ◌∙◌, ℕ, List, sym, ap, arith, length, get_or, replicate}
use lib.Lanes.{zip2}
use Rattle.std.proofs.lemmas.Simd.{get_or-zip2, length-zip2}
use Rattle.pci_dump.proofs.SixteenLanes.{either, shifted, join, joined, join_is, at_sixteen}
use Rattle.pci_dump.proofs.lanes.bytes_of.Goals as goal

pub returns-clause-long : goal.returns-clause-long
returns-clause-long c =
    let lanes = at_sixteen c.args.high c.fits-high.0 (λ n. zip2 either (zip2 shifted c.args.high (replicate n 4)) c.args.low ≡ zip2 join c.args.high c.args.low) (joined c.args.high c.args.low) in
    ap length lanes ∙ length-zip2 join c.args.high c.args.low (c.fits-high.0 ∙ sym c.fits-low.0) ∙ c.fits-high.0

pub returns-clause-each : goal.returns-clause-each
returns-clause-each c = λ k v below small high low.
    let lanes = at_sixteen c.args.high c.fits-high.0 (λ n. zip2 either (zip2 shifted c.args.high (replicate n 4)) c.args.low ≡ zip2 join c.args.high c.args.low) (joined c.args.high c.args.low) in
    let h = c.fits-high.0 in
    let l = c.fits-low.0 in
    ap (λ (r : List ℕ). get_or r k 0) lanes ∙ get_or-zip2 join c.args.high c.args.low k 0 0 0 (omega (arith, below, h)) (omega (arith, below, l)) ∙ (λ i. join (high i) (low i)) ∙ join_is v small
