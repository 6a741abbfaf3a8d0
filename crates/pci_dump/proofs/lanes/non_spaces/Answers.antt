use Rattle.std.proofs.Common.{◌≡◌, ◌∙◌, ℕ, List, sym, ap, arith, length, get_or, replicate}
use mathlib.Core.List.{map}
use lib.Lanes.{zip2}
use Rattle.std.proofs.lemmas.List.{length-map, get_or-map}
use Rattle.pci_dump.proofs.SixteenLanes.{minus, less_32, spaces_map, same_lane, at_sixteen, byte_at_lane}
use Rattle.pci_dump.proofs.lanes.non_spaces.Goals as goal

pub returns-clause-long : goal.returns-clause-long
returns-clause-long c =
    let cells = c.args.cells in
    let lanes = at_sixteen cells c.fits-cells.0 (λ n. zip2 minus cells (replicate n 32) ≡ map less_32 cells) (spaces_map cells) in
    ap length lanes ∙ length-map cells less_32 ∙ c.fits-cells.0

pub returns-clause-zero : goal.returns-clause-zero
returns-clause-zero c =
    let cells = c.args.cells in
    let long = c.fits-cells.0 in
    let lanes = at_sixteen cells long (λ n. zip2 minus cells (replicate n 32) ≡ map less_32 cells) (spaces_map cells) in (
      (λ none k below. same_lane (get_or cells k 0) 32 (byte_at_lane cells k c.fits-cells.1) (omega arith) (sym (ap (λ (l : List ℕ). get_or l k 0) lanes ∙ get_or-map less_32 cells k 0 0 (omega (arith, below, long))) ∙ none k below)),
      (λ spaces k below. ap (λ (l : List ℕ). get_or l k 0) lanes ∙ get_or-map less_32 cells k 0 0 (omega (arith, below, long)) ∙ ap less_32 (spaces k below)),
    )
