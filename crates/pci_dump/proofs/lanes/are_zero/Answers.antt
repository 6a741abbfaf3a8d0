use Rattle.std.proofs.Common.{◌≡◌, ◌∙◌, ◌%◌, ◌^◌, sym, ap, replicate, eqb}
use mathlib.Core.List.{map}
use lib.Lanes.{zip2, mask_l, top}
use Rattle.std.proofs.lemmas.Bool.{false≢true}
use Rattle.pci_dump.proofs.SixteenLanes.{same, zero_test, zeros_map, all_set, set_all, is_zero, passes_zero, at_sixteen, byte_at_lane}
use Rattle.pci_dump.proofs.lanes.are_zero.Goals as goal

pub returns-clause-yes : goal.returns-clause-yes
returns-clause-yes c = λ yes k below.
    let cells = c.args.cells in
    let mask = at_sixteen cells c.fits-cells.0 (λ n. map (top 7) (zip2 same cells (replicate n 0)) ≡ map zero_test cells) (zeros_map cells) in
    is_zero _ (byte_at_lane cells k c.fits-cells.1) (all_set zero_test cells c.fits-cells.0 (sym (ap (λ ms. eqb (mask_l ms % 2 ^ 64) 65535) mask) ∙ yes) k below)

pub returns-clause-no : goal.returns-clause-no
returns-clause-no c = λ no each.
    let cells = c.args.cells in
    let mask = at_sixteen cells c.fits-cells.0 (λ n. map (top 7) (zip2 same cells (replicate n 0)) ≡ map zero_test cells) (zeros_map cells) in
    false≢true (sym no ∙ ap (λ ms. eqb (mask_l ms % 2 ^ 64) 65535) mask ∙ set_all zero_test cells c.fits-cells.0 (λ k below. passes_zero _ (each k below)))
