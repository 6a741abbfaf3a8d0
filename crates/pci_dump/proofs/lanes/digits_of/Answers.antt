use Rattle.std.proofs.Common.{◌≡◌, ◌∙◌, ℕ, List, sym, ap, arith, length, get_or, replicate}
use mathlib.Core.List.{map}
use lib.Lanes.{zip2}
use Rattle.std.proofs.lemmas.List.{length-map, get_or-map}
use Rattle.pci_dump.proofs.SixteenLanes.{both, digit_wrong, wrong_map, right_digit, digit_is_right, digit_number, numbers_of, numbers_map, number_is, at_sixteen, byte_at_lane}
use Rattle.pci_dump.proofs.lanes.digits_of.Goals as goal

pub returns-clause-long : goal.returns-clause-long
returns-clause-long c =
    let cells = c.args.cells in
    let lanes = at_sixteen cells c.fits-cells.0 (λ n. numbers_of cells n ≡ map digit_number cells) (numbers_map cells) in
    ap length lanes ∙ length-map cells digit_number ∙ c.fits-cells.0

pub returns-clause-each : goal.returns-clause-each
returns-clause-each c = λ k d below small e.
    let cells = c.args.cells in
    let long = c.fits-cells.0 in
    let lanes = at_sixteen cells c.fits-cells.0 (λ n. numbers_of cells n ≡ map digit_number cells) (numbers_map cells) in
    ap (λ (l : List ℕ). get_or l k 0) lanes ∙ get_or-map digit_number cells k 0 0 (omega (arith, below, long)) ∙ ap digit_number e ∙ number_is d small

pub returns-clause-zero : goal.returns-clause-zero
returns-clause-zero c =
    let cells = c.args.cells in
    let long = c.fits-cells.0 in
    let lanes = at_sixteen cells long (λ n. zip2 both (numbers_of cells n) (replicate n 240) ≡ map digit_wrong cells) (wrong_map cells) in (
      (λ none k below. right_digit (get_or cells k 0) (byte_at_lane cells k c.fits-cells.1) (sym (ap (λ (l : List ℕ). get_or l k 0) lanes ∙ get_or-map digit_wrong cells k 0 0 (omega (arith, below, long))) ∙ none k below)),
      (λ digits k below. ap (λ (l : List ℕ). get_or l k 0) lanes ∙ get_or-map digit_wrong cells k 0 0 (omega (arith, below, long)) ∙ digit_is_right (get_or cells k 0) (digits k below)),
    )
