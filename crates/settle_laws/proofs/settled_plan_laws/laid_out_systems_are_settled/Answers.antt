use Rattle.settle_laws.proofs.NothingSettled.{nothing_settled, nothing_grows}
use Rattle.settle_laws.proofs.PlannedStanding.{all_stand, leaves_nothing}
use Rattle.std.proofs.lemmas.Bool.{both_ways}
use Rattle.settle_spec.specs.Parts.{has_left}
use Rattle.settle_laws.proofs.settled_plan_laws.laid_out_systems_are_settled.Goals as goal
use Rattle.pci_spec.specs.System.{Function, Io, is_space_on}
use Rattle.std.specs.List.{Contains}
use Rattle.std.proofs.Common.{◌≡◌, true, false}

pub returns-clause-stands : goal.returns-clause-stands
returns-clause-stands c = λ q untold t pools system sound laid good has r listed. all_stand q t pools system sound laid has good untold r listed

pub returns-clause-left : goal.returns-clause-left
returns-clause-left c = λ q t pools system sound laid has f listed. leaves_nothing q t pools system sound laid has f listed

pub returns-clause-settled : goal.returns-clause-settled
returns-clause-settled c = λ q untold t pools system sound laid good has fine.
    let stand = all_stand q t pools system sound laid has good untold in
    let off : (f : Function) → Contains t f → has_left q t f ≡ true → is_space_on f Io ≡ false = λ f listed left. absurd (both_ways (has_left q t f) (leaves_nothing q t pools system sound laid has f listed) left) in
    (nothing_settled q untold t system sound stand off fine, nothing_grows q untold t system sound stand off fine)
