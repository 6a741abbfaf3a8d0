use Rattle.std.proofs.lemmas.Bool.{both_ways}
use Rattle.settle_laws.specs.StartLaws.{is_on_from_above}
use Rattle.settle_laws.proofs.InPlace.{all_from_above, placed_stand, standing_apart, standing_lies}
use Rattle.settle_laws.proofs.NothingSettled.{nothing_settled, nothing_grows}
use Rattle.settle_laws.proofs.start_laws.sound_starts_in_place_are_settled.Goals as goal

pub returns-clause-enabled : goal.returns-clause-enabled
returns-clause-enabled c = λ q s system nested place on r t in_r in_t beside differ off. absurd (both_ways (is_on_from_above s r) off (all_from_above q s system nested place on r in_r))

pub returns-clause-stands : goal.returns-clause-stands
returns-clause-stands c = λ q untold s system sound kept.
    (λ all. (standing_lies q s system sound all, standing_apart q s system sound all), λ (place, apart) r listed. placed_stand q s system sound place apart untold kept r listed)

pub returns-clause-settled : goal.returns-clause-settled
returns-clause-settled c = λ q untold s system sound kept place apart left fine.
    let stand = placed_stand q s system sound place apart untold kept in
    (nothing_settled q untold s system sound stand left fine, nothing_grows q untold s system sound stand left fine)
