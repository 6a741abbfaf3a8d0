use Rattle.settle_laws.proofs.NothingSettled.{nothing_settled, nothing_grows}
use Rattle.settle_laws.proofs.StandingSound.{standing_sound}
use Rattle.settle_laws.proofs.Uncut.{sound_is_uncut}
use Rattle.settle_laws.proofs.switching_laws.standing_systems_are_sound.Goals as goal

pub returns-clause-sound : goal.returns-clause-sound
returns-clause-sound c = standing_sound

pub returns-clause-uncut : goal.returns-clause-uncut
returns-clause-uncut c = sound_is_uncut

pub returns-clause-settled : goal.returns-clause-settled
returns-clause-settled c = λ q untold s is uncut fine.
    let sound = standing_sound q s is uncut in
    (nothing_settled q untold s is.system sound is.stand uncut.left fine, nothing_grows q untold s is.system sound is.stand uncut.left fine)
