use Rattle.settle_laws.proofs.InPlace.{placed_stand}
use Rattle.settle_laws.proofs.NothingSettled.{nothing_settled, nothing_grows}
use Rattle.settle_laws.proofs.HostSound.{lies_in_place, sound_with, sound_without}
use Rattle.settle_laws.proofs.SentLists.{listed_sent, sent_listed}
use Rattle.settle_laws.proofs.host_laws.sound_systems_of_the_host_are_settled.Goals as goal

pub returns-clause-sent : goal.returns-clause-sent
returns-clause-sent c = λ q space bus r gaps some. (λ h a inside. listed_sent q bus space r h a inside, λ sent. sent_listed q bus gaps space r some sent)

pub returns-clause-sound : goal.returns-clause-sound
returns-clause-sound c = λ q s system place left. (sound_without q s system place left, sound_with q s system place left)

pub returns-clause-place : goal.returns-clause-place
returns-clause-place c = λ q s system sound gaps rest. lies_in_place q s system sound gaps rest

pub returns-clause-settled : goal.returns-clause-settled
returns-clause-settled c = λ q untold s system sound gaps rest apart left kept fine.
    let place = lies_in_place q s system sound gaps rest in
    let plain = sound_without q s system place left sound in
    let stand = placed_stand q s system plain place apart untold kept in
    (nothing_settled q untold s system plain stand left fine, nothing_grows q untold s system plain stand left fine)
