use Rattle.settle_answer_laws.proofs.SoundStops.{words_can_stop}
use Rattle.settle_answer_laws.proofs.word_laws.words_take_each_stop_as_sound.Goals as goal

pub returns : goal.returns
returns c = record { sound = words_can_stop }
