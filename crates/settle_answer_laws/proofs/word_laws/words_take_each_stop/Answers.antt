use Rattle.settle_answer_laws.proofs.WordsSettled.{words_take_stops}
use Rattle.settle_answer_laws.proofs.word_laws.words_take_each_stop.Goals as goal

pub returns : goal.returns
returns c = record { taken = words_take_stops }
