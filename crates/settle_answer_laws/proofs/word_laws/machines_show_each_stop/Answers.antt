use Rattle.settle_answer_laws.proofs.WordsSettled.{machines_show_stops}
use Rattle.settle_answer_laws.proofs.word_laws.machines_show_each_stop.Goals as goal

pub returns : goal.returns
returns c = record { shown = machines_show_stops }
