use Rattle.judge_spec.proofs.MapDetermined.{lines_are_determined, map_is_determined, text_is_determined}
use Rattle.judge_spec.proofs.map_determined_laws.maps_are_determined.Goals as goal

pub returns : goal.returns
returns c = record { lines = lines_are_determined; map = map_is_determined; text = text_is_determined }
