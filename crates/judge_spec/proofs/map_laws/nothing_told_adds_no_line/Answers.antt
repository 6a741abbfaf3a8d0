use Rattle.judge_spec.proofs.NothingTold.{no_range_at}
use Rattle.judge_spec.specs.ToldClaims.{nothing_told}
use Rattle.judge_spec.specs.ToldRegion.{told_name}
use Rattle.judge_spec.specs.Regions.{OfLine}
use Rattle.judge_spec.proofs.Having.{of_region}
use Rattle.judge_spec.proofs.MapNothing.{bars_alone_are_off}
use Rattle.judge_spec.proofs.map_laws.nothing_told_adds_no_line.Goals as goal

pub returns-clause-lines : goal.returns-clause-lines
returns-clause-lines c = λ asleep given roots s m x is has. no_range_at asleep (told_name x) x.told (of_region (nothing_told asleep) given roots s m is (OfLine x) has).named

pub returns-clause-off : goal.returns-clause-off
returns-clause-off c = bars_alone_are_off
