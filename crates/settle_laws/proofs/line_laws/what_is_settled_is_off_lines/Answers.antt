use Rattle.settle_laws.proofs.Told.OffLines.{ends_off, settled_off_lines}
use Rattle.settle_laws.proofs.line_laws.what_is_settled_is_off_lines.Goals as goal

pub returns : goal.returns
returns c = record {
  ends = λ q s k can forward f p t x ends is_told keeps. ends_off q s k can forward f p t x ends is_told keeps;
  parts = λ q s k can forward r x has is_told keeps. settled_off_lines q s k can forward r x has is_told keeps;
}
