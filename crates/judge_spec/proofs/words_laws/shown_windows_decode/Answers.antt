use Rattle.judge_spec.proofs.ShownWindows.{shown_windows_are_lawful, shown_windows_keep_pages}
use Rattle.judge_spec.proofs.words_laws.shown_windows_decode.Goals as goal

pub returns : goal.returns
returns c = record { lawful = shown_windows_are_lawful; pages = shown_windows_keep_pages }
