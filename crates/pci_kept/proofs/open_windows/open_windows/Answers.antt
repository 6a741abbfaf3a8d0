use Rattle.std.proofs.Common.{◌∙◌}
use Rattle.pci_kept.proofs.Opened.{none_opened}
use Rattle.pci_kept.proofs.open_windows.open_windows.Goals as goal

pub returns-then-anew : goal.returns-then-anew
returns-then-anew c = λ q s tree same. none_opened q s (same ∙ c.if-anew.true)

pub returns-else-anew : goal.returns-else-anew
returns-else-anew c = λ q s tree same. c.all_open.ensures q s tree (same ∙ c.if-anew.false)
