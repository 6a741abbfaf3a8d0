use Rattle.std.proofs.Common.{sym, ◌∙◌}
use Rattle.pci_grow.specs.Grounds.{ground_value}
use Rattle.pci_grow.proofs.Behind.{no_rows, none_behind, none_behind_part}
use Rattle.pci_grow.proofs.ground.can_hold.Goals as goal

pub returns-then-is_empty : goal.returns-then-is_empty
returns-then-is_empty c = λ off held is.
    none_behind (ground_value c.args.ground.now) c.args.item.now held (no_rows c.args.ground.now.lines.now c.is_empty.result c.is_empty.ensures c.if-is_empty.true) is

pub returns : goal.returns
returns c = λ off held is.
    none_behind_part (ground_value c.args.ground.now) c.args.item.now held (sym c.is_window.ensures ∙ off) is
