use Rattle.std.proofs.Common.{refl, sym, ◌∙◌}
use Rattle.pci_grow.specs.Grounds.{ground_value}
use Rattle.pci_grow.proofs.Behind.{none_behind_part, added_none}
use Rattle.pci_grow.proofs.ground.add_behind.Goals as goal

pub returns-then-not-is_window-clause-added : goal.returns-then-not-is_window-clause-added
returns-then-not-is_window-clause-added g c = λ held is.
    added_none _ held (none_behind_part (ground_value c.args.ground.now) c.args.item.now held (sym c.is_window.ensures ∙ c.if-not-is_window.true) is)

pub returns-clause-added : goal.returns-clause-added
returns-clause-added g c = λ held is.
    c.in_ok-add_behind_bridge.ensures.added c.args.item.now held refl (sym c.is_window.ensures ∙ c.if-not-is_window.false) is
