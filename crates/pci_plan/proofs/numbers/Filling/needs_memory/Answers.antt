use Rattle.std.proofs.Common.{◌≡◌, ◌∙◌, sym, ◌||◌}
use Rattle.pci_spec.specs.Window.{MemoryWindow, PrefetchWindow}
use Rattle.pci_plan.specs.Fillings.{FillingOf}
use Rattle.pci_plan.proofs.FilledCommand.{or_first, or_second, memory_part, memory_part_is, opens}
use Rattle.pci_plan.proofs.numbers.Filling.needs_memory.Goals as goal
use Rattle.pci_plan.proofs.numbers.Filling.needs_memory.Goals.{Joined-has_memory_part, then-has_memory_part, else-has_memory_part}

-- the tests but for the prefetchable window
either : (c : Joined-has_memory_part) (of : FillingOf c.args.self.now) → c.if-has_memory_part.value ≡ (memory_part c.args.self.now of || opens c.args.self.now of MemoryWindow)
either c of =
    let part = c.has_memory_part.ensures ∙ memory_part_is c.args.self.now of in
    elim c.if-has_memory_part.branch [
      | then-has_memory_part w ↦ or_first _ _ _ (w.value-is ∙ part) (w.value-is ∙ w.if-has_memory_part.true)
      | else-has_memory_part w ↦ or_second _ _ _ (sym part ∙ w.if-has_memory_part.false) (w.value-is ∙ w.is_open.ensures of)
    ]

pub returns-then-is_open : goal.returns-then-is_open
returns-then-is_open c of = or_first _ (opens c.args.self.now of PrefetchWindow) _ (either (goal.at.returns-then-is_open c).Joined-has_memory_part of) c.if-is_open.true

pub returns-else-is_open : goal.returns-else-is_open
returns-else-is_open c of = or_second _ _ _ (sym (either (goal.at.returns-else-is_open c).Joined-has_memory_part of) ∙ c.if-is_open.false) (c.is_open-else-is_open.ensures of)
