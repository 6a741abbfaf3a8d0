use Rattle.std.proofs.Common.{sym, ◌∙◌, ap, subst}
use Rattle.std.specs.Prelude.{not}
use Rattle.judge_spec.specs.ModelWords.{Cardbus, Ide, Isa, Power, Reset, Snoop, Subtractive, Unclaimed, Unnumbered, Windows}
use Rattle.pci_model.specs.WordsValue.{words_value, vga_value}
use Rattle.pciplan_lists.specs.NameWords.{name_value, IsTooMuch}
use Rattle.pciplan_lists.proofs.ModelWords.{code_too_much, counts_already}
use Rattle.pciplan_lists.proofs.model_words.adds.Goals as goal

pub returns-else-is_none-clause-much : goal.returns-else-is_none-clause-much
returns-else-is_none-clause-much c = λ off.
    subst (λ n. IsTooMuch (words_value c.args.words.now) (name_value n)) (sym c.in-Legacy.is)
    (code_too_much c.args.words.now (vga_value c.in-Legacy.vga) (c.is_none-is_none.ensures ∙ ap not c.if-is_none.false))

pub returns-in-Cardbus-clause-much : goal.returns-in-Cardbus-clause-much
returns-in-Cardbus-clause-much c = λ off.
    subst (λ n. IsTooMuch (words_value c.args.words.now) (name_value n)) (sym c.in-Cardbus.is)
    (counts_already (words_value c.args.words.now) Cardbus (c.sets.ensures.not off))

pub returns-in-Ide-clause-much : goal.returns-in-Ide-clause-much
returns-in-Ide-clause-much c = λ off.
    subst (λ n. IsTooMuch (words_value c.args.words.now) (name_value n)) (sym c.in-Ide.is)
    (counts_already (words_value c.args.words.now) Ide (c.sets-in-Ide.ensures.not off))

pub returns-in-Isa-clause-much : goal.returns-in-Isa-clause-much
returns-in-Isa-clause-much c = λ off.
    subst (λ n. IsTooMuch (words_value c.args.words.now) (name_value n)) (sym c.in-Isa.is)
    (counts_already (words_value c.args.words.now) Isa (c.sets-in-Isa.ensures.not off))

pub returns-in-Power-clause-much : goal.returns-in-Power-clause-much
returns-in-Power-clause-much c = λ off.
    subst (λ n. IsTooMuch (words_value c.args.words.now) (name_value n)) (sym c.in-Power.is)
    (counts_already (words_value c.args.words.now) Power (c.sets-in-Power.ensures.not off))

pub returns-in-Reset-clause-much : goal.returns-in-Reset-clause-much
returns-in-Reset-clause-much c = λ off.
    subst (λ n. IsTooMuch (words_value c.args.words.now) (name_value n)) (sym c.in-Reset.is)
    (counts_already (words_value c.args.words.now) Reset (c.sets-in-Reset.ensures.not off))

pub returns-in-Snoop-clause-much : goal.returns-in-Snoop-clause-much
returns-in-Snoop-clause-much c = λ off.
    subst (λ n. IsTooMuch (words_value c.args.words.now) (name_value n)) (sym c.in-Snoop.is)
    (counts_already (words_value c.args.words.now) Snoop (c.sets-in-Snoop.ensures.not off))

pub returns-in-Subtractive-clause-much : goal.returns-in-Subtractive-clause-much
returns-in-Subtractive-clause-much c = λ off.
    subst (λ n. IsTooMuch (words_value c.args.words.now) (name_value n)) (sym c.in-Subtractive.is)
    (counts_already (words_value c.args.words.now) Subtractive (c.sets-in-Subtractive.ensures.not off))

pub returns-in-Unclaimed-clause-much : goal.returns-in-Unclaimed-clause-much
returns-in-Unclaimed-clause-much c = λ off.
    subst (λ n. IsTooMuch (words_value c.args.words.now) (name_value n)) (sym c.in-Unclaimed.is)
    (counts_already (words_value c.args.words.now) Unclaimed (c.sets-in-Unclaimed.ensures.not off))

pub returns-in-Unnumbered-clause-much : goal.returns-in-Unnumbered-clause-much
returns-in-Unnumbered-clause-much c = λ off.
    subst (λ n. IsTooMuch (words_value c.args.words.now) (name_value n)) (sym c.in-Unnumbered.is)
    (counts_already (words_value c.args.words.now) Unnumbered (c.sets-in-Unnumbered.ensures.not off))

pub returns-in-Windows-clause-much : goal.returns-in-Windows-clause-much
returns-in-Windows-clause-much c = λ off.
    subst (λ n. IsTooMuch (words_value c.args.words.now) (name_value n)) (sym c.in-Windows.is)
    (counts_already (words_value c.args.words.now) Windows (c.sets-in-Windows.ensures.not off))
