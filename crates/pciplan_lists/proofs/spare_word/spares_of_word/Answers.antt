use Rattle.std.proofs.Common.{Some, None, ℕ, sym, subst, MatchOption}
use Rattle.pci_base.specs.declared.window_kind.ByKind.{ByKind}
use Rattle.pciplan_lists.specs.SpareWords.{IsSpareWord}
use Rattle.pciplan_lists.proofs.SpareWords.{no_prefetchable, more_left, sizes_only, sizes_said}
use Rattle.pciplan_lists.proofs.spare_word.spares_of_word.Goals as goal

pub returns-in_err-prefetchable-clause-word : goal.returns-in_err-prefetchable-clause-word
returns-in_err-prefetchable-clause-word c =
    subst (λ r. MatchOption r ((sizes : ByKind ℕ) → IsSpareWord c.args.word.now sizes → ⊥) (λ sizes. IsSpareWord c.args.word.now sizes))
    (sym c.from_residual-in_err-prefetchable.ensures)
    (no_prefetchable c.args.word c.in_ok-io.io c.in_ok-io.left c.in_ok-io.ensures c.in_ok-memory.memory c.in_ok-memory.left c.in_ok-memory.ensures
    c.in_err-prefetchable.ensures)

pub returns-in_err-prefetchable-clause-only : goal.returns-in_err-prefetchable-clause-only
returns-in_err-prefetchable-clause-only c = λ sizes are.
    absurd (no_prefetchable c.args.word c.in_ok-io.io c.in_ok-io.left c.in_ok-io.ensures c.in_ok-memory.memory c.in_ok-memory.left c.in_ok-memory.ensures
    c.in_err-prefetchable.ensures sizes are)

pub returns-in-Some-clause-word : goal.returns-in-Some-clause-word
returns-in-Some-clause-word c = λ sizes are.
    more_left c.args.word c.in_ok-io.io c.in_ok-io.left c.in_ok-io.ensures c.in_ok-memory.memory c.in_ok-memory.left c.in_ok-memory.ensures
    c.in_ok-prefetchable.prefetchable c.in_ok-prefetchable.left c.in_ok-prefetchable.ensures c.in-Some.field-0 c.in-Some.is sizes are

pub returns-in-Some-clause-only : goal.returns-in-Some-clause-only
returns-in-Some-clause-only c = λ sizes are.
    absurd (more_left c.args.word c.in_ok-io.io c.in_ok-io.left c.in_ok-io.ensures c.in_ok-memory.memory c.in_ok-memory.left c.in_ok-memory.ensures
    c.in_ok-prefetchable.prefetchable c.in_ok-prefetchable.left c.in_ok-prefetchable.ensures c.in-Some.field-0 c.in-Some.is sizes are)

pub returns-in-None-clause-word : goal.returns-in-None-clause-word
returns-in-None-clause-word c =
    sizes_said c.args.word c.in_ok-io.io c.in_ok-io.left c.in_ok-io.ensures c.in_ok-memory.memory c.in_ok-memory.left c.in_ok-memory.ensures
    c.in_ok-prefetchable.prefetchable c.in_ok-prefetchable.left c.in_ok-prefetchable.ensures c.in-None.is

pub returns-in-None-clause-only : goal.returns-in-None-clause-only
returns-in-None-clause-only c =
    sizes_only c.args.word c.in_ok-io.io c.in_ok-io.left c.in_ok-io.ensures c.in_ok-memory.memory c.in_ok-memory.left c.in_ok-memory.ensures
    c.in_ok-prefetchable.prefetchable c.in_ok-prefetchable.left c.in_ok-prefetchable.ensures
