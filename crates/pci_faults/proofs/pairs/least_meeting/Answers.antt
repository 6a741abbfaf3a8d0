use Rattle.std.proofs.Common.{sym, subst}
use Rattle.std.specs.Prelude.{MatchOption, ℕ}
use Rattle.pci_faults.specs.declared.shares.Among.{Among}
use Rattle.pci_faults.specs.Clashes.{Meet, IsLeastOfTwo}
use Rattle.pci_faults.proofs.Odds.{of_a_bus}
use Rattle.pci_faults.proofs.pairs.least_meeting.Goals as goal

pub returns-in-Bus : goal.returns-in-Bus
returns-in-Bus g c =
    subst (λ (among : Among). MatchOption c.least_at_odds.result ((a : ℕ) → Meet among c.args.first.now c.args.second.now a → ⊥) (λ a. IsLeastOfTwo among c.args.first.now c.args.second.now a)) (sym c.in-Bus.is)
    (of_a_bus c.in-Bus.field-0 c.args.first.now c.args.second.now c.least_at_odds.result c.least_at_odds.ensures)

pub returns-in-Roots : goal.returns-in-Roots
returns-in-Roots g c =
    subst (λ (among : Among). MatchOption c.least_of_buses.result ((a : ℕ) → Meet among c.args.first.now c.args.second.now a → ⊥) (λ a. IsLeastOfTwo among c.args.first.now c.args.second.now a)) (sym c.in-Roots.is)
    c.least_of_buses.ensures
