use Rattle.std.proofs.Common.{◌-◌, ◌<◌, ◌≤◌, ℕ}
use Rattle.pci_faults.specs.Shares.{group_at, AreOwned, AreOfLesserGroups}
use Rattle.pci_faults.proofs.shares.add_lesser.Given as goal

abbrev pub invariant-loop-n : goal.invariant-loop-n
invariant-loop-n g l = record {
  within : l.n ≤ l.i;
  lesser : AreOfLesserGroups l.added l.i l.compared.among l.compared.regions.now → (k : ℕ) → k < l.n → group_at l.compared.among l.compared.regions.now k < group_at l.compared.among l.compared.regions.now l.i;
  owned : AreOwned l.n l.compared.regions.now l.compared.allowed.now l.owners;
}

abbrev pub decreases-loop-n : goal.decreases-loop-n
decreases-loop-n g l = l.i - l.n
