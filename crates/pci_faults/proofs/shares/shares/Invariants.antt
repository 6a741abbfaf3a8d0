use Rattle.std.proofs.Common.{◌≤◌, length}
use Rattle.pci_faults.specs.Shares.{AreOwned, AreOfLesserGroups, AreSharesBelow, AreWithin, GroupsRise}
use Rattle.pci_faults.proofs.shares.shares.Given as goal

abbrev pub invariant-loop-i : goal.invariant-loop-i
invariant-loop-i g l = record {
  within : l.added ≤ l.i;
  lesser : GroupsRise l.compared.among l.compared.regions.now → AreOfLesserGroups l.added l.i l.compared.among l.compared.regions.now;
  owned : AreOwned l.added l.compared.regions.now l.compared.allowed.now l.owners;
  places : AreWithin (length l.compared.regions.now) l.out.items;
  shares : GroupsRise l.compared.among l.compared.regions.now → AreSharesBelow l.i l.compared.among l.compared.regions.now l.compared.allowed.now l.out.items;
}
