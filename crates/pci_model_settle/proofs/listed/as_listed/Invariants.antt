use Rattle.std.proofs.Common.{◌≡◌, length, map, take, drop}
use Rattle.pci_plan.specs.Writes.{write_value}
use Rattle.pci_model_settle.specs.Listed.{listed_write}
use Rattle.pci_model_settle.proofs.listed.as_listed.Given as goal

-- the first writes are for the dump, and the rest is as it was
abbrev pub invariant-loop-i : goal.invariant-loop-i
invariant-loop-i l = record {
  are : map write_value (take l.i l.writes) ≡ map (listed_write l.dump) (map write_value (take l.i l.initial.writes));
  rest : drop l.i l.writes ≡ drop l.i l.initial.writes;
  long : length l.writes ≡ length l.initial.writes;
}
