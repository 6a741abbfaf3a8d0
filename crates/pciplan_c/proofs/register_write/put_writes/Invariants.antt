use Rattle.std.proofs.Common.{◌≡◌, length, map, take, drop}
use Rattle.pci_plan.specs.Writes.{write_value}
use Rattle.pciplan_c.specs.RegisterWrites.{write_value_of}
use Rattle.pciplan_c.proofs.register_write.put_writes.Given as goal

-- the first writes are there, and the rest is as it was
abbrev pub invariant-loop-i : goal.invariant-loop-i
invariant-loop-i l = record {
  are : map write_value_of (take l.i l.array) ≡ map write_value (take l.i l.writes);
  rest : drop l.i l.array ≡ drop l.i l.initial.array;
  long : length l.array ≡ length l.initial.array;
}
