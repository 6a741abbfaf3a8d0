use Rattle.std.proofs.Common.{◌≡◌, length, map, take, drop}
use Rattle.pci_settle.specs.Denied.{denied_value}
use Rattle.pciplan_c.specs.DeniedSpares.{denied_value_of}
use Rattle.pciplan_c.proofs.denied_spare.put_denied.Given as goal

-- the first windows are there, and the rest is as it was
abbrev pub invariant-loop-i : goal.invariant-loop-i
invariant-loop-i l = record {
  are : map denied_value_of (take l.i l.array) ≡ map denied_value (take l.i l.denied);
  rest : drop l.i l.array ≡ drop l.i l.initial.array;
  long : length l.array ≡ length l.initial.array;
}
