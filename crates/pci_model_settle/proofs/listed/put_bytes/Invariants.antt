use Rattle.std.proofs.Common.{◌≡◌, ◌+◌, ◌-◌, length}
use Rattle.judge_spec.specs.Windows.{with_number}
use Rattle.pci_model_settle.proofs.listed.put_bytes.Given as goal

-- what is left to put makes the whole of it
abbrev pub invariant-loop-j : goal.invariant-loop-j
invariant-loop-j l = record {
  left : with_number (l.write.width - l.j) (l.write.off + l.j) l.rest l.image.0 ≡ with_number l.write.width l.write.off l.write.value l.initial.image.0;
  long : length l.image.0 ≡ 256;
}
