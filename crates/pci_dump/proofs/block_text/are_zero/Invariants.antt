use Rattle.std.proofs.Common.{◌≡◌, take, replicate}
use Rattle.pci_dump.proofs.block_text.are_zero.Given as goal

abbrev pub invariant-loop-byte : goal.invariant-loop-byte
invariant-loop-byte l = l.bits ≡ 0 → take l.byte-index l.bytes ≡ replicate l.byte-index 0
