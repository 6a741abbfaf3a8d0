use Rattle.std.proofs.Common.{◌≡◌, take}
use Rattle.pci_picture.specs.Elements.{escaped}
use Rattle.pci_picture.proofs.elements.are_plain.Given as goal

abbrev pub invariant-loop-byte : goal.invariant-loop-byte
invariant-loop-byte l = l.marks ≡ 0 → escaped (take l.byte-index l.bytes) ≡ take l.byte-index l.bytes
