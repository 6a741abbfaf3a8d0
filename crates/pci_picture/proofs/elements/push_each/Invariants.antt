use Rattle.std.proofs.Common.{◌≡◌, ◌++◌, take}
use Rattle.std.specs.String.{string_bytes}
use Rattle.pci_picture.specs.Elements.{escaped}
use Rattle.pci_picture.proofs.elements.push_each.Given as goal

abbrev pub invariant-loop-byte : goal.invariant-loop-byte
invariant-loop-byte g l = string_bytes l.text ≡ string_bytes l.initial.text ++ escaped (take l.byte-index l.bytes)
