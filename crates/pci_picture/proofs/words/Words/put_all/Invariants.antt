use Rattle.std.proofs.Common.{◌≡◌, ◌++◌, take}
use Rattle.std.specs.List.{flat_map}
use Rattle.pci_picture.proofs.words.Words.put_all.Given as goal

abbrev pub invariant-loop-part : goal.invariant-loop-part
invariant-loop-part g l = l.self.bytes.items ≡ l.initial.self.bytes.items ++ flat_map (λ part. part.now) (take l.part-index l.parts)
