use Rattle.std.proofs.Common.{◌≡◌, ◌-◌, ◌*◌, ◌/◌, ◌^◌, length, take}
use Rattle.pci_picture.specs.Named.{low_digits}
use Rattle.pci_picture.proofs.words.hex_digits.Given as goal

abbrev pub invariant-loop-index : goal.invariant-loop-index
invariant-loop-index l = record {
  long : length l.digits ≡ 16;
  put : take l.index l.digits ≡ low_digits l.index (l.number / 2 ^ (64 - 4 * l.index));
}
