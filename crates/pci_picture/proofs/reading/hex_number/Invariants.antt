use Rattle.std.proofs.Common.{◌≡◌, ◌<◌, ◌*◌, ◌^◌, drop}
use Rattle.std.specs.List.{list_all}
use Rattle.std.specs.Prelude.{fold}
use Rattle.pci_picture.specs.Lines.{is_digit, next_hex}
use Rattle.pci_picture.proofs.reading.hex_number.Given as goal

abbrev pub invariant-loop-digit : goal.invariant-loop-digit
invariant-loop-digit l = record {
  value : fold next_hex l.number (drop l.digit-index l.digits) ≡ fold next_hex 0 l.digits;
  bound : l.number < 2 ^ (4 * l.digit-index);
  all : list_all is_digit (drop l.digit-index l.digits) ≡ list_all is_digit l.digits;
}
