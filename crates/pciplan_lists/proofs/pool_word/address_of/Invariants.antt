use Rattle.std.proofs.Common.{◌≡◌, ◌<◌, ◌^◌, take}
use Rattle.pci_spec.specs.Line.{hex_number}
use Rattle.pciplan_lists.proofs.pool_word.address_of.Given as goal

abbrev pub invariant-loop-byte : goal.invariant-loop-byte
invariant-loop-byte l = record {
  below : l.address < 16 ^ l.byte-index;
  text : take l.byte-index l.bytes ≡ hex_number l.byte-index l.address;
}
