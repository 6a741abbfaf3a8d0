use Rattle.std.proofs.Common.{◌≡◌, length}
use Rattle.pci_picture.specs.Roots.{listed_functions}
use Rattle.pci_picture.proofs.Named.{AreFirstNamed}
use Rattle.pci_picture.proofs.board.names_of.Given as goal

abbrev pub invariant-loop-index : goal.invariant-loop-index
invariant-loop-index g l = record {
  same : listed_functions l.functions ≡ listed_functions l.initial.functions;
  named : AreFirstNamed l.names.bytes.items l.functions l.index;
  long : length l.functions ≡ length l.initial.functions;
}
