use Rattle.std.proofs.Common.{◌≡◌, length}
use denote.Text.{Utf8}
use denote.Shadow.{shadow}
use Rattle.pci_json.specs.Lines.{lines_of_text}
use Rattle.pci_json.specs.Members.{with_items}
use Rattle.pci_json.specs.Documents.{writes_of}
use Rattle.pci_json.proofs.document.push_writes.Given as goal

abbrev pub invariant-loop-rest : goal.invariant-loop-rest
invariant-loop-rest g l = record {
  text : shadow (Utf8 l.rest);
  written : with_items l.out (writes_of (lines_of_text l.rest)) ≡ with_items l.initial.out (writes_of (lines_of_text l.text));
}

abbrev pub decreases-loop-rest : goal.decreases-loop-rest
decreases-loop-rest g l = length l.rest
