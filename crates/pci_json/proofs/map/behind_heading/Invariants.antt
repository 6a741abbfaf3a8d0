use Rattle.std.proofs.Common.{◌≡◌, length}
use denote.Text.{Utf8}
use denote.Shadow.{shadow}
use Rattle.pci_json.specs.Lines.{lines_of_text}
use Rattle.pci_json.specs.Documents.{behind_heading}
use Rattle.pci_json.proofs.map.behind_heading.Given as goal

abbrev pub invariant-loop-rest : goal.invariant-loop-rest
invariant-loop-rest l = record {
  text : shadow (Utf8 l.rest);
  left : behind_heading l.name (lines_of_text l.rest) ≡ behind_heading l.name (lines_of_text l.text);
}

abbrev pub decreases-loop-rest : goal.decreases-loop-rest
decreases-loop-rest l = length l.rest
