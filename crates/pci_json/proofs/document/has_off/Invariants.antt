use Rattle.std.proofs.Common.{◌≡◌, length}
use denote.Text.{Utf8}
use denote.Shadow.{shadow}
use Rattle.pci_json.specs.Lines.{lines_of_text}
use Rattle.pci_json.specs.Documents.{has_off}
use Rattle.pci_json.proofs.document.has_off.Given as goal

abbrev pub invariant-loop-rest : goal.invariant-loop-rest
invariant-loop-rest l = record {
  text : shadow (Utf8 l.rest);
  written : has_off (lines_of_text l.rest) ≡ has_off (lines_of_text l.text);
}

abbrev pub decreases-loop-rest : goal.decreases-loop-rest
decreases-loop-rest l = length l.rest
