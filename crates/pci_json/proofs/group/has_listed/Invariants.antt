use Rattle.std.proofs.Common.{◌≡◌, length}
use denote.Text.{Utf8}
use denote.Shadow.{shadow}
use Rattle.pci_json.specs.Lines.{lines_of_text}
use Rattle.pci_json.specs.Groups.{inner_of, has_listed}
use Rattle.pci_json.proofs.group.has_listed.Given as goal

abbrev pub invariant-loop-rest : goal.invariant-loop-rest
invariant-loop-rest l = record {
  text : shadow (Utf8 l.rest);
  written : has_listed l.kind (inner_of (lines_of_text l.rest)) ≡ has_listed l.kind (inner_of (lines_of_text l.text));
}

abbrev pub decreases-loop-rest : goal.decreases-loop-rest
decreases-loop-rest l = length l.rest
