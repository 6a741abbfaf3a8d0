use Rattle.std.proofs.Common.{◌≡◌, length}
use denote.Text.{Utf8}
use denote.Shadow.{shadow}
use Rattle.pci_json.specs.Lines.{lines_of_text}
use Rattle.pci_json.specs.Members.{with_members}
use Rattle.pci_json.specs.Groups.{inner_of, singles}
use Rattle.pci_json.proofs.group.push_singles.Given as goal

abbrev pub invariant-loop-rest : goal.invariant-loop-rest
invariant-loop-rest g l = record {
  text : shadow (Utf8 l.rest);
  written : with_members l.out (singles (inner_of (lines_of_text l.rest))) ≡ with_members l.initial.out (singles (inner_of (lines_of_text l.text)));
}

abbrev pub decreases-loop-rest : goal.decreases-loop-rest
decreases-loop-rest g l = length l.rest
