use Rattle.std.proofs.Common.{◌≡◌, length}
use denote.Text.{Utf8}
use denote.Shadow.{shadow}
use Rattle.pci_json.specs.Members.{with_items, range_objects}
use Rattle.pci_json.proofs.members.push_ranges.Given as goal

abbrev pub invariant-loop-rest : goal.invariant-loop-rest
invariant-loop-rest g l = record {
  text : shadow (Utf8 l.rest);
  written : with_items l.out (range_objects l.end l.rest) ≡ with_items l.initial.out (range_objects l.end l.text);
}

abbrev pub decreases-loop-rest : goal.decreases-loop-rest
decreases-loop-rest g l = length l.rest
