use Rattle.std.proofs.Common.{◌≡◌, ◌+◌, ◌*◌, ◌<◌, ◌≤◌, ℕ, length}
use denote.Text.{Utf8}
use denote.Shadow.{shadow}
use Rattle.pci_json.specs.Lines.{lines_of_text}
use Rattle.pci_json.specs.Members.{with_items}
use Rattle.pci_json.specs.Documents.{place_objects}
use Rattle.pci_json.proofs.map.+places.Given as goal

abbrev pub decreases-push_places : goal.decreases-push_places
decreases-push_places g l = 3 * length l.text.now

abbrev pub decreases-push_here : goal.decreases-push_here
decreases-push_here g l = 3 * length l.text.now + 2

abbrev pub decreases-push_inside : goal.decreases-push_inside
decreases-push_inside g l = 3 * length l.text.now + 1

abbrev pub invariant-push_places-loop-line : goal.invariant-push_places-loop-line
invariant-push_places-loop-line g l = record {
  text : shadow (Utf8 l.rest);
  written : with_items l.out (place_objects l.depth (lines_of_text l.rest)) ≡ with_items l.initial.out (place_objects l.depth (lines_of_text l.text));
  above : (a : ℕ) → a < l.depth → place_objects a (lines_of_text l.rest) ≡ place_objects a (lines_of_text l.text);
  shorter : length l.rest ≤ length l.text;
}

abbrev pub decreases-push_places-loop-line : goal.decreases-push_places-loop-line
decreases-push_places-loop-line g l = length l.rest
