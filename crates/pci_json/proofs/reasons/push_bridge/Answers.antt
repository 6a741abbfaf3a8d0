use Rattle.std.proofs.Common.{◌≡◌, ℕ, List, ◌∷◌, [], codes}
use Rattle.std.proofs.lemmas.Result.{on_ok_weaker}
use Rattle.json.specs.Json.{Json, string, boolean}
use Rattle.pci_json.specs.Lines.{word, is_word}
use Rattle.pci_json.specs.Members.{with_members, object_of}
use Rattle.pci_json.proofs.Tokens.{member_written, two_members}
use Rattle.pci_json.specs.Reasons.{bridge_words, way_members}
use Rattle.pci_json.proofs.reasons.push_bridge.Goals as goal

pub returns : goal.returns
returns g c =
    let line = c.args.line.now in
    let start : List (List ℕ × Json) = (codes "slot", string (word 1 line)) ∷ (codes "on", boolean (is_word 2 (codes "on") line)) ∷ [] in
    let behind : List (List ℕ × Json) = (codes "slot", string (word 1 line)) ∷ (codes "on", boolean (is_word 2 (codes "on") line)) ∷ (codes "windows", object_of (way_members line)) ∷ [] in
    let first : c.push_windows.new.out ≡ with_members c.args.out.now behind = cc (
      c.word.ensures,
      c.in_ok-text.ensures,
      c.is_word.ensures,
      c.in_ok-boolean.ensures,
      c.in_ok-key.ensures,
      c.in_ok-push_windows.ensures,
      member_written (with_members c.args.out.now start) (codes "windows") (object_of (way_members line)),
    ) in
    on_ok_weaker c.push_bridge_words.result (λ e. two_members c.args.out.now c.push_windows.new.out c.push_bridge_words.new.out behind (bridge_words line) first e) c.push_bridge_words.ensures
