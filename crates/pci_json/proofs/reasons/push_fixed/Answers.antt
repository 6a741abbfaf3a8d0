use Rattle.std.proofs.Common.{ℕ, List, ◌∷◌, [], ◌++◌, codes}
use Rattle.std.proofs.lemmas.Result.{on_ok_weaker}
use Rattle.json.specs.Json.{Json}
use Rattle.pci_json.specs.Lines.{word}
use Rattle.pci_json.specs.Members.{array_of, range_objects}
use Rattle.pci_json.specs.Reasons.{region_part_members, each_members}
use Rattle.pci_json.proofs.Tokens.{two_members, named_value}
use Rattle.pci_json.proofs.reasons.push_fixed.Goals as goal

pub returns : goal.returns
returns g c =
    let line = c.args.line.now in
    let part = c.push_part.new.out in
    let behind = c.push_fixed_ranges.new.out in
    let value : Json = array_of (range_objects 44 (word 5 line)) in
    let ranges : List (List ℕ × Json) = (codes "ranges", value) ∷ [] in
    on_ok_weaker c.push_each.result
    (λ e. two_members c.args.out.now part c.push_each.new.out (region_part_members 1 line) (ranges ++ each_members line) c.in_ok-push_part.ensures
    (two_members part behind c.push_each.new.out ranges (each_members line)
    (named_value part c.key.new.self behind (codes "ranges") value c.in_ok-key.ensures c.in_ok-push_fixed_ranges.ensures) e))
    c.push_each.ensures
