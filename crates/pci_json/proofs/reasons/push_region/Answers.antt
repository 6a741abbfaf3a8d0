use Rattle.std.proofs.Common.{◌∙◌, ◌+◌, ℕ, Bool, List, ◌∷◌, [], ◌++◌, codes, ap}
use Rattle.std.proofs.lemmas.Result.{on_ok_weaker}
use Rattle.json.specs.Json.{Json, boolean}
use Rattle.pci_json.specs.Lines.{word, is_word}
use Rattle.pci_json.specs.Members.{with_members, range_members, end_member}
use Rattle.pci_json.specs.Reasons.{region_part_members, range_place}
use Rattle.pci_json.proofs.Tokens.{two_members}
use Rattle.pci_json.proofs.reasons.push_region.Goals as goal

pub returns : goal.returns
returns g c =
    let line = c.args.line.now in
    let n = c.args.n in
    let part = c.push_part.new.out in
    let marked = c.boolean.new.self in
    let behind = c.push_range.new.out in
    let there = c.range_place-place.ensures.value in
    let mark : List (List ℕ × Json) = (codes "prefetchable", boolean (is_word (n + 4) (codes "pref") line)) ∷ [] in
    let range : List (List ℕ × Json) = range_members (word (range_place n line) line) in
    let last : List (List ℕ × Json) = end_member (n + 2) (range_place n line + 2) line in
    on_ok_weaker c.push_end.result
    (λ e. two_members c.args.out.now part c.push_end.new.out (region_part_members n line) (mark ++ (range ++ last)) c.in_ok-push_part.ensures
    (two_members part marked c.push_end.new.out mark (range ++ last)
    (c.in_ok-boolean.ensures ∙ ap (λ (b : Bool). with_members part ((codes "prefetchable", boolean b) ∷ [])) c.is_word.ensures)
    (two_members marked behind c.push_end.new.out range last
    (c.in_ok-push_range.ensures ∙ ap (λ (w : List ℕ). with_members marked (range_members w)) (c.word.ensures ∙ ap (λ (k : ℕ). word k line) there))
    (e ∙ ap (λ (k : ℕ). with_members behind (end_member (n + 2) (k + 2) line)) there))))
    c.push_end.ensures
