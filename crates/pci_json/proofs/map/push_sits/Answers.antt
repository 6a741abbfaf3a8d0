use Rattle.std.proofs.Common.{◌∷◌, ◌++◌, [], codes}
use Rattle.std.proofs.lemmas.Result.{on_ok_weaker}
use Rattle.json.specs.Json.{string}
use Rattle.pci_json.specs.Lines.{word, behind_words}
use Rattle.pci_json.specs.Members.{with_members, end_member, range_members}
use Rattle.pci_json.proofs.Tokens.{more_members}
use Rattle.pci_json.specs.Listings.{kind_members, end_place}
use Rattle.pci_json.proofs.map.push_sits.Goals as goal

pub returns : goal.returns
returns g c = on_ok_weaker c.push_end.result (λ e. cc (e, c.split_word.ensures.first, c.split_word.ensures.rest, c.in_ok-text.ensures, c.in_ok-push_kind.ensures, c.word.ensures, c.in_ok-push_range.ensures, c.end_place.ensures.value, more_members (with_members c.args.out.now ((codes "part", string (word 0 c.args.part.now)) ∷ [])) (kind_members (behind_words 1 c.args.part.now)) (range_members (word 0 c.args.line.now) ++ end_member 0 (end_place c.args.part.now) c.args.part.now))) c.push_end.ensures
