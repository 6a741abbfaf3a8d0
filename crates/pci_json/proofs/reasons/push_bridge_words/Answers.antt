use Rattle.std.proofs.Common.{ℕ, List, ◌++◌, codes}
use Rattle.std.proofs.lemmas.Result.{on_ok_weaker}
use Rattle.json.specs.Json.{Json}
use Rattle.pci_json.specs.Members.{with_members, flag_member}
use Rattle.pci_json.proofs.Tokens.{more_members}
use Rattle.pci_json.specs.Reasons.{unclaimed_place, legacy_word}
use Rattle.pci_json.proofs.reasons.push_bridge_words.Goals as goal

pub returns : goal.returns
returns g c =
    let line = c.args.line.now in
    let isa : List (List ℕ × Json) = flag_member (codes "isa") 5 line in
    let unclaimed : List (List ℕ × Json) = flag_member (codes "unclaimed") (unclaimed_place line) line in
    on_ok_weaker c.push_legacy_word.result
    (λ e. cc (
      e,
      c.in_ok-push_flag.ensures,
      c.unclaimed_place.ensures.value,
      c.in_ok-push_flag-2.ensures,
      more_members c.args.out.now isa (unclaimed ++ legacy_word line),
      more_members (with_members c.args.out.now isa) unclaimed (legacy_word line),
    ))
    c.push_legacy_word.ensures
