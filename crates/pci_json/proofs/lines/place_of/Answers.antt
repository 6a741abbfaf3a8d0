use Rattle.std.proofs.Common.{arith, ◌≡◌, ◌==◌, not}
use Rattle.std.proofs.lemmas.Bool.{eq-eqb, not_from_true}
use Rattle.std.proofs.lemmas.List.Sums.{prefix_len-drop_no}
use Rattle.std.specs.List.{position_or_len}
use Rattle.pci_json.proofs.Firsts.{cut_behind}
use Rattle.pci_json.proofs.lines.place_of.Goals as goal

pub returns-then-other-byte-clause-behind : goal.returns-then-other-byte-clause-behind
returns-then-other-byte-clause-behind c = λ here.
    let bytes = c.as_bytes-other-items.result.now in
    let none = prefix_len-drop_no (λ x. not (x == c.args.byte)) bytes c.loop-other.other-index 0 c.loop-other-test.true
    (not_from_true _ (eq-eqb _ _ c.if-other-byte.true)) in
    let all : c.loop-other.place ≡ position_or_len (λ b. b == c.args.byte) bytes = omega (arith, none, c.loop-other.invariant.left) in
    cut_behind c.args.byte c.args.text.now bytes c.loop-other.place c.as_bytes-other-items.ensures.value c.as_bytes-other-items.ensures.utf8
    c.requires.ascii all here
