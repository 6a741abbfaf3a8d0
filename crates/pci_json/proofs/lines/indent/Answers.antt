use Rattle.std.proofs.Common.{arith, ◌≡◌, ap, ◌∙◌}
use Rattle.std.proofs.lemmas.Bool.{ne_eqb}
use Rattle.std.proofs.lemmas.List.Sums.{prefix_len-drop_no, prefix_len-drop_all}
use Rattle.std.specs.List.{prefix_len}
use Rattle.pci_json.specs.Lines.{is_blank}
use Rattle.pci_json.proofs.Indents.{cut_of}
use Rattle.pci_json.proofs.lines.indent.Goals as goal

pub returns-then-byte-ne32-clause-cut : goal.returns-then-byte-ne32-clause-cut
returns-then-byte-ne32-clause-cut c =
    let bytes = c.as_bytes-byte-items.result.now in
    let none = prefix_len-drop_no is_blank bytes c.loop-byte.byte-index 0 c.loop-byte-test.true (ne_eqb _ _ c.if-byte-ne32.true) in
    let all : c.loop-byte.blanks ≡ prefix_len is_blank bytes = omega (arith, none, c.loop-byte.invariant.left) in
    cut_of c.args.line.now bytes c.loop-byte.blanks c.as_bytes-byte-items.ensures.value c.as_bytes-byte-items.ensures.utf8
    (all ∙ ap (prefix_len is_blank) c.as_bytes-byte-items.ensures.value)

pub returns-clause-cut : goal.returns-clause-cut
returns-clause-cut c =
    let bytes = c.as_bytes-byte-items.result.now in
    let none = prefix_len-drop_all is_blank bytes c.loop-byte.byte-index c.loop-byte-test.false in
    let all : c.loop-byte.blanks ≡ prefix_len is_blank bytes = omega (arith, none, c.loop-byte.invariant.left) in
    cut_of c.args.line.now bytes c.loop-byte.blanks c.as_bytes-byte-items.ensures.value c.as_bytes-byte-items.ensures.utf8
    (all ∙ ap (prefix_len is_blank) c.as_bytes-byte-items.ensures.value)
