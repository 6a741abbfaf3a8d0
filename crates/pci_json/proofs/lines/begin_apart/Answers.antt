use Rattle.std.proofs.Common.{◌∙◌, sym, nat_eq, slice_index_or}
use Rattle.std.proofs.lemmas.Bool.{not-true}
use Rattle.pci_json.proofs.Firsts.{apart}
use Rattle.pci_json.proofs.lines.begin_apart.Goals as goal

pub returns : goal.returns
returns c = λ differ.
    let other = not-true (nat_eq (slice_index_or c.as_bytes.result.now 0 0) (slice_index_or c.as_bytes-2.result.now 0 0)) differ in
    apart c.args.text.now c.args.name.now (sym c.is_empty.ensures ∙ c.if-is_empty.false) (sym c.is_empty-else-is_empty.ensures ∙ c.if-is_empty-2.false)
    (cc (other, c.as_bytes.ensures.value, c.as_bytes-2.ensures.value))
