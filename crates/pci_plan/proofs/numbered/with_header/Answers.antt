use Rattle.std.proofs.Common.{arith, sym, ◌∙◌}
use Rattle.std.proofs.lemmas.List.{length-take-le}
use Rattle.pci_plan.proofs.numbered.with_header.Goals as goal

pub slice_bounds-copy_from_slice-end : goal.slice_bounds-copy_from_slice-end
slice_bounds-copy_from_slice-end c = let full = c.told-bytes in sym (length-take-le 64 c.args.bytes.now (omega (arith, full)))

pub copy_from_slice-requires : goal.copy_from_slice-requires
copy_from_slice-requires c =
    let full = c.told-bytes in
    let short = c.told-header in
    length-take-le 64 c.args.bytes.now (omega (arith, full)) ∙ sym short
