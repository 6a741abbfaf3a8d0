use Rattle.std.proofs.Common.{refl}
use Rattle.std.proofs.lemmas.Simd.{zip2_splat, length-chunk}
use lib.Lanes.{chunk}
use Rattle.pci_dump.proofs.TitleRuns.{joined, title_run_is}
use Rattle.pci_dump.proofs.lanes.title_run.Goals as goal

pub returns : goal.returns
returns c =
    let v = chunk c.args.at 16 c.args.bytes.now in
    let long = length-chunk c.args.at 16 c.args.bytes.now c.requires in
    title_run_is c.args.bytes.now c.args.at _ _ c.requires c.type_inv.bytes c.first_of_16.ensures _
    (joined _ _ _ v (zip2_splat _ v 16 32 long) (zip2_splat _ v 16 127 long)) refl
