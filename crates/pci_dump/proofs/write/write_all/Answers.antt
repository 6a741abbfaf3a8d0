use Rattle.std.proofs.Common.{rules, ◌∙◌, refl}
use Rattle.pci_dump.proofs.Told.{UpTo-start, UpTo-more, UpTo-kept}
use Rattle.pci_dump.proofs.write.write_all.Goals as goal

pub loop-rest-init : goal.loop-rest-init
loop-rest-init g c = record { gone = UpTo-start _ _; fine = refl }

pub loop-rest-preserved : goal.loop-rest-preserved
loop-rest-preserved g c = record {
  gone = UpTo-more _ _ _ _ _ _ c.loop-rest.invariant.gone c.in_ok-count.ensures.bytes;
  fine = c.in_ok-count.ensures.counted ∙ c.loop-rest.invariant.fine;
}

pub returns-in_err-count-clause-begun : goal.returns-in_err-count-clause-begun
returns-in_err-count-clause-begun g c =
    let begun = UpTo-kept _ _ _ _ _ c.loop-rest.invariant.gone c.in_err-count.ensures.bytes in search (rules, begun)
