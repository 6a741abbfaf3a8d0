use Rattle.std.proofs.Common.{refl}
use Rattle.pci_grow.proofs.NearestOf.{also_one}
use Rattle.pci_grow.proofs.among.Among.beside.Goals as goal

pub returns : goal.returns
returns c =
    also_one c.args.self _ c.args.range _ _ refl c.part_before.ensures.value c.part_behind.ensures c.ending_later.ensures.value c.beginning_sooner.ensures
    (λ is. c.ending_later.ensures.bound _ c.part_before.ensures.bound is)
