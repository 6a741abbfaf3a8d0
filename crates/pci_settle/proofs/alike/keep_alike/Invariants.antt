use Rattle.std.proofs.Common.{◌≡◌}
use Rattle.settle_spec.specs.Kept.{Kept as Keeping}
use Rattle.settle_spec.specs.Lists.{Request}
use Rattle.settle_spec.specs.Sparing.{keep_alike}
use Rattle.pci_place.specs.Above.{system_in}
use Rattle.pci_settle.specs.Told.{IsTableOf}
use Rattle.pci_settle.specs.Alike.{PassesPartsOnly}
use Rattle.pci_settle.proofs.AlikeParts.{kept_from}
use Rattle.pci_settle.proofs.alike.keep_alike.Given as goal

-- what is passed is alike
abbrev pub invariant-loop-k : goal.invariant-loop-k
invariant-loop-k g l =
    (q : Request) (k j : Keeping) → IsTableOf (system_in l.admitted) k.stays l.one → IsTableOf (system_in l.admitted) j.stays l.other
    → PassesPartsOnly q (system_in l.admitted) k.stays → PassesPartsOnly q (system_in l.admitted) j.stays
    → keep_alike q (system_in l.admitted) k j ≡ kept_from q (system_in l.admitted) k.stays j.stays l.k
