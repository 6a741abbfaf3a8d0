-- A part that is on claims its first address.
use Rattle.std.proofs.Common.{◌≡◌, true, arith}
use Rattle.pci_spec.specs.Number.{IsImage}
use Rattle.pci_spec.specs.Decoded.{IsDecodable}
use Rattle.pci_spec.specs.System.{System, Function, Part, Claims, has_part, is_space_on, space_of}
use Rattle.plan_spec.specs.Planning.Layout.{range_of}
use Rattle.settle_spec.specs.Lists.{Request}
use Rattle.settle_spec.specs.Parts.{is_part}
use Rattle.settle_laws.proofs.PartClaims.{claims_at, part_order}

-- ---- a part claims its first address

pub claims_first : (q : Request) (s : System) (f : Function) (p : Part) → IsImage f.image → IsDecodable f → has_part f p ≡ true → is_part q s f p ≡ true → is_space_on f (space_of f p) ≡ true
    → Claims f p (space_of f p) (range_of f p).first
claims_first q s f p image fine there part on = claims_at q s f image fine p there part on (range_of f p).first (omega arith, part_order q s f p part)
