-- What has a place in a range is inside.
use Rattle.std.proofs.Common.{List}
use Rattle.std.specs.Bool.{IsTrue, nat_le}
use Rattle.std.proofs.lemmas.Bool.{and_parts, leb-true}
use Rattle.pci_spec.specs.Decoded.{Range}
use Rattle.plan_spec.specs.Planning.Layout.{IsInside}
use Rattle.settle_spec.specs.FirstPlace.{is_place, is_spot, ends_by}
use Rattle.settle_spec.specs.Items.{Placed, taken_by}
use Rattle.settle_spec.proofs.FirstSpot.{spot_gives}

-- what has a place in a range is inside
pub place_inside : (u : Range) (xs : List Range) (y : Placed) → IsTrue (is_place u xs y.item.extent y.at) → IsInside (taken_by y.item y.at) u
place_inside u xs y place =
    let e = y.item.extent in
    let parts = and_parts (is_spot u.first xs e y.at) (ends_by u e y.at) place in
    ((spot_gives u.first xs e y.at parts.0).from, leb-true (taken_by y.item y.at).last u.last (and_parts (nat_le (taken_by y.item y.at).last u.last) _ parts.1).0)
