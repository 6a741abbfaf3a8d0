use Rattle.std.proofs.Common.{◌-◌, ◌+◌, ◌≡◌, length, arith}
use Rattle.std.proofs.lemmas.Bool.{ltb-true}
use Rattle.pci_claims.proofs.Claiming.{apart_by_ends}
use Rattle.pci_claims.proofs.Gathering.{some_of}
use Rattle.pci_claims.proofs.claim.is_below.Goals as goal

pub returns : goal.returns
returns c less =
    let some = some_of (length c.args.rs.now) c.is_empty.result c.is_empty.ensures c.if-is_empty.false in
    let end : length c.args.rs.now - 1 + 1 ≡ length c.args.rs.now = omega (arith, some) in
    apart_by_ends c.args.rs.now c.args.ss.now (length c.args.rs.now - 1) record { first = 0; last = 0 } record { first = 0; last = 0 } c.requires.first c.requires.second end (ltb-true _ _ less)
