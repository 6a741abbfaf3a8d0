use Rattle.std.proofs.lemmas.Result.{IfOk-weaker}
use Rattle.pci_base.specs.Space.{space_of}
use Rattle.pci_claims.specs.Values.{code_given_value}
use Rattle.pci_map.proofs.Covering.{whole_claimed, gathered_claimed}
use Rattle.pci_map.proofs.gaps.claimed.Goals as goal

pub gathered-requires : goal.gathered-requires
gathered-requires g c = c.in_ok-claims_of.ensures.some

pub returns-in_ok-claims_of : goal.returns-in_ok-claims_of
returns-in_ok-claims_of g c =
    IfOk-weaker c.gathered.result _ _
    (λ v is told s bus sorted. gathered_claimed told (code_given_value c.args.given.now) s (space_of c.args.space) bus c.args.seats.now sorted c.in_ok-claims_of.field-0.items v.items c.in_ok-claims_of.ensures is)
    c.gathered.ensures

pub returns-else-any_cut : goal.returns-else-any_cut
returns-else-any_cut g c =
    IfOk-weaker c.ranges_of.result _ _
    (λ v is told s bus sorted. whole_claimed told (code_given_value c.args.given.now) s (space_of c.args.space) bus c.args.seats.now sorted
    (c.any_cut.ensures c.if-any_cut.false) v.items is)
    c.ranges_of.ensures
