use Rattle.std.proofs.Common.{◌-◌, ◌+◌, ◌≡◌, length, arith, sym, ◌∙◌}
use Rattle.pci_claims.proofs.Gathering.{some_of}
use Rattle.pci_why.proofs.Namings.{empty_is}
use Rattle.pci_why.proofs.Gaps.{bounds_hold, none_held}
use Rattle.pci_why.proofs.missed.bounds.Goals as goal

pub returns-then-is_empty : goal.returns-then-is_empty
returns-then-is_empty c = λ canonical a covers. absurd (none_held c.args.ranges.now a (empty_is c.args.ranges.now (sym c.is_empty.ensures ∙ c.if-is_empty.true)) covers)

pub returns : goal.returns
returns c = λ canonical a covers.
    let some = some_of (length c.args.ranges.now) c.is_empty.result c.is_empty.ensures c.if-is_empty.false in
    let end : length c.args.ranges.now - 1 + 1 ≡ length c.args.ranges.now = omega (arith, some) in
    bounds_hold c.args.ranges.now (length c.args.ranges.now - 1) record { first = 0; last = 0 } record { first = 0; last = 0 } a canonical end covers
