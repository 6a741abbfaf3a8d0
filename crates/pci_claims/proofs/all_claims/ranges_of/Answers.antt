use Rattle.std.proofs.Common.{◌+◌, arith, subst}
use Rattle.std.specs.Prelude.{◌≤◌, ◌<◌, length}
use Rattle.std.specs.List.{AllWithin}
use Rattle.pci_claims.proofs.Awake.{stretch_of}
use Rattle.pci_claims.proofs.all_claims.ranges_of.Goals as goal

pub returns : goal.returns
returns c =
    let one = c.from.ensures in
    stretch_of c.args.ranges.now c.args.bus (c.from-2.result + 1) record { first = c.first_from-first.result; end = c.first_from-end.result } (let same = c.from-2.ensures in omega (arith, same))
    c.first_from-first.ensures.bound c.first_from-end.ensures.bound
    (subst (λ n. AllWithin (λ r. r.slot.bus < n) c.args.ranges.now 0 c.first_from-first.result) one c.first_from-first.ensures.before)
    (subst (λ n. AllWithin (λ r. n ≤ r.slot.bus) c.args.ranges.now c.first_from-first.result (length c.args.ranges.now)) one c.first_from-first.ensures.after)
    c.first_from-end.ensures.before c.first_from-end.ensures.after
