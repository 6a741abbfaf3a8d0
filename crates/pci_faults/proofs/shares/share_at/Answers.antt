use Rattle.std.proofs.Common.{refl, arith}
use Rattle.pci_faults.proofs.Sharing.{none_claimed, none_read, found_read, owner_below}
use Rattle.pci_faults.proofs.shares.share_at.Goals as goal

pub returns-in_default-clause-least : goal.returns-in_default-clause-least
returns-in_default-clause-least g c by n lesser owned =
    none_claimed c.args.compared.now.regions.now c.args.compared.now.allowed.now c.args.i c.index-regions-i.result c.requires.index c.index-regions-i.is by c.in_default.ensures

pub returns-in-Some-first_from-clause-least : goal.returns-in-Some-first_from-clause-least
returns-in-Some-first_from-clause-least g c by n lesser owned = (
  refl,
  found_read c.args.compared.now.regions.now c.args.compared.now.allowed.now c.args.i c.index-regions-i.result c.requires.index c.index-regions-i.is by n c.args.owners.now c.in-Some.range
      lesser owned c.in-Some.ensures c.in-Some-first_from.found c.in-Some-first_from.ensures c.if-found-range.true,
)

pub returns-in-Some-first_from-clause-within : goal.returns-in-Some-first_from-clause-within
returns-in-Some-first_from-clause-within g c n within owned =
    let low = owner_below n c.args.compared.now.regions.now c.args.compared.now.allowed.now c.args.owners.now c.in-Some.range.first c.in-Some-first_from.found owned c.in-Some-first_from.ensures in
    (omega (arith, low, within), refl)

pub returns-in_default-first_from-clause-least : goal.returns-in_default-first_from-clause-least
returns-in_default-first_from-clause-least g c by n lesser owned =
    none_read c.args.compared.now.regions.now c.args.compared.now.allowed.now c.args.i c.index-regions-i.result c.requires.index c.index-regions-i.is by n c.args.owners.now c.in-Some.range
    lesser owned c.in-Some.ensures
    (λ a j from to. c.in-Some-first_from.ensures.least a j from (let past = c.if-found-range.false in omega (arith, past, to)))

pub returns-in_default-first_from-2-clause-least : goal.returns-in_default-first_from-2-clause-least
returns-in_default-first_from-2-clause-least g c by n lesser owned =
    none_read c.args.compared.now.regions.now c.args.compared.now.allowed.now c.args.i c.index-regions-i.result c.requires.index c.index-regions-i.is by n c.args.owners.now c.in-Some.range
    lesser owned c.in-Some.ensures (λ a j from to. c.in_default-first_from.ensures a j from)
