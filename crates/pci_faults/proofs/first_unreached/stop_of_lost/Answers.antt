use Rattle.pci_claims.specs.Values.{code_given_value}
use Rattle.pci_faults.proofs.Homes.{never_where_reached}
use Rattle.pci_faults.proofs.first_unreached.stop_of_lost.Goals as goal

pub returns-then-is_whole : goal.returns-then-is_whole
returns-then-is_whole g c =
    never_where_reached (code_given_value c.args.given.now) c.args.outline.now c.args.reached.now c.args.one.now c.requires.nested c.requires.reached (c.is_whole.ensures c.if-is_whole.true)
    (c.may_be_cut.ensures.never c.if-may_be_cut.false)
