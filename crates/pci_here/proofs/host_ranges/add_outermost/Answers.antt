use Rattle.std.proofs.Common.{sym, ◌∙◌, ap}
use Rattle.std.specs.List.{list_any}
use Rattle.pci_here.specs.HostRanges.{lies_within_same_bus, outer_ranges}
use Rattle.pci_here.proofs.Outer.{step_within, step_more}
use Rattle.pci_here.proofs.host_ranges.add_outermost.Goals as goal

pub returns-then-lies_in_one : goal.returns-then-lies_in_one
returns-then-lies_in_one c = λ more.
    step_within c.args.list.now.items more c.args.range.now
    (sym (ap (list_any (lies_within_same_bus c.args.range.now)) c.as_slice.ensures.value) ∙ sym c.lies_in_one.ensures ∙ c.if-lies_in_one.true)

pub returns : goal.returns
returns c = λ more.
    step_more c.args.list.now.items more c.args.range.now
    (sym (ap (list_any (lies_within_same_bus c.args.range.now)) c.as_slice.ensures.value) ∙ sym c.lies_in_one.ensures ∙ c.if-lies_in_one.false)
    ∙ ap (λ l. outer_ranges l more) (sym c.in_ok-push.ensures.items)
