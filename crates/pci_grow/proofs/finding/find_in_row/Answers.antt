use Rattle.pci_grow.specs.There.{tables_of}
use Rattle.pci_grow.specs.Telling.{setting_value}
use Rattle.pci_grow.proofs.Rowing.{towards_first, some_next, some_inside, towards_more, towards_end}
use Rattle.pci_grow.proofs.finding.find_in_row.Goals as goal

pub loop-region-init : goal.loop-region-init
loop-region-init g c = towards_first (setting_value c.args.setting.now) c.args.number (tables_of c.args.there.now) c.in_row-row.result.now

pub note_one-requires-clause-function : goal.note_one-requires-clause-function
note_one-requires-clause-function g c = some_inside _ _ _ _ _ _ _ c.in_row-row.ensures c.loop-region.invariant c.loop-region-test.true _ c.requires.behind

pub note_one-requires-clause-next : goal.note_one-requires-clause-next
note_one-requires-clause-next g c = some_next _ _ _ _ _ _ _ c.in_row-row.ensures c.loop-region.invariant c.loop-region-test.true _ c.requires.behind

pub loop-region-preserved : goal.loop-region-preserved
loop-region-preserved g c =
    towards_more _ _ _ _ _ _ _ c.in_row-row.ensures c.loop-region.invariant c.loop-region-test.true _ _ c.in_ok-note_one.ensures _ c.range_of.ensures _ c.later-end.ensures

pub returns : goal.returns
returns g c = towards_end _ _ _ _ _ _ _ c.in_row-row.ensures c.loop-region.invariant c.loop-region-test.false
