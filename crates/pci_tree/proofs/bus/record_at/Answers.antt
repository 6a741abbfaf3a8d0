use Rattle.std.proofs.Common.{arith, ◌∙◌, ap}
use Rattle.std.proofs.lemmas.Bool.{both_ways}
use Rattle.std.proofs.lemmas.List.{get_or_default}
use Rattle.pci_function.specs.declared.record.Record.{Record}
use Rattle.pci_tree.proofs.SlotSearch.{no_record, same_by_numbers}
use Rattle.pci_tree.proofs.bus.record_at.Goals as goal

pub returns-then-index-records : goal.returns-then-index-records
returns-then-index-records c =
    no_record c.args.records.now c.args.slot c.first_not_below-index.result c.requires c.first_not_below-index.ensures.before c.first_not_below-index.ensures.after
    (λ r within at. omega (arith, within, c.if-index-records.true))

pub returns-else-eq : goal.returns-else-eq
returns-else-eq c =
    no_record c.args.records.now c.args.slot c.first_not_below-index.result c.requires c.first_not_below-index.ensures.before c.first_not_below-index.ensures.after
    (λ r within at. both_ways c.eq.result c.if-eq.false ((same_by_numbers c.index-records-index.result.slot c.args.slot c.eq.result c.eq.ensures).1
    (ap (λ (x : Record). x.slot) (c.index-records-index.is ∙ get_or_default c.args.records.now c.first_not_below-index.result c.index-records-index.result r within) ∙ at)))
