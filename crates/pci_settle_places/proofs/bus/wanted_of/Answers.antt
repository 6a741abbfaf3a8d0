use Rattle.std.proofs.Common.{[], get_or, ◌∙◌, ap, sym}
use Rattle.pci_base.specs.WindowKinds.{kind_value}
use Rattle.pci_function.specs.declared.record.Record.{Record}
use Rattle.pci_tree.specs.Roots.{buses_of}
use Rattle.pci_settle_places.specs.Columns.{kind_number, candidate_wanted}
use Rattle.pci_settle_places.proofs.Added.{more_of, all_of}
use Rattle.pci_settle_places.proofs.Wanted.{no_candidate, wanted_more}
use Rattle.pci_settle_places.proofs.bus.wanted_of.Goals as goal

pub loop-candidate-preserved : goal.loop-candidate-preserved
loop-candidate-preserved g c = λ s has.
    more_of (candidate_wanted (buses_of c.args.roots.now) s c.args.told.now.places.now c.args.told.now.grown.now) [] c.args.candidates.now c.loop-candidate.candidate-index no_candidate c.loop-candidate.wanted.items _ c.loop-candidate-test.true (c.loop-candidate.invariant s has)
    (c.in_ok-push.ensures.items
    ∙ wanted_more (buses_of c.args.roots.now) s c.args.records.now has c.args.told.now.places.now c.args.told.now.grown.now (get_or c.args.candidates.now c.loop-candidate.candidate-index no_candidate)
    (c.requires c.loop-candidate.candidate-index no_candidate c.loop-candidate-test.true) c.index-records-item.result c.index-records-item.is c.bus-bus.result (c.bus-bus.ensures ∙ ap (λ (x : Record). x.slot.bus) (sym c.index-records-item.is))
    c.column.result c.column.ensures.exact c.kind_number.result (c.kind_number.ensures.exact ∙ ap (kind_number (kind_value (get_or c.args.candidates.now c.loop-candidate.candidate-index no_candidate).class)) c.is_high.ensures) c.told_place-at.result c.told_place-at.ensures c.loop-candidate.wanted.items)

pub returns : goal.returns
returns g c = λ s has.
    all_of (candidate_wanted (buses_of c.args.roots.now) s c.args.told.now.places.now c.args.told.now.grown.now) [] c.args.candidates.now c.loop-candidate.candidate-index c.loop-candidate.wanted.items c.loop-candidate-test.false (c.loop-candidate.invariant s has)
