use Rattle.std.proofs.Common.{◌++◌, map, ap, ◌∙◌, arith}
use Rattle.std.proofs.lemmas.List.{take_all}
use Rattle.std.specs.List.{filter, flat_map}
use Rattle.pci_image.specs.Bars.{decoded_bar_of}
use Rattle.pci_function.specs.Values.{record_value}
use Rattle.pci_function.specs.declared.record.Record.{Record}
use Rattle.pci_claims.specs.Values.{told_value}
use Rattle.pci_claims.specs.Off.{off_value, OffBar, is_bar_off, off_record_parts}
use Rattle.pci_claims.proofs.OffParts.{records_more, parts_of_system}
use Rattle.pci_claims.proofs.off.all_off.Goals as goal

pub loop-function-preserved : goal.loop-function-preserved
loop-function-preserved g c =
    let told = told_value c.args.told.now in
    let r : Record = c.function-item.result in
    record {
      parts = λ s tree. records_more told s c.records-function-items.result.now c.loop-function.function-index r (map off_value c.loop-function.off.items) (map off_value c.add_bars.new.off.items) (map off_value c.add_ranges.new.off.items)
          c.loop-function-test.true c.function-item.is (c.loop-function.invariant.parts s tree)
          (c.in_ok-add_bars.ensures.parts ∙ ap (λ bs. map off_value c.loop-function.off.items ++ map (OffBar r.slot) (filter (is_bar_off r.command) (map decoded_bar_of bs))) c.as_slice.ensures.value)
          (c.in_ok-add_ranges.ensures.parts s (c.requires.on.each s tree));
      lines = c.in_ok-add_ranges.ensures.lines;
    }

pub returns-clause-parts : goal.returns-clause-parts
returns-clause-parts g c = λ s tree.
    let told = told_value c.args.told.now in
    let all = c.records-function-items.result.now in
    let past = c.loop-function-test.false in
    c.loop-function.invariant.parts s tree
    ∙ ap (λ rs. flat_map (off_record_parts told s) (map record_value rs)) (take_all c.loop-function.function-index all (omega (arith, past)))
    ∙ ap (flat_map (off_record_parts told s)) c.records-function-items.ensures.value
    ∙ parts_of_system told s c.args.outline.now.records tree.records
