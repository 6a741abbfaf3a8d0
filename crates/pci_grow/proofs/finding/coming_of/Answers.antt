use Rattle.std.proofs.Common.{ap, ◌∙◌, sym}
use Rattle.pci_function.specs.declared.record.Record.{Record}
use Rattle.pci_place.specs.Above.{system_in}
use Rattle.pci_place.specs.Items.{function_in}
use Rattle.pci_place.proofs.Records.{lent}
use Rattle.pci_kept.proofs.HeldTables.{record_at}
use Rattle.pci_grow.specs.There.{tables_of}
use Rattle.pci_grow.specs.Telling.{setting_value}
use Rattle.pci_grow.proofs.Taking.{no_bridge, no_reach, window_of, there_told_is, behind_in_order}
use Rattle.pci_grow.proofs.Told.{function_is}
use Rattle.pci_grow.proofs.finding.coming_of.Goals as goal

pub returns-in_default-clause-comes : goal.returns-in_default-clause-comes
returns-in_default-clause-comes g c = λ q number count next.
    let s = system_in c.args.setting.now.classing.now.admitted.now in
    let k = c.args.region.now.function in
    let x = c.index-records-region.result in
    let is = record_at s c.records-records.result.now (lent s c.records-records.result.now c.records-records.ensures.value c.outline.ensures.records) k (function_in s k) (function_is s k c.requires.function) x c.index-records-region.is in
    absurd (no_bridge (setting_value c.args.setting.now) (tables_of c.args.there.now) c.args.region.now c.args.class c.requires.window q number count next x is (ap (λ (y : Record). y.bridge) c.index-records-region.is ∙ c.in_default.is))

pub returns-in_default-told_of-clause-comes : goal.returns-in_default-told_of-clause-comes
returns-in_default-told_of-clause-comes g c = λ q number count next.
    absurd (no_reach (setting_value c.args.setting.now) (tables_of c.args.there.now) c.args.region.now c.args.class c.requires.window q number count next (sym c.in_default-told_of.ensures))

pub comes_to-requires-clause-listed : goal.comes_to-requires-clause-listed
comes_to-requires-clause-listed g c =
    let s = system_in c.args.setting.now.classing.now.admitted.now in
    let k = c.args.region.now.function in
    let x = c.index-records-region.result in
    let is = record_at s c.records-records.result.now (lent s c.records-records.result.now c.records-records.ensures.value c.outline.ensures.records) k (function_in s k) (function_is s k c.requires.function) x c.index-records-region.is in
    let some = c.requires.next in
    behind_in_order (setting_value c.args.setting.now) (tables_of c.args.there.now) c.args.region.now c.args.class c.requires.window some.request some.number some.count some.is x is c.in-Some.bridge (ap (λ (y : Record). y.bridge) c.index-records-region.is ∙ c.in-Some.is)

pub returns-clause-comes : goal.returns-clause-comes
returns-clause-comes g c = λ q number count next.
    let s = system_in c.args.setting.now.classing.now.admitted.now in
    let k = c.args.region.now.function in
    let x = c.index-records-region.result in
    let is = record_at s c.records-records.result.now (lent s c.records-records.result.now c.records-records.ensures.value c.outline.ensures.records) k (function_in s k) (function_is s k c.requires.function) x c.index-records-region.is in
    c.in_ok-coming.ensures.comes q (function_in s k) next.growing
    (window_of (setting_value c.args.setting.now) (tables_of c.args.there.now) c.args.region.now c.args.class c.requires.window q number count next x is c.in-Some.bridge (ap (λ (y : Record). y.bridge) c.index-records-region.is ∙ c.in-Some.is)
    c.in-Some-told_of.reach (sym c.in-Some-told_of.ensures))
    (there_told_is (setting_value c.args.setting.now) (tables_of c.args.there.now) c.args.region.now c.args.class c.requires.window q number count next)

pub comes_to-requires-clause-rows : goal.comes_to-requires-clause-rows
comes_to-requires-clause-rows g c = c.requires.next.is.growing.line_rows
