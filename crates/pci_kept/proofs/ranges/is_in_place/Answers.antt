use Rattle.std.proofs.Common.{◌∙◌, ◌||◌, not, ap, sym, arith, refl}
use Rattle.judge_spec.specs.Told.{ToldRange}
use Rattle.settle_spec.specs.Parts.{bridge_over}
use Rattle.settle_spec.specs.Stands.{are_bridges_on}
use Rattle.pci_base.specs.WindowKinds.{kind_value}
use Rattle.pci_function.specs.declared.record.Record.{Record}
use Rattle.pci_image.specs.Windows.{window_of}
use Rattle.pci_tree.specs.Passes.{range_in}
use Rattle.pci_first_fit.specs.Kept.{nothing_kept}
use Rattle.pci_first_fit.specs.Over.{range_holds}
use Rattle.pci_kept.proofs.InRangePlace.{under_none, leads, in_place_none, in_place_not, in_place_so}
use Rattle.pci_kept.proofs.ranges.is_in_place.Goals as goal

pub returns-in_default : goal.returns-in_default
returns-in_default c = λ q s tree standing is.
    let bus_is = c.bus-bus.ensures ∙ ap (λ (t : ToldRange). t.slot.bus) c.range.view_is in
    under_none q s c.args.records.now tree c.args.over.now c.requires.over c.args.table.now standing c.args.range.now c.args.line is c.if-line-eq0.false c.bus-bus.result bus_is (omega arith) c.in_default.is

pub returns-then-not-is_held : goal.returns-then-not-is_held
returns-then-not-is_held c = λ q s tree standing is.
    let bus_is = c.bus-bus.ensures ∙ ap (λ (t : ToldRange). t.slot.bus) c.range.view_is in
    let bridge = c.in-Some-bridge.bridge in
    in_place_none q s c.args.records.now tree c.args.over.now c.requires.over c.args.table.now standing c.args.range.now c.args.line is c.if-line-eq0.false c.bus-bus.result bus_is (omega arith)
    c.in-Some.index c.in-Some.is c.index-records-index.result c.index-records-index.is bridge (ap (λ (r : Record). r.bridge) c.index-records-index.is ∙ c.in-Some-bridge.is)
    c.is_held.result _ (c.is_held.ensures ∙ ap (range_holds (range_in (window_of bridge.windows (kind_value c.args.line.class)))) c.extent.ensures) nothing_kept refl c.if-not-is_held.true

pub returns-then-not-window : goal.returns-then-not-window
returns-then-not-window c = λ q s tree standing is.
    let bus_is = c.bus-bus.ensures ∙ ap (λ (t : ToldRange). t.slot.bus) c.range.view_is in
    let bridge = c.in-Some-bridge.bridge in
    in_place_not q s c.args.records.now tree c.args.over.now c.requires.over c.args.table.now standing c.args.range.now c.args.line is c.if-line-eq0.false c.bus-bus.result bus_is (omega arith)
    c.in-Some.index c.in-Some.is c.index-records-index.result c.index-records-index.is bridge (ap (λ (r : Record). r.bridge) c.index-records-index.is ∙ c.in-Some-bridge.is)
    c.is_held.result c.window.result (c.is_held.ensures ∙ ap (range_holds (range_in (window_of bridge.windows (kind_value c.args.line.class)))) c.extent.ensures) _ c.window.ensures c.if-not-window.true

pub returns-then-not-is_always : goal.returns-then-not-is_always
returns-then-not-is_always c = λ q s tree standing is.
    let bus_is = c.bus-bus.ensures ∙ ap (λ (t : ToldRange). t.slot.bus) c.range.view_is in
    let bridge = c.in-Some-bridge.bridge in
    let t = c.args.range.now in
    sym (ap (λ b. not b || are_bridges_on s t.space t.slot.bus) (sym c.is_always.ensures ∙ c.if-not-is_always.true))
    ∙ in_place_so q s c.args.records.now tree c.args.over.now c.requires.over c.args.table.now standing c.args.range.now c.args.line is c.if-line-eq0.false c.bus-bus.result bus_is (omega arith)
    c.in-Some.index c.in-Some.is c.index-records-index.result c.index-records-index.is bridge (ap (λ (r : Record). r.bridge) c.index-records-index.is ∙ c.in-Some-bridge.is)
    c.is_held.result c.window.result (c.is_held.ensures ∙ ap (range_holds (range_in (window_of bridge.windows (kind_value c.args.line.class)))) c.extent.ensures) _ c.window.ensures c.if-not-is_held.false c.if-not-window.false

pub returns : goal.returns
returns c = λ q s tree standing is.
    let bus_is = c.bus-bus.ensures ∙ ap (λ (t : ToldRange). t.slot.bus) c.range.view_is in
    let bridge = c.in-Some-bridge.bridge in
    let t = c.args.range.now in
    let over = leads q s c.args.records.now tree c.args.over.now c.requires.over c.args.table.now standing c.args.range.now c.args.line is c.if-line-eq0.false c.bus-bus.result bus_is (omega arith) c.in-Some.index c.in-Some.is c.index-records-index.result c.index-records-index.is in
    c.are_on.ensures q s _ tree (ap (bridge_over s) bus_is ∙ over)
    ∙ ap (are_bridges_on s _) bus_is
    ∙ ap (λ z. are_bridges_on s z t.slot.bus) (ap (λ (t : ToldRange). t.space) c.range.view_is)
    ∙ sym (ap (λ b. not b || are_bridges_on s t.space t.slot.bus) (sym c.is_always.ensures ∙ c.if-not-is_always.false))
    ∙ in_place_so q s c.args.records.now tree c.args.over.now c.requires.over c.args.table.now standing c.args.range.now c.args.line is c.if-line-eq0.false c.bus-bus.result bus_is (omega arith)
    c.in-Some.index c.in-Some.is c.index-records-index.result c.index-records-index.is bridge (ap (λ (r : Record). r.bridge) c.index-records-index.is ∙ c.in-Some-bridge.is)
    c.is_held.result c.window.result (c.is_held.ensures ∙ ap (range_holds (range_in (window_of bridge.windows (kind_value c.args.line.class)))) c.extent.ensures) _ c.window.ensures c.if-not-is_held.false c.if-not-window.false
