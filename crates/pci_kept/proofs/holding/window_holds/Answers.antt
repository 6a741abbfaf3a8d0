use Rattle.std.proofs.Common.{◌≡◌, ◌<◌, ◌^◌, false, true, sym, ◌∙◌, ap, subst, rules, Some}
use Rattle.std.specs.Option.{is_some}
use Rattle.std.proofs.lemmas.Bool.{false_from_ne_true}
use Rattle.pci_spec.specs.System.{Window, is_bridge}
use Rattle.pci_spec.specs.Bus.{is_root, secondary}
use Rattle.pci_spec.specs.Decoded as decoded
use Rattle.plan_spec.specs.Plan.{is_open}
use Rattle.plan_spec.specs.Planning.Layout.{range_of}
use Rattle.settle_spec.proofs.Nested.{at_secondary, is_no_root}
use Rattle.pci_base.specs.Ranges.{decoded_range_of}
use Rattle.pci_base.specs.WindowKinds.{kind_value, by_kind}
use Rattle.pci_function.specs.declared.record.Record.{Record}
use Rattle.pci_image.specs.Windows.{window_of}
use Rattle.pci_tree.specs.Passes.{range_in}
use Rattle.pci_tree.proofs.Lifting.{same_bridge}
use Rattle.pci_tree.proofs.RegionParts.{same_bridge_of}
use Rattle.pci_place.specs.Above.{system_in}
use Rattle.pci_place.proofs.Records.{lent}
use Rattle.pci_first_fit.specs.Buses.{AreBehind, classing_value}
use Rattle.pci_kept.proofs.OfRecord.{window_is}
use Rattle.pci_kept.specs.Holding.{HasNewBeside, told_in}
use Rattle.pci_kept.proofs.Marks.{room_beside}
use Rattle.pci_kept.proofs.HeldTables.{record_at, none_closed, some_range, some_open, told_kept, unnoted_holds, other_holds, closed_holds, noted_stands, noted_holds}
use Rattle.pci_kept.proofs.holding.window_holds.Goals as goal

pub returns-then-not-window : goal.returns-then-not-window
returns-then-not-window g c = λ q f asking at held.
    unnoted_holds q (system_in c.args.behind.now.classing.now.admitted.now) asking.system asking.nested c.args.function f at c.args.table.now held (kind_value c.args.class) (sym c.window.ensures ∙ c.if-not-window.true)

pub returns-in_default : goal.returns-in_default
returns-in_default g c = λ q f asking at held.
    let s = system_in c.args.behind.now.classing.now.admitted.now in
    let r = c.index-records-function.result in
    let is = record_at s c.records-records.result.now (lent s c.records-records.result.now c.records-records.ensures.value c.outline.ensures.records) c.args.function f at r c.index-records-function.is in
    let other : is_bridge f ≡ false = sym (same_bridge r f is.value) ∙ ap (λ (x : Record). is_some x.bridge) c.index-records-function.is ∙ ap is_some c.in_default.is in
    other_holds q s asking.system asking.nested c.args.function f at c.args.table.now held (kind_value c.args.class) other

pub returns-in_default-open_range : goal.returns-in_default-open_range
returns-in_default-open_range g c = λ q f asking at held.
    let s = system_in c.args.behind.now.classing.now.admitted.now in
    let r = c.index-records-function.result in
    let is = record_at s c.records-records.result.now (lent s c.records-records.result.now c.records-records.ensures.value c.outline.ensures.records) c.args.function f at r c.index-records-function.is in
    let class = kind_value c.args.class in
    let shown = window_is s f r c.in-Some.bridge is (ap (λ (x : Record). x.bridge) c.index-records-function.is ∙ c.in-Some.is) class in
    closed_holds q s asking.system asking.nested c.args.function f at c.args.table.now held class (none_closed f class _ shown (sym c.in_default-open_range.ensures))

pub returns : goal.returns
returns g c = λ q f asking at held.
    let s = system_in c.args.behind.now.classing.now.admitted.now in
    let r = c.index-records-function.result in
    let is = record_at s c.records-records.result.now (lent s c.records-records.result.now c.records-records.ensures.value c.outline.ensures.records) c.args.function f at r c.index-records-function.is in
    let b = c.in-Some.bridge in
    let b_is : r.bridge ≡ Some b = ap (λ (x : Record). x.bridge) c.index-records-function.is ∙ c.in-Some.is in
    let class = kind_value c.args.class in
    let bridge : is_bridge f ≡ true = sym (same_bridge r f is.value) ∙ ap is_some b_is in
    let to : secondary f ≡ b.secondary = sym (ap (λ (x : decoded.Bridge). x.secondary) (same_bridge_of r f b is.value b_is)) in
    let stand = sym (noted_stands q s asking.system asking.nested c.args.function f at c.args.table.now held class bridge) ∙ sym c.window.ensures ∙ c.if-not-window.false in
    let shown = window_is s f r b is b_is class in
    let range : decoded_range_of c.in-Some-open_range.range ≡ range_of f (Window class) = some_range f class (range_in (window_of b.windows class)) (decoded_range_of c.in-Some-open_range.range) shown (sym c.in-Some-open_range.ensures) in
    let shows : is_open f class ≡ true = some_open f class (range_in (window_of b.windows class)) (decoded_range_of c.in-Some-open_range.range) shown (sym c.in-Some-open_range.ensures) in
    let small : c.in-Some-open_range.range.last < 2 ^ 64 = search rules in
    let last : (range_of f (Window class)).last < 2 ^ 64 = subst (λ (x : decoded.Range). x.last < 2 ^ 64) range small in
    let keeps = told_in q s c.args.table.now in
    let beside : HasNewBeside q (classing_value c.args.behind.now.classing.now) class (by_kind c.args.behind.now.windows.now c.args.class) f = asking.new c.args.class f is.listed stand in
    let room = room_beside (classing_value c.args.behind.now.classing.now) q asking.system asking.nested class (by_kind c.args.behind.now.windows.now c.args.class) f shows last keeps b.secondary beside in
    noted_holds q s asking.system asking.nested c.args.function f at c.args.table.now held class c.in_ok-room.room bridge (sym c.window.ensures ∙ c.if-not-window.false)
    (c.in_ok-room.ensures q (told_in q s c.args.table.now) f record {
      system = asking.system;
      extent = room.extent;
      listed = record {
        left = asking.left;
        keeps_is = told_kept q s asking.system asking.nested c.args.table.now;
        behind = subst (AreBehind q s class room.extent b.secondary) (sym c.get.ensures) room.behind;
      };
      parts = asking.parts;
      told = asking.told;
      bus_is = to;
      no_root = false_from_ne_true (is_root q.roots b.secondary)
          (λ root. is_no_root q.roots s asking.system asking.nested f b.secondary is.listed bridge (at_secondary q.roots s asking.system asking.nested f b.secondary is.listed bridge to) root);
      range_is = range;
      same = room.same;
    })
