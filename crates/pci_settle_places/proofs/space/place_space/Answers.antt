use Rattle.std.proofs.Common.{◌+◌, ◌∙◌, arith, sym, ap, subst}
use Rattle.pci_base.specs.Space.{space_of}
use Rattle.pci_function.specs.declared.record.Record.{Record}
use Rattle.pci_place.specs.Above.{system_in}
use Rattle.pci_place.proofs.Records.{lent, same_count}
use Rattle.pci_first_fit.specs.Lists.{lists_value}
use Rattle.pci_settle_places.specs.Candidates.{pass_of}
use Rattle.pci_settle_places.specs.Spaces.{AreNotedOnRoots}
use Rattle.pci_settle_places.proofs.SpaceSteps.{IsSpaceTo, known_of, roots_lack, roots_others, roots_placed, bus_off, told_ends, space_same, space_more, space_all, none_if_some, none_of}
use Rattle.pci_settle_places.proofs.space.place_space.Goals as goal
use Rattle.pci_settle_places.proofs.space.place_space.Goals.{in-Some+in_ok-place_behind, in_default}

pub place_on_roots-requires-clause-known : goal.place_on_roots-requires-clause-known
place_on_roots-requires-clause-known g c =
    known_of c.args.pass.now.setting.now.admitted.now.roots (system_in c.args.pass.now.setting.now.admitted.now) (space_of c.args.pass.now.space) (lists_value c.args.lists.now) c.args.pass.now.setting.now.terms c.args.pass.now.setting.now.staying c.args.pass.now.windows.now c.requires.known c.requires.windows

pub place_behind-requires-clause-known : goal.place_behind-requires-clause-known
place_behind-requires-clause-known g c =
    known_of c.args.pass.now.setting.now.admitted.now.roots (system_in c.args.pass.now.setting.now.admitted.now) (space_of c.args.pass.now.space) (lists_value c.args.lists.now) c.args.pass.now.setting.now.terms c.args.pass.now.setting.now.staying c.args.pass.now.windows.now c.requires.known c.requires.windows

pub returns-then-is_some-clause-placed : goal.returns-then-is_some-clause-placed
returns-then-is_some-clause-placed g c = λ q keep anew same has. (
    let admitted = c.outline-outline.ensures.admitted in
    record {
      lack_is = roots_lack c.args.pass.now.setting.now.admitted.now.roots (system_in c.args.pass.now.setting.now.admitted.now) admitted.system admitted.nested (space_of c.args.pass.now.space) (lists_value c.args.lists.now) c.args.pass.now.setting.now.terms c.args.pass.now.setting.now.staying c.args.pass.now.windows.now c.requires.known c.requires.windows
          c.args.table.now c.place_on_roots.new.table c.in_ok-lack.lack c.in_ok-lack.ensures.noted q keep anew same has;
      places = none_if_some c.in_ok-lack.lack _ (sym c.is_some.ensures ∙ c.if-is_some.true);
    })

pub returns-then-is_some-clause-others : goal.returns-then-is_some-clause-others
returns-then-is_some-clause-others g c =
    let admitted = c.outline-outline.ensures.admitted in
    roots_others c.args.pass.now.setting.now.admitted.now.roots (system_in c.args.pass.now.setting.now.admitted.now) admitted.system admitted.nested (space_of c.args.pass.now.space) (lists_value c.args.lists.now) c.args.pass.now.setting.now.terms c.args.pass.now.setting.now.staying c.args.pass.now.windows.now c.requires.known c.requires.windows
    c.args.table.now c.place_on_roots.new.table c.in_ok-lack.lack c.place_on_roots.auto.table c.in_ok-lack.ensures.noted

pub loop-function-init : goal.loop-function-init
loop-function-init g c =
    let admitted = c.outline-outline.ensures.admitted in
    let s = system_in c.args.pass.now.setting.now.admitted.now in
    let l = lists_value c.args.lists.now in
    roots_placed c.args.pass.now.setting.now.admitted.now.roots s admitted.system admitted.nested (space_of c.args.pass.now.space) l c.args.pass.now.setting.now.terms c.args.pass.now.setting.now.staying c.args.pass.now.windows.now c.requires.known c.requires.windows
    c.args.table.now c.place_on_roots.new.table c.requires.count c.place_on_roots.auto.table c.requires.none
    (subst (AreNotedOnRoots (pass_of c.args.pass.now.setting.now.admitted.now (space_of c.args.pass.now.space) c.args.pass.now.setting.now.terms c.args.pass.now.setting.now.staying c.args.pass.now.windows.now) l c.args.table.now c.place_on_roots.new.table)
    (none_of c.in_ok-lack.lack (sym c.is_some.ensures ∙ c.if-is_some.false)) c.in_ok-lack.ensures.noted)

pub place_behind-requires-clause-behind : goal.place_behind-requires-clause-behind
place_behind-requires-clause-behind g c =
    let admitted = c.outline-outline.ensures.admitted in
    let s = system_in c.args.pass.now.setting.now.admitted.now in
    let records = c.records-records.result.now in
    let has = lent s records c.records-records.ensures.value c.outline-outline.ensures.records in
    bus_off c.args.pass.now.setting.now.admitted.now.roots s admitted.system admitted.nested (space_of c.args.pass.now.space) (lists_value c.args.lists.now) c.args.pass.now.setting.now.terms c.args.pass.now.setting.now.staying c.args.pass.now.windows.now c.requires.known c.requires.windows
    records has c.loop-function.function c.index-records-function.result c.loop-function-test.true c.index-records-function.is c.args.table.now c.loop-function.table c.loop-function.invariant
    c.in-Some.bridge (ap (λ (x : Record). x.bridge) c.index-records-function.is ∙ c.in-Some.is)

pub place_behind-requires-clause-ending : goal.place_behind-requires-clause-ending
place_behind-requires-clause-ending g c =
    let admitted = c.outline-outline.ensures.admitted in
    let s = system_in c.args.pass.now.setting.now.admitted.now in
    let records = c.records-records.result.now in
    let has = lent s records c.records-records.ensures.value c.outline-outline.ensures.records in
    told_ends c.args.pass.now.setting.now.admitted.now.roots s admitted.system admitted.nested (space_of c.args.pass.now.space) (lists_value c.args.lists.now) c.args.pass.now.setting.now.terms c.args.pass.now.setting.now.staying c.args.pass.now.windows.now c.requires.known c.requires.windows
    records has c.loop-function.function c.index-records-function.result c.loop-function-test.true c.index-records-function.is c.args.table.now c.loop-function.table c.loop-function.invariant
    c.in-Some.bridge (ap (λ (x : Record). x.bridge) c.index-records-function.is ∙ c.in-Some.is)

pub loop-function-preserved : goal.loop-function-preserved
loop-function-preserved g c =
    let roots = c.args.pass.now.setting.now.admitted.now.roots in
    let admitted = c.outline-outline.ensures.admitted in
    let s = system_in c.args.pass.now.setting.now.admitted.now in
    let space = space_of c.args.pass.now.space in
    let l = lists_value c.args.lists.now in
    let records = c.records-records.result.now in
    let has = lent s records c.records-records.ensures.value c.outline-outline.ensures.records in
    elim c.match-records-function.branch [
      | in-Some+in_ok-place_behind w ↦
          subst (IsSpaceTo roots s space l c.args.pass.now.setting.now.terms c.args.pass.now.setting.now.staying c.args.pass.now.windows.now (c.loop-function.function + 1) c.args.table.now) (sym w.table-is)
          (space_more roots s admitted.system admitted.nested space l c.args.pass.now.setting.now.terms c.args.pass.now.setting.now.staying c.args.pass.now.windows.now c.requires.known c.requires.windows records has c.loop-function.function c.index-records-function.result
          c.loop-function-test.true c.index-records-function.is c.args.table.now c.loop-function.table c.loop-function.invariant w.in-Some.bridge (ap (λ (x : Record). x.bridge) c.index-records-function.is ∙ w.in-Some.is)
          w.place_behind.new.table w.place_behind.auto.table w.in_ok-place_behind.ensures.noted)
      | in_default w ↦
          subst (IsSpaceTo roots s space l c.args.pass.now.setting.now.terms c.args.pass.now.setting.now.staying c.args.pass.now.windows.now (c.loop-function.function + 1) c.args.table.now) (sym w.table-is)
          (space_same roots s admitted.system admitted.nested space l c.args.pass.now.setting.now.terms c.args.pass.now.setting.now.staying c.args.pass.now.windows.now c.requires.known c.requires.windows records has c.loop-function.function c.index-records-function.result
          c.loop-function-test.true c.index-records-function.is c.args.table.now c.loop-function.table c.loop-function.invariant (ap (λ (x : Record). x.bridge) c.index-records-function.is ∙ w.in_default.is))
    ]

pub returns-clause-placed : goal.returns-clause-placed
returns-clause-placed g c =
    let admitted = c.outline-outline.ensures.admitted in
    let s = system_in c.args.pass.now.setting.now.admitted.now in
    let records = c.records-records.result.now in
    let has = lent s records c.records-records.ensures.value c.outline-outline.ensures.records in
    let count = same_count s records has in
    let past = c.loop-function-test.false in
    space_all c.args.pass.now.setting.now.admitted.now.roots s admitted.system admitted.nested (space_of c.args.pass.now.space) (lists_value c.args.lists.now) c.args.pass.now.setting.now.terms c.args.pass.now.setting.now.staying c.args.pass.now.windows.now c.requires.known c.requires.windows
    c.loop-function.function (omega (arith, count, past)) c.args.table.now c.loop-function.table c.loop-function.invariant
