use Rattle.std.proofs.Common.{arith, ap, subst, sym, ◌-◌, ◌+◌}
use Rattle.std.specs.Vec.{vec_len}
use Rattle.pci_picture.specs.Seats.{HaveWindowsUpTo}
use Rattle.pci_picture.proofs.Counted.{AreCounted, added_counted, none_counted, opened_counted}
use Rattle.pci_picture.proofs.Crowded.{AreCrowded, all_together, none_crowded}
use Rattle.pci_picture.proofs.SeatedUpTo.{IsSeatedUpTo, all_apart, all_parents, never_empty, none_read, none_seated, one_crowded, one_read, windows_more}
use Rattle.pci_picture.proofs.lanes.seats_of.Goals as goal
use Rattle.pci_picture.proofs.lanes.seats_of.Goals.{in-Some+in_ok-add, in_default}

pub loop-region-init : goal.loop-region-init
loop-region-init g c = record {
  seated = none_seated c.args.regions.now c.new.result.items c.new-levels.result.items c.new.ensures.items c.new-levels.ensures.items;
  counted = none_counted c.new.result.items c.new-2.result.items c.new-levels.result.items c.new.ensures.items c.new-levels.ensures.items;
  windows = λ deep i d less. absurd (omega arith);
  crowded = λ indented rise.
      none_crowded c.args.regions.now c.new.result.items c.new-2.result.items c.new-levels.result.items c.new-2.ensures.items c.new-levels.ensures.items;
}

pub loop-region-preserved : goal.loop-region-preserved
loop-region-preserved g c = record {
  seated =
      elim c.match-last_mut.branch [
        | in-Some+in_ok-add w ↦
            let some = (w.in-Some.ensures.item.3).0 in
            subst (λ s. IsSeatedUpTo c.args.regions.now (c.loop-region.region-index + 1) s.seats.items c.match-last_mut.levels.items) (sym w.seats-is)
            (one_read c.args.regions.now c.loop-region.region-index (vec_len c.open_level.new.levels - 1) c.len.result c.loop-region.seats.seats.items
            w.add.new.self.seats.items c.loop-region.levels.items c.open_level.new.levels.items c.match-last_mut.levels.items w.in-Some.level.now w.add.new.level
            c.region-item.result (omega arith) c.region-item.is (omega arith) c.in_ok-open_level.ensures.kept c.in_ok-open_level.ensures.opened
            (omega arith) (w.in-Some.ensures.item.3).1 w.in_ok-add.ensures.given (ap (λ v. v.items) w.levels-is) c.loop-region.invariant.seated)
        | in_default w ↦
            none_read c.args.regions.now c.loop-region.region-index c.len.result (c.loop-region.region-index + 1) c.match-last_mut.seats.seats.items
            c.loop-region.levels.items c.open_level.new.levels.items c.match-last_mut.levels.items c.region-item.result (omega arith) c.region-item.is
            c.in_ok-open_level.ensures.kept c.in_ok-open_level.ensures.opened (omega (arith, w.in_default.ensures.item.3))
      ];
  counted =
      let mid = opened_counted c.len.result c.region-item.result.depth c.loop-region.seats.seats.items c.loop-region.seats.lanes.items
      c.loop-region.levels.items c.open_level.new.levels.items c.in_ok-open_level.ensures.kept c.in_ok-open_level.ensures.opened c.loop-region.invariant.counted in
      elim c.match-last_mut.branch [
        | in-Some+in_ok-add w ↦
            subst (λ s. AreCounted s.seats.items s.lanes.items c.match-last_mut.levels.items) (sym w.seats-is)
            (added_counted (vec_len c.open_level.new.levels - 1) c.loop-region.seats.seats.items w.add.new.self.seats.items
            c.loop-region.seats.lanes.items w.add.new.self.lanes.items c.open_level.new.levels.items c.match-last_mut.levels.items
            w.in-Some.level.now w.add.new.level (let some = (w.in-Some.ensures.item.3).0 in omega arith) (w.in-Some.ensures.item.3).1
            (ap (λ v. v.items) w.levels-is) w.in_ok-add.ensures.lane mid)
        | in_default w ↦
            subst (λ s. AreCounted s.seats.items s.lanes.items c.match-last_mut.levels.items) (sym w.seats-is)
            (subst (λ v. AreCounted c.loop-region.seats.seats.items c.loop-region.seats.lanes.items v.items) (sym w.levels-is) mid)
      ];
  windows = λ deep. elim c.match-last_mut.branch [
    | in-Some+in_ok-add w ↦
        subst (λ s. HaveWindowsUpTo c.args.regions.now (c.loop-region.region-index + 1) s.seats.items) (sym w.seats-is)
        (windows_more c.args.regions.now c.loop-region.region-index c.loop-region.seats.seats.items w.add.new.self.seats.items c.region-item.result
        (omega arith) c.region-item.is (c.loop-region.invariant.seated.count deep) w.in_ok-add.ensures.window (c.loop-region.invariant.windows deep))
    | in_default w ↦
        absurd (never_empty c.args.regions.now c.loop-region.region-index c.len.result c.loop-region.levels.items c.open_level.new.levels.items
        c.region-item.result (omega arith) c.region-item.is c.in_ok-open_level.ensures.kept c.in_ok-open_level.ensures.opened
        (omega (arith, w.in_default.ensures.item.3)) deep)
  ];
  crowded = λ indented rise. elim c.match-last_mut.branch [
    | in-Some+in_ok-add w ↦
        let some = (w.in-Some.ensures.item.3).0 in
        subst (λ s. AreCrowded c.args.regions.now (c.loop-region.region-index + 1) s.seats.items s.lanes.items c.match-last_mut.levels.items) (sym w.seats-is)
        (one_crowded c.args.regions.now c.loop-region.region-index (vec_len c.open_level.new.levels - 1) c.len.result c.loop-region.seats.seats.items
        w.add.new.self.seats.items c.loop-region.seats.lanes.items w.add.new.self.lanes.items c.loop-region.levels.items c.open_level.new.levels.items
        c.match-last_mut.levels.items w.in-Some.level.now w.add.new.level c.region-item.result (omega arith) c.region-item.is (omega arith)
        c.in_ok-open_level.ensures.kept c.in_ok-open_level.ensures.opened (omega arith) (w.in-Some.ensures.item.3).1 w.in_ok-add.ensures.given
        w.in_ok-add.ensures.lane (ap (λ v. v.items) w.levels-is) indented rise c.loop-region.invariant.seated c.loop-region.invariant.counted.have
        (c.loop-region.invariant.crowded indented rise))
    | in_default w ↦
        absurd (never_empty c.args.regions.now c.loop-region.region-index c.len.result c.loop-region.levels.items c.open_level.new.levels.items
        c.region-item.result (omega arith) c.region-item.is c.in_ok-open_level.ensures.kept c.in_ok-open_level.ensures.opened
        (omega (arith, w.in_default.ensures.item.3)) indented.deep)
  ];
}

pub returns : goal.returns
returns g c = record {
  count = λ deep. let is = c.loop-region.invariant.seated.count deep in omega arith;
  parents = λ indented. all_parents c.args.regions.now c.loop-region.region-index c.loop-region.seats.seats.items c.loop-region.levels.items
      (omega arith) c.loop-region.invariant.seated indented;
  apart = λ indented rise. all_apart c.args.regions.now c.loop-region.region-index c.loop-region.seats.seats.items c.loop-region.levels.items
      (omega arith) c.loop-region.invariant.seated indented rise;
  lanes = c.loop-region.invariant.counted.have;
  windows = λ deep. subst (λ n. HaveWindowsUpTo c.args.regions.now n c.loop-region.seats.seats.items) (omega arith) (c.loop-region.invariant.windows deep);
  together = λ indented rise. all_together c.args.regions.now c.loop-region.region-index c.loop-region.seats.seats.items
      c.loop-region.seats.lanes.items c.loop-region.levels.items (omega arith)
      (all_parents c.args.regions.now c.loop-region.region-index c.loop-region.seats.seats.items c.loop-region.levels.items (omega arith)
      c.loop-region.invariant.seated indented) (c.loop-region.invariant.crowded indented rise);
}
