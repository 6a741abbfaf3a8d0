use Rattle.std.proofs.Common.{arith}
use Rattle.std.proofs.lemmas.Bool.{ltb-true, ltb-false}
use Rattle.pci_picture.specs.declared.heights.Cut.{Cut}
use Rattle.pci_picture.proofs.Ruled.{are_heights, nothing_ruled, ruled_more}
use Rattle.pci_picture.proofs.Stacked.{more, none_yet}
use Rattle.pci_picture.proofs.heights.Heights.of.Goals as goal

pub loop-cut-init : goal.loop-cut-init
loop-cut-init g c =
    let begin = c.first_address-begin.result in
    let ruled = nothing_ruled c.args.base c.args.cuts.now begin c.first_address-begin.ensures.is_cut c.new.result.items c.new.ensures.items in
    record {
      fits = λ sorted fits. (none_yet c.args.cuts.now begin c.args.top (c.first_address-begin.ensures.least sorted) c.new.result.items c.new.ensures.items, ruled);
      uncut = λ sorted small. (none_yet c.args.cuts.now begin c.args.top (c.first_address-begin.ensures.least sorted) c.new.result.items c.new.ensures.items, ruled);
      down = omega arith;
    }

pub loop-cut-preserved : goal.loop-cut-preserved
loop-cut-preserved g c =
    let base = c.args.base in
    let cuts = c.args.cuts.now in
    let d : Cut = record { at = 0; end = 0 } in
    let begin = c.loop-cut.begin in
    let reach = c.loop-cut.reach in
    let bottom = c.loop-cut.heights.bottom in
    let old = c.loop-cut.heights.runs.items in
    let below = c.add.new.self.bottom in
    let new = c.add.new.self.runs.items in
    let told = c.in_ok-begin.ensures in
    record {
      fits = λ sorted fits.
          let up = c.loop-cut.invariant.fits sorted fits in (
            more base _ cuts c.loop-cut.cut-index c.first_address-begin.result c.args.top begin bottom c.in_ok-begin.begin below old new d
                up.0 sorted (omega arith) told.next told.same (λ less. told.added less (omega (arith, up.0.is_low, fits))),
            ruled_more base cuts c.loop-cut.cut-index begin reach bottom c.in_ok-begin.begin c.max-reach.result below old new d _
                up.1 sorted (omega arith) told.next c.max-reach.ensures (ltb-true begin reach) (ltb-false begin reach) (λ at. (told.same at).0) (λ less. told.added less (omega (arith, up.0.is_low, fits))),
          );
      uncut = λ sorted small.
          let up = c.loop-cut.invariant.uncut sorted (omega (arith, small, told.down)) in (
            more base _ cuts c.loop-cut.cut-index c.first_address-begin.result c.args.top begin bottom c.in_ok-begin.begin below old new d
                up.0 sorted (omega arith) told.next told.same (λ less. told.uncut less small),
            ruled_more base cuts c.loop-cut.cut-index begin reach bottom c.in_ok-begin.begin c.max-reach.result below old new d _
                up.1 sorted (omega arith) told.next c.max-reach.ensures (ltb-true begin reach) (ltb-false begin reach) (λ at. (told.same at).0) (λ less. told.uncut less small),
          );
      down = omega (arith, c.loop-cut.invariant.down, told.down);
    }

pub returns : goal.returns
returns g c =
    let cuts = c.args.cuts.now in
    let from = c.first_address-begin.result in
    let first = c.first_address-begin.ensures in
    record {
      fits = λ sorted fits.
          let up = c.loop-cut.invariant.fits sorted fits in
          are_heights c.args.base cuts c.loop-cut.cut-index from c.args.top c.loop-cut.begin c.loop-cut.reach c.loop-cut.heights.bottom
          c.loop-cut.heights.runs.items up.0 up.1 first.is_cut (first.least sorted) (omega arith);
      uncut = λ sorted small.
          let up = c.loop-cut.invariant.uncut sorted small in
          are_heights c.args.base cuts c.loop-cut.cut-index from c.args.top c.loop-cut.begin c.loop-cut.reach c.loop-cut.heights.bottom
          c.loop-cut.heights.runs.items up.0 up.1 first.is_cut (first.least sorted) (omega arith);
      down = c.loop-cut.invariant.down;
    }
