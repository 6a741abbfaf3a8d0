use Rattle.std.proofs.Common.{◌<◌, ◌∙◌, length, map, get_or, ap, arith, refl, subst, sym}
use Rattle.std.proofs.lemmas.List.{length-map, get_or-map, get_or_default}
use Rattle.pci_kept.specs.RangePass.{IsTurn, region_at, no_range}
use Rattle.pci_kept.proofs.ranges.note_ranges.Goals as goal

pub loop-turn-preserved : goal.loop-turn-preserved
loop-turn-preserved g c = record {
  size = c.note_range.auto.flags ∙ c.loop-turn.invariant.size;
  apart = c.note_range.ensures.apart;
  passed = λ q s tree same standing held parts lines ordered start.
      (let turns = c.args.turns.now in
      let i = c.loop-turn.turn-index in
      let low = c.loop-turn-test.true in
      let index = get_or turns i 0 in
      let long = length-map turns (region_at q) in
      let inside = c.requires.turns i 0 low in
      let turn : IsTurn q (map (region_at q) turns) i index = record {
        x = region_at q index;
        within = omega (arith, low, long);
        there = get_or-map (region_at q) turns i index (region_at q index) low ∙ ap (region_at q) (get_or_default turns i index 0 low);
        is = get_or_default q.told.ranges index (region_at q index).told no_range (subst (λ xs. index < length xs) (sym same) inside);
        register = refl;
      } in
      c.in_ok-note_range.ensures.passed q s (map (region_at q) turns) i tree same standing held parts lines ordered turn
      (c.loop-turn.invariant.passed q s tree same standing held parts lines ordered start));
}
