use Rattle.std.proofs.Common.{◌≡◌, ◌<◌, false, length, map, replicate, sym, ap, ◌∙◌, subst, arith}
use Rattle.std.specs.List.{All}
use Rattle.std.proofs.lemmas.List.{length-map}
use Rattle.settle_laws.specs.StandingTold.Passes.{AreRangesInOrder}
use Rattle.pci_kept.specs.RangePass.{region_at, all_turns, AreStandingRanges}
use Rattle.pci_kept.proofs.Turns.{all_low, in_turn, passed_none, stand_by_flags}
use Rattle.pci_kept.proofs.Whole.{slice_back}
use Rattle.pci_kept.proofs.standing_ranges.flags_in_turn.Goals as goal

pub note_ranges-requires-clause-turns : goal.note_ranges-requires-clause-turns
note_ranges-requires-clause-turns g c =
    let count = length c.args.told.now.ranges.now in
    subst (All (λ index. index < count)) (sym (c.as_slice.ensures.value ∙ c.in_ok-turns.ensures)) (all_low c.args.told.now.lines.now count c.requires.lines)

pub returns-clause-flags : goal.returns-clause-flags
returns-clause-flags g c = λ q s tree same standing held parts lines.
    let turns = c.as_slice.result.now in
    let turns_are : turns ≡ all_turns c.args.told.now.lines.now = c.as_slice.ensures.value ∙ c.in_ok-turns.ensures in
    let xs = map (region_at q) turns in
    let ordered : AreRangesInOrder q s xs = subst (λ ts. AreRangesInOrder q s (map (region_at q) ts)) (sym turns_are) (in_turn q s c.args.told.now.lines.now lines) in
    let begun = c.as_mut_slice.result.now in
    let count = length c.args.told.now.ranges.now in
    let none : begun ≡ replicate count false = c.as_mut_slice.ensures.value ∙ c.in_ok-flags.ensures.items_if_clones_equal (λ y same. same) in
    let start = passed_none q s xs ordered count begun none (ap length same) c.new-taken.result.items c.new-taken.ensures.items in
    let ended = c.in_ok-note_ranges.ensures.passed q s tree same standing held parts lines ordered start in
    let size = length-map turns (region_at q) in
    let flags = c.note_ranges.new.flags in
    let whole = stand_by_flags q s xs ordered (length turns) c.note_ranges.new.taken.items flags (omega (arith, size)) ended in
    let long = c.in_ok-flags.flags.ok.0 in
    subst (AreStandingRanges q s) (sym (slice_back c.in_ok-flags.flags.len flags c.in_ok-flags.flags.items (c.note_ranges.auto.flags ∙ ap length c.as_mut_slice.ensures.value) (omega (arith, long)))) whole
