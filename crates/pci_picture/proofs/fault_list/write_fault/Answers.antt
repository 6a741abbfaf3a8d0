use Rattle.std.proofs.Common.{◌≡◌, ◌<◌, ◌+◌, ◌-◌, ◌*◌, [], ◌++◌, Bor, List, ℕ, Some, get_or, map, take, ap, sym, subst, ◌∙◌, arith}
use Rattle.std.specs.String.{string_bytes}
use Rattle.pci_picture.specs.FaultLines.{fault_line, lines_of_reason, list_text}
use Rattle.pci_picture.specs.Labels.{label_text}
use Rattle.pci_picture.specs.Said.{lines_of_fault}
use Rattle.pci_picture.proofs.Boxes.{then_draws}
use Rattle.pci_picture.proofs.FaultLines.{fault_line_written, first_by_place}
use Rattle.pci_picture.proofs.fault_list.write_fault.Goals as goal

pub loop-place-preserved : goal.loop-place-preserved
loop-place-preserved g c =
    let fault = c.args.fault.now in
    let faults = c.args.board.now.faults in
    let k = c.loop-place.place - fault.begin in
    let at : c.loop-place.place ≡ fault.begin + k = omega (arith, c.loop-place.auto.place) in
    let next : c.loop-place.place + 1 - fault.begin ≡ k + 1 = omega (arith, c.loop-place.auto.place) in
    let inside : k < fault.end - fault.begin = omega (arith, c.loop-place.auto.place, c.loop-place-test.true) in
    let first = first_by_place c.loop-place.place fault.begin c.loop-place.auto.place in
    let base : c.saturating_add-y.result ≡ c.args.above + 14 * k + 14 = omega (arith, c.saturating_add-y.ensures, c.loop-place.invariant.below, c.requires.low, inside) in
    record {
      adds = then_draws [] _ _ _ c.loop-place.invariant.adds c.in_ok-add_words.ensures.adds;
      below = omega (arith, base, next);
      within = omega (arith, next, inside);
      writes = subst (λ n. string_bytes c.add_words.new.self.words ≡ string_bytes c.args.canvas.now.words ++ list_text c.args.above (take n (lines_of_reason (lines_of_fault faults (Some fault))))) (sym next)
          (fault_line_written faults fault c.args.above k c.saturating_add-y.result c.label_of-label.result.x c.label_of-label.result.class.now c.line.result.now
          (string_bytes c.args.canvas.now.words) (string_bytes c.loop-place.canvas.words) (string_bytes c.add_words.new.self.words) c.requires.within inside base
          (c.label_of-label.ensures.left ∙ ap (λ b. (fault_line b []).left) first) (c.label_of-label.ensures.class ∙ ap (λ b. (fault_line b []).class) first) (c.line.ensures ∙ ap (λ n. get_or (map (λ (line : Bor (List ℕ)). line.now) faults.lines.items) n []) at) c.loop-place.invariant.writes
          (c.in_ok-add_words.ensures.writes ∙ ap (λ n. string_bytes c.loop-place.canvas.words ++ label_text c.label_of-label.result.x n c.label_of-label.result.class.now c.line.result.now) c.label_of-label.ensures.base));
    }

pub returns-clause-below : goal.returns-clause-below
returns-clause-below g c = omega (arith, c.loop-place.invariant.below, c.loop-place.invariant.within, c.loop-place-test.false, c.loop-place.auto.place)
