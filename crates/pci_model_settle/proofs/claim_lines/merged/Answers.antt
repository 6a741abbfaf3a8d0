use Rattle.std.proofs.Common.{◌≡◌, ◌+◌, ◌<◌, ◌++◌, [], ◌∷◌, length, drop, arith, subst, sym, ap, ◌∙◌}
use Rattle.std.proofs.lemmas.List.{length-drop}
use Rattle.pci_model_settle.specs.ClaimLines.{merged_by_key}
use Rattle.pci_model_settle.specs.LineValues.{key_of}
use Rattle.pci_model_settle.proofs.MergedLines.{first_pushed, next_of_rest, next_some, other_some, second_pushed}
use Rattle.pci_model_settle.proofs.claim_lines.merged.Goals as goal
use Rattle.pci_model_settle.proofs.claim_lines.merged.Goals.{then-is_next+in_ok-push, else-is_next+in_ok-push-2}

pub loop-preserved : goal.loop-preserved
loop-preserved g c =
    let xs = c.args.first.now in
    let ys = c.args.second.now in
    let i = c.loop.i in
    let j = c.loop.j in
    let all = merged_by_key key_of xs ys in
    let count = c.loop.invariant.count in
    let low = c.loop.invariant.low in
    let high = c.loop.invariant.high in
    let more = c.loop-test.true in
    let size_x = length-drop i xs in
    let size_y = length-drop j ys in
    let some : 0 < length (drop i xs) + length (drop j ys) = omega (arith, size_x, size_y, count, more, low, high) in
    elim c.if-is_next.branch [
      | then-is_next+in_ok-push w ↦
          let next = sym (next_of_rest xs ys i j) ∙ sym c.is_next.ensures ∙ w.if-is_next.true in
          let within = next_some (drop i xs) (drop j ys) next some in
          let ei = w.i-is in
          let ej = w.j-is in
          let pushed = ap (λ v. v.items) w.out-is ∙ w.in_ok-push.ensures.items ∙ ap (λ x. c.loop.out.items ++ x ∷ []) w.index-first-i.is in
          record {
            count = omega (arith, ei, ej, count);
            low = omega (arith, ei, within, size_x);
            high = omega (arith, ej, high);
            same =
                subst (λ n. c.if-is_next.out.items ++ merged_by_key key_of (drop n xs) (drop c.if-is_next.j ys) ≡ all) (sym ei)
                (subst (λ n. c.if-is_next.out.items ++ merged_by_key key_of (drop (i + 1) xs) (drop n ys) ≡ all) (sym ej)
                (first_pushed xs ys c.loop.out.items c.if-is_next.out.items all i j w.index-first-i.result next some c.loop.invariant.same pushed));
          }
      | else-is_next+in_ok-push-2 w ↦
          let other = sym (next_of_rest xs ys i j) ∙ sym c.is_next.ensures ∙ w.if-is_next.false in
          let within = other_some (drop i xs) (drop j ys) other in
          let ei = w.i-is in
          let ej = w.j-is in
          let pushed = ap (λ v. v.items) w.out-is ∙ w.in_ok-push-2.ensures.items ∙ ap (λ x. c.loop.out.items ++ x ∷ []) w.index-second-j.is in
          record {
            count = omega (arith, ei, ej, count);
            low = omega (arith, ei, low);
            high = omega (arith, ej, within, size_y);
            same =
                subst (λ n. c.if-is_next.out.items ++ merged_by_key key_of (drop n xs) (drop c.if-is_next.j ys) ≡ all) (sym ei)
                (subst (λ n. c.if-is_next.out.items ++ merged_by_key key_of (drop i xs) (drop n ys) ≡ all) (sym ej)
                (second_pushed xs ys c.loop.out.items c.if-is_next.out.items all i j w.index-second-j.result other c.loop.invariant.same pushed));
          }
    ]
