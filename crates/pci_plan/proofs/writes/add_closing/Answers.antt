use Rattle.std.proofs.Common.{◌≡◌, ℕ, ◌-◌, ◌+◌, ◌<◌, suc, ◌++◌, [], ◌∷◌, List, map, length, get_or, drop, arith, sym, ◌∙◌, ap}
use Rattle.std.proofs.lemmas.List.{append_assoc, append-nil, map-append}
use Rattle.pci_spec.specs.Text.{Block}
use Rattle.pci_spec.specs.Machine.{Write}
use Rattle.plan_spec.specs.Planning.PlanWrites.{closing_of, closing_writes}
use Rattle.pci_plan.specs.Writes.{write_value, is_image_on, block_change, block_changes}
use Rattle.pci_plan.proofs.WriteLists.{closing_more, closing_on, closing_off, closing_write}
use Rattle.pci_plan.proofs.writes.add_closing.Goals as goal
use Rattle.pci_plan.proofs.writes.add_closing.Goals.{then-is_on+in_ok-push, else-is_on}

pub loop-done-preserved : goal.loop-done-preserved
loop-done-preserved g c =
    let start : List Block = c.args.start.now in
    let k : ℕ = length start - (c.loop-done.done + 1) in
    let b : Block = c.index-start-start.result in
    let before : List Write = map write_value c.args.writes.now.items in
    let within : k < length start = omega arith in
    let next : suc k ≡ length start - c.loop-done.done = omega arith in
    let place : k ≡ length start - 1 - c.loop-done.done = omega arith in
    let so_far : List Write = closing_writes (block_changes (drop (length start - c.loop-done.done) start) (drop (length start - c.loop-done.done) start)) in
    let at : get_or start k b ≡ b = ap (λ n. get_or start n b) place ∙ sym c.index-start-start.is in
    let more : closing_writes (block_changes (drop k start) (drop k start)) ≡ so_far ++ closing_of (block_change b b) =
    closing_more start k b within
    ∙ ap (λ n. closing_writes (block_changes (drop n start) (drop n start)) ++ closing_of (block_change (get_or start k b) (get_or start k b))) next
    ∙ ap (λ (x : Block). so_far ++ closing_of (block_change x x)) at in
    let whole : before ++ closing_writes (block_changes (drop k start) (drop k start)) ≡ (before ++ so_far) ++ closing_of (block_change b b) =
    ap (λ ws. before ++ ws) more ∙ sym (append_assoc before so_far (closing_of (block_change b b))) in
    elim c.if-is_on.branch [
      | then-is_on+in_ok-push w ↦
          let items : c.if-is_on.writes.items ≡ c.loop-done.writes.items ++ w.command_write.result ∷ [] = ap (λ v. v.items) w.writes-is ∙ w.in_ok-push.ensures.items in
          ap (λ ws. map write_value ws) items
          ∙ map-append write_value c.loop-done.writes.items (w.command_write.result ∷ [])
          ∙ ap (λ ws. ws ++ write_value w.command_write.result ∷ []) c.loop-done.invariant
          ∙ ap (λ (x : Write). (before ++ so_far) ++ x ∷ []) (w.command_write.ensures ∙ ap (λ n. record { slot = c.block.inside.slot; offset = 4; width = 2; value = n }) w.closed_command.ensures ∙ ap (λ (x : Block). closing_write x) c.block.view_is)
          ∙ ap (λ ws. (before ++ so_far) ++ ws) (sym (closing_on b (ap (λ (x : Block). is_image_on x.image) (sym c.block.view_is) ∙ sym c.is_on.ensures ∙ w.if-is_on.true)))
          ∙ sym whole
      | else-is_on w ↦
          ap (λ v. map write_value v.items) w.writes-is
          ∙ c.loop-done.invariant ∙ sym (append-nil (before ++ so_far)) ∙ ap (λ ws. (before ++ so_far) ++ ws) (sym (closing_off b (ap (λ (x : Block). is_image_on x.image) (sym c.block.view_is) ∙ sym c.is_on.ensures ∙ w.if-is_on.false))) ∙ sym whole
    ]
