use Rattle.std.proofs.Common.{◌∷◌, ◌++◌, [], true, false, sym, ap, ◌∙◌, append-nil}
use Rattle.std.proofs.lemmas.List.{append_assoc}
use Rattle.pci_kept.specs.RangePass.{turns_up_to}
use Rattle.pci_kept.proofs.Turns.{turns_more}
use Rattle.pci_kept.proofs.standing_ranges.add_turns.Goals as goal
use Rattle.pci_kept.proofs.standing_ranges.add_turns.Goals.{then-is_in_turn+in_ok-push, else-is_in_turn}

pub loop-index-preserved : goal.loop-index-preserved
loop-index-preserved g c =
    let old = c.args.turns.now.items in
    let k = c.loop-index.index in
    let before = turns_up_to c.args.on c.args.lines.now k in
    elim c.if-is_in_turn.branch [
      | then-is_in_turn+in_ok-push w ↦
          ap (λ v. v.items) w.turns-is
          ∙ w.in_ok-push.ensures.items
          ∙ ap (λ xs. xs ++ (k ∷ [])) c.loop-index.invariant
          ∙ append_assoc old before (k ∷ [])
          ∙ ap (λ xs. old ++ xs) (sym (turns_more c.args.on c.args.lines.now k true (sym c.is_in_turn.ensures ∙ w.if-is_in_turn.true)))
      | else-is_in_turn w ↦
          ap (λ v. v.items) w.turns-is
          ∙ c.loop-index.invariant
          ∙ ap (λ xs. old ++ xs) (sym (append-nil before))
          ∙ ap (λ xs. old ++ xs) (sym (turns_more c.args.on c.args.lines.now k false (sym c.is_in_turn.ensures ∙ w.if-is_in_turn.false)))
    ]
