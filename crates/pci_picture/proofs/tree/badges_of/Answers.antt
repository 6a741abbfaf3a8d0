use Rattle.std.proofs.Common.{◌≡◌, ◌++◌, ◌+◌, false, Some, ap, sym, subst, ◌∙◌, get_or}
use Rattle.std.proofs.lemmas.List.{append-nil, append_assoc}
use Rattle.pci_picture.specs.Badges.{ShowBadges}
use Rattle.pci_picture.specs.Ranks.{badge_word, rank_of_badge}
use Rattle.pci_picture.proofs.BadgeWords.{ShowUpTo, all_shown, beside_small, beside_sorted, gap_behind, gap_there, no_gap, other_before, same_before, shown_again, shown_next}
use Rattle.pci_picture.proofs.tree.badges_of.Goals as goal
use Rattle.pci_picture.proofs.tree.badges_of.Goals.{then-is_some+in_ok-put, else-is_some}

pub loop-badge-preserved-then-eq : goal.loop-badge-preserved-then-eq
loop-badge-preserved-then-eq g c =
    let items = c.beside-badge-items.result.now in
    let faults = c.args.board.now.faults in
    let slot = c.args.function.now.number in
    let i = c.loop-badge.badge-index in
    let words = c.loop-badge.words.bytes.items in
    let badge = get_or items i record { slot = 0; number = 0; is_bridge = false } in
    let same : c.loop-badge.before ≡ Some (rank_of_badge badge) = same_before c.loop-badge.before c.rank.result (sym c.eq.ensures ∙ c.if-eq.true) ∙ ap Some c.rank.ensures in
    subst (λ before. ShowUpTo items (i + 1) before words) (sym same)
    (shown_again items (beside_small faults slot items c.beside-badge-items.ensures) (beside_sorted faults slot items c.beside-badge-items.ensures) i
    (record { slot = 0; number = 0; is_bridge = false }) words c.loop-badge-test.true (subst (λ before. ShowUpTo items i before words) same c.loop-badge.invariant))

pub loop-badge-preserved : goal.loop-badge-preserved
loop-badge-preserved g c =
    let items = c.beside-badge-items.result.now in
    let faults = c.args.board.now.faults in
    let slot = c.args.function.now.number in
    let i = c.loop-badge.badge-index in
    let words = c.loop-badge.words.bytes.items in
    let badge = get_or items i record { slot = 0; number = 0; is_bridge = false } in
    let gap : c.if-is_some.words.bytes.items ≡ words ++ gap_behind c.loop-badge.before = elim c.if-is_some.branch [
      | then-is_some+in_ok-put w ↦ ap (λ v. v.bytes.items) w.words-is ∙ w.in_ok-put.ensures ∙ ap (λ l. words ++ l) (sym (gap_there c.loop-badge.before (sym w.if-is_some.ensures)))
      | else-is_some w ↦ ap (λ v. v.bytes.items) w.words-is ∙ sym (append-nil words) ∙ ap (λ l. words ++ l) (sym (no_gap c.loop-badge.before (sym w.if-is_some.ensures)))
    ] in
    subst (λ rank. ShowUpTo items (i + 1) (Some rank) c.put_badge.new.words.bytes.items) (sym c.rank-in-loop-badge.ensures)
    (shown_next items (beside_small faults slot items c.beside-badge-items.ensures) (beside_sorted faults slot items c.beside-badge-items.ensures) i
    (record { slot = 0; number = 0; is_bridge = false }) c.loop-badge.before words c.put_badge.new.words.bytes.items c.loop-badge-test.true
    (λ same. other_before c.loop-badge.before c.rank.result (sym c.eq.ensures ∙ c.if-eq.false) (same ∙ ap Some (sym c.rank.ensures)))
    (c.in_ok-put_badge.ensures ∙ ap (λ w. w ++ badge_word badge) gap ∙ append_assoc words (gap_behind c.loop-badge.before) (badge_word badge))
    c.loop-badge.invariant)

pub returns : goal.returns
returns g c =
    subst (λ items. ShowBadges items c.loop-badge.words.bytes.items) c.beside-badge-items.ensures
    (all_shown c.beside-badge-items.result.now c.loop-badge.badge-index c.loop-badge.before c.loop-badge.words.bytes.items c.loop-badge-test.false c.loop-badge.invariant)
