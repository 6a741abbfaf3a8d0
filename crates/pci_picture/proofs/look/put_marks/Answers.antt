use Rattle.std.proofs.Common.{◌≡◌, ◌+◌, ◌++◌, ℕ, Bool, true, false, ap, sym, ◌∙◌, refl, arith}
use Rattle.std.proofs.lemmas.List.{append-nil}
use Rattle.pci_picture.specs.Marks.{has_naming}
use Rattle.pci_picture.specs.RegionWords.{any_number, fault_digits, numbers_naming, words_of_numbers}
use Rattle.pci_picture.proofs.RegionWords.{any_mark, any_passes, mark_first, mark_next, marks_put, number_fails, numbers_below, spaced}
use Rattle.pci_picture.proofs.look.put_marks.Goals as goal
use Rattle.pci_picture.proofs.look.put_marks.Goals.{then-has+in_ok-put-2, then-is_marked+in_ok-put, else-is_marked, else-has}

pub loop-number-init : goal.loop-number-init
loop-number-init g c = record { from = omega arith; to = omega arith; some = refl; put = sym (append-nil c.args.words.now.bytes.items) }

pub loop-number-preserved : goal.loop-number-preserved
loop-number-preserved g c =
    let key = c.args.region.now.key in
    let is : ℕ → Bool = λ k. has_naming c.args.faults.now.faults.items c.args.faults.now.namings.items k k key in
    let n = c.loop-number.number in
    let old = c.args.words.now.bytes.items in
    let before = c.loop-number.words.bytes.items in
    let so_far = c.loop-number.invariant in
    record {
      from = omega (arith, so_far.from);
      to = omega (arith, c.loop-number-test.true);
      some = elim c.if-has.branch [
        | then-has+in_ok-put-2 w ↦ w.is_marked-is ∙ sym (any_passes is n so_far.from (sym c.has.ensures ∙ w.if-has.true))
        | else-has w ↦ w.is_marked-is ∙ so_far.some ∙ ap any_number (sym (number_fails is n so_far.from (sym c.has.ensures ∙ w.if-has.false)))
      ];
      put = elim c.if-has.branch [
        | then-has+in_ok-put-2 w ↦
            let passes = sym c.has.ensures ∙ w.if-has.true in
            let put : w.put-then-has.new.self.bytes.items ≡ old ++ spaced (numbers_below is (n + 1)) = elim w.if-is_marked.branch [
              | then-is_marked+in_ok-put v ↦
                  mark_next is n old before v.put.new.self.bytes.items w.put-then-has.new.self.bytes.items so_far.from passes (sym so_far.some ∙ v.if-is_marked.true)
                  so_far.put v.in_ok-put.ensures (w.in_ok-put-2.ensures ∙ ap (λ s. s.bytes.items ++ fault_digits n) v.words-is)
              | else-is_marked v ↦
                  mark_first is n old before w.put-then-has.new.self.bytes.items so_far.from passes (sym so_far.some ∙ v.if-is_marked.false) so_far.put
                  (w.in_ok-put-2.ensures ∙ ap (λ s. s.bytes.items ++ fault_digits n) v.words-is)
            ] in
            ap (λ s. s.bytes.items) w.words-is ∙ put
        | else-has w ↦
            ap (λ s. s.bytes.items) w.words-is ∙ so_far.put
            ∙ ap (λ l. old ++ spaced l) (sym (number_fails is n so_far.from (sym c.has.ensures ∙ w.if-has.false)))
      ];
    }

pub returns-in_ok-put-3-clause-puts : goal.returns-in_ok-put-3-clause-puts
returns-in_ok-put-3-clause-puts g c =
    let named = has_naming c.args.faults.now.faults.items c.args.faults.now.namings.items in
    let old = c.args.words.now.bytes.items in
    marks_put named c.args.region.now.key c.loop-number.number old c.loop-number.words.bytes.items c.put-then-is_marked-2.new.self.bytes.items true
    (omega (arith, c.loop-number.invariant.to, c.loop-number-test.false)) (sym c.if-is_marked-2.true ∙ c.loop-number.invariant.some) c.loop-number.invariant.put
    c.in_ok-put-3.ensures
    ∙ ap (λ k. old ++ words_of_numbers (numbers_naming named k)) c.args.region.now.is_of_line.key_is

pub returns-in_ok-put-3-clause-marked : goal.returns-in_ok-put-3-clause-marked
returns-in_ok-put-3-clause-marked g c =
    let named = has_naming c.args.faults.now.faults.items c.args.faults.now.namings.items in
    c.loop-number.invariant.some
    ∙ any_mark named c.args.region.now.key c.loop-number.number (omega (arith, c.loop-number.invariant.to, c.loop-number-test.false))
    ∙ ap (λ k. any_number (numbers_naming named k)) c.args.region.now.is_of_line.key_is

pub returns-else-is_marked-2-clause-puts : goal.returns-else-is_marked-2-clause-puts
returns-else-is_marked-2-clause-puts g c =
    let named = has_naming c.args.faults.now.faults.items c.args.faults.now.namings.items in
    let old = c.args.words.now.bytes.items in
    marks_put named c.args.region.now.key c.loop-number.number old c.loop-number.words.bytes.items c.loop-number.words.bytes.items false
    (omega (arith, c.loop-number.invariant.to, c.loop-number-test.false)) (sym c.if-is_marked-2.false ∙ c.loop-number.invariant.some) c.loop-number.invariant.put
    (sym (append-nil c.loop-number.words.bytes.items))
    ∙ ap (λ k. old ++ words_of_numbers (numbers_naming named k)) c.args.region.now.is_of_line.key_is

pub returns-else-is_marked-2-clause-marked : goal.returns-else-is_marked-2-clause-marked
returns-else-is_marked-2-clause-marked g c =
    let named = has_naming c.args.faults.now.faults.items c.args.faults.now.namings.items in
    c.loop-number.invariant.some
    ∙ any_mark named c.args.region.now.key c.loop-number.number (omega (arith, c.loop-number.invariant.to, c.loop-number-test.false))
    ∙ ap (λ k. any_number (numbers_naming named k)) c.args.region.now.is_of_line.key_is
