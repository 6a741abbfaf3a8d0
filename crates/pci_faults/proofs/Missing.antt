-- The least address that is sent and isn't passed.
use Rattle.std.proofs.Common.{ℕ, ◌+◌, ◌<◌, ◌≤◌, List, length, get_or, take, inl, inr, arith, subst, sym}
use Rattle.std.specs.Prelude.{◌↔◌}
use Rattle.std.proofs.lemmas.Bool.{cases_order}
use Rattle.std.proofs.lemmas.List.{take_more, take_all}
use Rattle.pci_base.specs.declared.range.Range.{Range}
use Rattle.pci_tree.specs.Ranges.{Holds, Covers, IsCanonical, IsLeastOutside}
use Rattle.pci_tree.proofs.Passing.{covers_push}
use Rattle.pci_tree.proofs.RangeLists.{found_at, covers_at}
use Rattle.pci_faults.specs.Missed.{IsLeastMissed}
use Rattle.pci_claims.proofs.Gathering.{covers_take}

-- of the first so many ranges all that the range has is passed
abbrev pub AllPassed : Range → List Range → List Range → Type 0
AllPassed r sent passed = (a : ℕ) → Holds r a → Covers sent a → Covers passed a

pub passed_more : (r : Range) (sent passed : List Range) (i : ℕ) (z : Range) → i < length sent → AllPassed r (take i sent) passed
    → ((a : ℕ) → Holds r a → Holds (get_or sent i z) a → Covers passed a) → AllPassed r (take (i + 1) sent) passed
passed_more r sent passed i z within all here a held h =
    elim ((covers_push (take i sent) (get_or sent i z) a).0 (subst (λ xs. Covers xs a) (take_more sent i z within) h)) [
      | inl before ↦ all a held before
      | inr there ↦ here a held there
    ]

pub passed_at_all : (r : Range) (sent passed : List Range) (n : ℕ) → length sent ≤ n → AllPassed r (take n sent) passed → AllPassed r sent passed
passed_at_all r sent passed n end all a held h = all a held (subst (λ xs. Covers xs a) (sym (take_all n sent end)) h)

pub passed_apart : (r s : Range) (passed : List Range) → ((a : ℕ) → Holds r a → Holds s a → ⊥) → (a : ℕ) → Holds r a → Holds s a → Covers passed a
passed_apart r s passed none a held there = absurd (none a held there)

pub passed_met : (r s m : Range) (passed : List Range) → (m.first ≤ m.last) × ((a : ℕ) → Holds m a ↔ (Holds r a × Holds s a)) → ((a : ℕ) → Holds m a → Covers passed a)
    → (a : ℕ) → Holds r a → Holds s a → Covers passed a
passed_met r s m passed met all a held there = all a ((met.1 a).1 (held, there))

pub missed_here : (r m : Range) (sent passed : List Range) (i a : ℕ) (z : Range) → IsCanonical sent → i < length sent → AllPassed r (take i sent) passed
    → (m.first ≤ m.last) × ((a : ℕ) → Holds m a ↔ (Holds r a × Holds (get_or sent i z) a)) → IsLeastOutside m passed a → IsLeastMissed r sent passed a
missed_here r m sent passed i a z can within all met is =
    let both : Holds r a × Holds (get_or sent i z) a = (met.1 a).0 is.held in
    record {
      held = both.0;
      sent_there = covers_at sent i a z within both.1;
      stopped = is.outside;
      least = λ b less held h. (
          let (j, x, inside, at, has) = h in
          let there : Holds (get_or sent j z) b = found_at sent b j x z inside at has in
          elim (cases_order j i) [
            | inl e ↦ is.least b less ((met.1 b).1 (held, subst (λ n. Holds (get_or sent n z) b) e there))
            | inr n ↦ elim n [
              | inl lt ↦ all b held (covers_take sent i j b x lt inside (omega (arith, within)) at has)
              | inr gt ↦ absurd (let gap = can.apart i j z gt inside in let here = both.1 in omega (arith, gap, there, less, here))
            ]
          ]);
    }
