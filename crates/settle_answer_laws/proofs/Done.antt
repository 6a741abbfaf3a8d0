-- An answer of status 0 is one of a settling.
use Rattle.std.proofs.Common.{◌≡◌, ◌⊎◌, ℕ, inl, inr, List, [], ◌∷◌, arith, refl, sym, ◌∙◌, ap}
use Rattle.pci_spec.specs.Text.{Block}
use Rattle.judge_spec.specs.Told.{IsTold}
use Rattle.judge_spec.specs.ToldFault.{Fault}
use Rattle.pci_model.specs.declared.words.Words.{Words}
use Rattle.pci_tree.specs.Admission.{IsAdmitted}
use Rattle.pci_tree.specs.Roots.{buses_of}
use Rattle.pciplan_tasks.specs.Answers.{Answer, refused}
use Rattle.pciplan_tasks.specs.MapAnswers.{IsFirstLine}
use Rattle.pciplan_tasks.specs.SettleAnswers.{IsReadyAsTold, demand_said}
use Rattle.pciplan_tasks.specs.WordsSettling.{IsEndLine, IsNotSettledTaken, IsSettledTaken, IsSettlingAny}
use Rattle.pciplan_tasks.specs.declared.task.Printed.{Printed}
use Rattle.pciplan_tasks.specs.declared.task.SettleRequest.{SettleRequest}
use Rattle.settle_answer_laws.specs.AnswerLaws.{AreTextsTaken, AreSettledByWords, DoneIsSettled, admission_of, asked_of, kept_in, settled_texts}

-- what is refused isn't done
not_refused : (answer : Answer) (line : List ℕ) → answer ≡ refused line → answer.status ≡ 0 → ⊥
not_refused answer line is done = (let no : 0 ≡ 1 = sym done ∙ ap (λ (a : Answer). a.status) is in omega (arith, no))

first_refused : (faults : List Fault) (answer : Answer) → IsFirstLine faults answer → answer.status ≡ 0 → ⊥
first_refused [] answer line done = line
first_refused (fault ∷ rest) answer line done = not_refused answer _ line done

none_left : (faults : List Fault) (remarks text : List ℕ) (answer : Answer) → IsEndLine faults remarks text answer → answer.status ≡ 0 → faults ≡ []
none_left [] remarks text answer line done = refl
none_left (fault ∷ rest) remarks text answer line done = absurd (not_refused answer _ line done)

module _ (w : Words) (r : SettleRequest) (printed : Printed) (dump probe : List Block) (answer : Answer) (done : answer.status ≡ 0) where
  abbrev Settled : AreTextsTaken w r dump probe → Type 0
  Settled x = IsSettledTaken r (asked_of w r printed dump probe x) (settled_texts w r printed dump probe x) answer

  abbrev NotSettled : AreTextsTaken w r dump probe → Type 0
  NotSettled x = IsNotSettledTaken (kept_in w r printed dump probe x) (asked_of w r printed dump probe x) (settled_texts w r printed dump probe x) answer

  abbrev IsReady : AreTextsTaken w r dump probe → Type 0
  IsReady x = IsReadyAsTold (demand_said r dump).told (buses_of r.roots) x.taken x.taken_probe

  of_kept : (x : AreTextsTaken w r dump probe) → IsAdmitted (admission_of w r printed dump probe x) → IsReady x → IsTold (kept_in w r printed dump probe x).told → Settled x ⊎ NotSettled x
      → AreSettledByWords w r printed dump probe answer
  of_kept x admitted ready told (inl settled) = record {
    texts_are = x;
    admitted = admitted;
    ready = ready;
    told = told;
    settled = settled;
    faultless = none_left settled.ended.faults _ _ answer settled.ended.line done;
  }
  of_kept x admitted ready told (inr other) = absurd (not_refused answer _ other.line done)

  of_any : (x : AreTextsTaken w r dump probe) → IsReady x → IsSettlingAny r (kept_in w r printed dump probe x) (asked_of w r printed dump probe x) (settled_texts w r printed dump probe x) answer
      → AreSettledByWords w r printed dump probe answer
  of_any x ready any = elim any [
    | inr other ↦ absurd (not_refused answer _ other.line done)
    | inl two ↦ elim two.1 [
      | inl many ↦ absurd (not_refused answer _ many.line done)
      | inr fits ↦ of_kept x two.0 ready fits.0 fits.1
    ]
  ]

pub done_is_settled : DoneIsSettled
done_is_settled w r printed dump probe answer by done = elim by.is [
  | inr unready ↦ absurd (first_refused unready.faults answer unready.line done)
  | inl ready ↦ elim ready.is [
    | inr other ↦ absurd (not_refused answer _ other.line done)
    | inl two ↦ of_any w r printed dump probe answer done
        record { taken = by.taken; taken_probe = by.taken_probe; are = by.are; unmoved = by.unmoved; stay = by.stay; admitted = two.0 } ready.ready two.1
  ]
]
