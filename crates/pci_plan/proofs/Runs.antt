-- All steps, one after another.
use Rattle.std.proofs.Common.{◌≡◌, ◌≢◌, ℕ, zero, suc, ◌+◌, ◌<◌, ◌≤◌, inl, inr, List, [], ◌∷◌, refl, arith, sym, ◌∙◌, ap, subst, length, drop, Option, Some, None, MatchResult}
use Rattle.std.specs.Bool.{◌==◌}
use Rattle.std.specs.List.{Contains, slice_get}
use Rattle.std.specs.declared.result.Result.{Result}
use Rattle.std.specs.declared.result.Result.TheVariants.{Ok, Err}
use Rattle.std.proofs.lemmas.Bool.{cases_Bool, both_ways, cases_lt, and_parts, cond-true, cond-false, eqb-true, eqb-false}
use Rattle.std.proofs.lemmas.List.{length-drop, drop_more}
use Rattle.std.proofs.lemmas.Option.{same_Some, slice_get_within, get_or_from_slice_get}
use Rattle.pci_spec.specs.Machine.{Write}
use Rattle.pci_spec.specs.Port.{has_function, is_access, fits, ShowsNumber}
use Rattle.pci_plan.specs.declared.apply_fault.ApplyFault.{ApplyFault}
use Rattle.pci_plan.specs.declared.apply_fault.ApplyFault.TheVariants.{Changed, Port, Stuck}
use Rattle.pci_plan.specs.Comparing.{Moment, IsRefusedAt}
use Rattle.pci_plan.specs.Making.{AreWritesMade, IsShownOtherwise}
use Rattle.pci_plan.proofs.Compares.{same_moment}
use Rattle.pci_plan.proofs.Makes.{has_after_one, stop_at, one_more}
use Rattle.pci_plan.specs.Steps.{AccessStep, compare_step, make_step, read_back_step, write_steps, steps_of, unless_same, judged}
use Rattle.pci_plan.specs.Going.{TakesRead, IsWritable, TakesStep, ReadsRegister, WriteIsTaken, Writes, StepAnswers, AreFirstShown, AreAllShown, AreRun}

-- A port takes each of these steps. Whatever they show, they leave what is wanted.
abbrev pub LeadTo : (Moment → Result (Unit {0}) ApplyFault → Type 0) → List AccessStep → Moment → Type 0
LeadTo Leaves [] now = Leaves now (Ok tt)
LeadTo Leaves (step ∷ steps) now =
    TakesStep step.kind step.register
    × ((shown : Option ℕ) (next : Moment) → StepAnswers step.kind now step.register shown next
    → MatchResult (judged step shown) (λ _. LeadTo Leaves steps next) (λ fault. Leaves next (Err fault)))

-- the step at an index is the first of those from there on
pub from_step : {X : Type 0} (xs : List X) (n : ℕ) (x : X) → slice_get xs n ≡ Some x → drop n xs ≡ x ∷ drop (n + 1) xs
from_step xs n x at = drop_more xs n x (slice_get_within xs n x at) ∙ ap (λ y. y ∷ drop (n + 1) xs) (get_or_from_slice_get xs n x x at)

first_from : {X : Type 0} (xs : List X) (n : ℕ) (x : X) (rest : List X) → drop n xs ≡ x ∷ rest → (slice_get xs n ≡ Some x) × (drop (suc n) xs ≡ rest)
first_from [] zero x rest e = absurd (let bad : ⊥ = cc in bad)
first_from [] (suc n) x rest e = absurd (let bad : ⊥ = cc in bad)
first_from (y ∷ xs) zero x rest e = (cc, cc)
first_from (y ∷ xs) (suc n) x rest e = first_from xs n x rest e

-- ---- one step

-- a register shows the wanted number, or it doesn't
unless : (shown wanted : ℕ) (fault : ApplyFault) (P : Type 0) (Q : ApplyFault → Type 0) → (shown ≡ wanted → P) → (shown ≢ wanted → Q fault) → MatchResult (unless_same shown wanted fault) (λ _. P) Q
unless shown wanted fault P Q same other = elim (cases_Bool (shown == wanted)) [
  | inl equal ↦ subst (λ r. MatchResult r (λ _. P) Q) (sym (cond-true (shown == wanted) (Ok tt) (Err fault) equal)) (same (eqb-true shown wanted equal))
  | inr differs ↦ subst (λ r. MatchResult r (λ _. P) Q) (sym (cond-false (shown == wanted) (Ok tt) (Err fault) differs)) (other (eqb-false shown wanted differs))
]

module _ (now next : Moment) (w : Write) (done : ℕ) (P : Type 0) (Q : ApplyFault → Type 0) where
  read_leads : (step : AccessStep) (fault : ApplyFault) → ((n : ℕ) → judged step (Some n) ≡ unless_same n w.value fault) → (ShowsNumber now.targets w.slot w.offset w.width w.value → next.failures ≡ now.failures → P)
      → (IsRefusedAt now w.slot next.failures → Q (Port step.done)) → (IsShownOtherwise now.targets w → Q fault) → (shown : Option ℕ) → ReadsRegister now w shown next → MatchResult (judged step shown) (λ _. P) Q
  read_leads step fault by on refused other None read = refused read.shows
  read_leads step fault by on refused other (Some n) read =
      subst (λ r. MatchResult r (λ _. P) Q) (sym (by n))
      (unless n w.value fault P Q (λ e. on (subst (ShowsNumber now.targets w.slot w.offset w.width) e read.shows.0) read.shows.1) (λ differs. other record { shows = n; shown = read.shows.0; differs = differs }))

  write_leads : (WriteIsTaken now w next → P) → ((next.targets ≡ now.targets) × IsRefusedAt now w.slot next.failures → Q (Port done)) → (shown : Option ℕ) → Writes now w shown next
      → MatchResult (judged (make_step done w) shown) (λ _. P) Q
  write_leads on refused None wrote = refused wrote
  write_leads on refused (Some n) wrote = on wrote

-- ---- all steps

module _ (before : Moment) (cs ws : List Write) (readable : (w : Write) → Contains cs w → TakesRead w) (writable : (w : Write) → Contains ws w → IsWritable w) where
  abbrev Leaves : Moment → Result (Unit {0}) ApplyFault → Type 0
  Leaves after r = AreRun before cs ws after r

  writes_lead : (rest : List Write) (done : ℕ) (now : Moment) → drop done ws ≡ rest → AreAllShown before.targets cs → AreWritesMade before.targets ws done now.targets → now.failures ≡ before.failures
      → LeadTo Leaves (write_steps done rest) now
  writes_lead [] done now from shown made quiet =
      let all : done ≡ length ws = (let l = length-drop done ws in let none = ap length from in let within = made.within in omega (arith, l, none, within)) in
      inr (shown, (subst (λ n. AreWritesMade before.targets ws n now.targets) all made, quiet))
  writes_lead (w ∷ rest) done now from shown made quiet =
      let here = first_from ws done w rest from in
      let takes = writable w (done, slice_get_within ws done w here.0, get_or_from_slice_get ws done w w here.0) in
      let more : done + 1 ≡ suc done = omega arith in
      let stops = stop_at before ws done w here.0 now made quiet in (
        takes,
        λ number next wrote.
            write_leads now next w done (LeadTo Leaves (read_back_step done w ∷ write_steps (suc done) rest) next) (λ fault. Leaves next (Err fault))
            (λ taken. (
              (and_parts (is_access w.offset w.width) (fits w.width w.value) takes).0,
              λ number_after after read.
                  read_leads next after w done (LeadTo Leaves (write_steps (suc done) rest) after) (λ fault. Leaves after (Err fault)) (read_back_step done w) (Stuck (suc done)) (λ n. refl)
                  (λ shows still.
                  writes_lead rest (suc done) after here.1 shown
                  (subst (λ n. AreWritesMade before.targets ws n after.targets) more
                  (one_more before ws done w here.0 now made quiet after.targets (read.same ∙ taken.made) (subst (λ ts. ShowsNumber ts w.slot w.offset w.width w.value) (sym read.same) shows)))
                  (still ∙ taken.counted ∙ quiet))
                  (λ refused.
                  let counted = taken.counted in
                  let rose : now.failures < after.failures = elim refused [
                    | inl rises ↦ omega (arith, rises, counted)
                    | inr none ↦ absurd (both_ways (has_function now.targets w.slot) (sym (has_after_one w now.targets w.slot) ∙ ap (λ ts. has_function ts w.slot) (sym taken.made) ∙ none) taken.there)
                  ] in
                  inr (shown, stops after (Port (suc done)) (inr (sym more, read.same ∙ taken.made, rose))))
                  (λ other. inr (shown, stops after (Stuck (suc done)) (sym more, read.same ∙ taken.made, subst (λ ts. IsShownOtherwise ts w) (sym read.same) other)))
                  number_after read,
            ))
            (λ refused. inr (shown, stops next (Port done) (inl (refl, refused.0, refused.1))))
            number wrote,
      )

  compares_lead : (rest : List Write) (k : ℕ) → drop k cs ≡ rest → AreFirstShown before.targets cs k → LeadTo Leaves (steps_of rest ws) before
  compares_lead [] k from shown =
      let all : length cs ≤ k = (let l = length-drop k cs in let none = ap length from in omega (arith, l, none)) in
      writes_lead ws 0 before refl (λ j w less listed. shown j w (omega (arith, less, all)) listed)
      record { within = omega arith; made = refl; read_back = λ j w less listed. absurd (let bad : ⊥ = omega (arith, less) in bad) } refl
  compares_lead (c ∷ rest) k from shown =
      let here = first_from cs k c rest from in (
        readable c (k, slice_get_within cs k c here.0, get_or_from_slice_get cs k c c here.0),
        λ number after read.
            read_leads before after c 0 (LeadTo Leaves (steps_of rest ws) after) (λ fault. Leaves after (Err fault)) (compare_step c) (Changed c.slot c.offset) (λ n. refl)
            (λ shows still.
            subst (LeadTo Leaves (steps_of rest ws)) (sym (same_moment after before read.same still))
            (compares_lead rest (suc k) here.1 (λ j w less listed. elim (cases_lt j k) [
              | inl earlier ↦ shown j w earlier listed
              | inr last ↦
                  let is : k ≡ j = omega (arith, less, last) in
                  let one : c ≡ w = same_Some c w (sym here.0 ∙ ap (slice_get cs) is ∙ listed) in
                  subst (λ (x : Write). ShowsNumber before.targets x.slot x.offset x.width x.value) one shows
            ])))
            (λ refused. inl record { same = read.same; place = k; register = c; listed = here.0; earlier = shown; reason = (refl, refused) })
            (λ other. inl record { same = read.same; place = k; register = c; listed = here.0; earlier = shown; reason = (refl, refl, other) })
            number read,
      )

  pub all_lead : LeadTo Leaves (steps_of cs ws) before
  all_lead = compares_lead cs 0 refl (λ j w less listed. absurd (let bad : ⊥ = omega (arith, less) in bad))

-- ---- a step at its index

module _ (Leaves : Moment → Result (Unit {0}) ApplyFault → Type 0) (steps : List AccessStep) (n : ℕ) (step : AccessStep) (now : Moment) (at : Some step ≡ slice_get steps n) (lead : LeadTo Leaves (drop n steps) now) where
  leads : LeadTo Leaves (step ∷ drop (n + 1) steps) now
  leads = subst (λ ss. LeadTo Leaves ss now) (from_step steps n step (sym at)) lead

  pub takes_step : TakesStep step.kind step.register
  takes_step = leads.0

  pub step_leads : (shown : Option ℕ) (next : Moment) (r : Result (Unit {0}) ApplyFault) → StepAnswers step.kind now step.register shown next → r ≡ judged step shown
      → MatchResult r (λ _. LeadTo Leaves (drop (n + 1) steps) next) (λ fault. Leaves next (Err fault))
  step_leads shown next r answers is = subst (λ q. MatchResult q (λ _. LeadTo Leaves (drop (n + 1) steps) next) (λ fault. Leaves next (Err fault))) (sym is) (leads.1 shown next answers)
