-- Faults that are named, and soundness.
use Rattle.std.proofs.Common.{◌≡◌, ℕ, ◌<◌, List, Option, Some, None, inl, inr, arith, sym, ◌∙◌, ap, subst, refl}
use Rattle.pci_spec.specs.Fault.{SlotsDiffer}
use Rattle.pci_spec.specs.Decoded.{HasRecords}
use Rattle.pci_spec.specs.Decoded as decoded
use Rattle.pci_tree.specs.Outline.{Tree}
use Rattle.pci_tree.specs.Survey.{Surveyed, IsOutlineOf, IsRefusedBy}
use Rattle.pci_tree.proofs.Pairings.{refused_first, admitted_pair}
use Rattle.pci_tree.proofs.PairOrder.{slots_refusal}
use Rattle.pci_check.specs.declared.outcome.Outcome.{Outcome}
use Rattle.pci_check.specs.declared.outcome.Outcome.TheVariants.{Yes, No}
use Rattle.pci_check.specs.Judgement.{IsJudgement}
use Rattle.pci_check.specs.SideBySide.{IsSurveyOfTexts}
use Rattle.pci_check.proofs.FirstOfAll.{admitted_first}
use Rattle.pci_check.proofs.Verdicts.{free_is_sound, fault_is_first}
use Rattle.pci_spec.specs.Text.{Block, IsDump, slots_of}
use Rattle.pci_spec.specs.System.{system_of}
use Rattle.pci_spec.specs.Fault.{fault_number}
use Rattle.pci_spec.specs.Order.{IsFirst, IsFirstThere}
use Rattle.pci_spec.specs.Sound.{IsSound}
use Rattle.pci_spec.proofs.Pairing.{IsSystem-of_dumps, there-of_in, in-of_there}
use Rattle.pci_spec.proofs.Sounding.{sound_without_faults}
use Rattle.pci_function.specs.declared.fault.Fault.{Fault}
use Rattle.pci_function.specs.Fault.{fault_of}
use Rattle.pci_tree.specs.Admission.{Admission, IsAdmitted}
use Rattle.pci_check.specs.Audits.{IsRefused, IsAudited, IsOutcomeOf}

-- a fault that was found before judging
pub refused-of_there : (roots : List ℕ) (dump probe : List Block) (fault : Fault) → IsDump dump → IsDump probe
    → IsFirstThere roots dump probe (fault_of fault) → fault_number (fault_of fault) < 60 → IsRefused roots dump probe fault
refused-of_there roots dump probe fault d p order early = record {
  there = order.there;
  first = inl early;
  unsound = λ sound. (sound_without_faults roots (system_of dump probe) (IsSystem-of_dumps dump probe d p sound.0)).0 sound.1 (fault_of fault)
      (in-of_there roots dump probe (fault_of fault) sound.0 order.there);
  order = order;
}

-- the first fault of judging
pub refused-of_first : (a : Admission) (fault : Fault) → IsAdmitted a
    → IsFirst a.roots (system_of a.dump a.probe) (fault_of fault) → (IsSound a.roots (system_of a.dump a.probe) → ⊥) → IsRefused a.roots a.dump a.probe fault
refused-of_first a fault admitted first unsound = record {
  there = there-of_in a.roots a.dump a.probe (fault_of fault) admitted.slots first.there;
  first = inr first;
  unsound = λ sound. unsound sound.1;
  order = admitted_first a (fault_of fault) admitted first;
}

-- ---- two texts that were surveyed

module _ (buses : List ℕ) (dump_left probe_left : Option (List ℕ)) (v : Surveyed) (s : IsSurveyOfTexts buses dump_left probe_left v) where
  audited : (outcome : Outcome) → IsOutcomeOf buses s.dump s.probe outcome → IsAudited buses dump_left probe_left outcome
  audited outcome verdict = record { dump = s.dump; probe = s.probe; dump_text = s.dump_text; probe_text = s.probe_text; verdict = verdict }

  -- the survey is refused
  pub refused_by_survey : (fault : Fault) → IsRefusedBy v (fault_of fault) → IsAudited buses dump_left probe_left (No fault)
  refused_by_survey fault refused = audited (No fault) (elim s.both [
    | inl (same, taken, no_30) ↦ refused-of_there buses s.dump s.probe fault s.dump_is s.probe_is
        (subst (λ rs. IsFirstThere rs s.dump s.probe (fault_of fault)) s.roots (refused_first v s.dump s.probe (fault_of fault) s.dump_is s.probe_is same taken no_30 refused))
        (refused.early (system_of s.dump s.probe) taken)
    | inr (slot, noted, in_one, least) ↦ (
        let is = refused.noted (SlotsDiffer slot) noted in
        let number = ap fault_number is in
        refused-of_there buses s.dump s.probe fault s.dump_is s.probe_is
        (subst (IsFirstThere buses s.dump s.probe) (sym is) (slots_refusal buses s.dump s.probe s.dump s.probe slot s.dump_is s.probe_is refl refl in_one least)) (omega (arith, number))
        )
  ])

  module _ (t : Tree) (out : IsOutlineOf v t) where
    -- it makes an outline where both list the same slots
    surveyed : (slots_of s.dump ≡ slots_of s.probe) × IsAdmitted record { roots = t.roots; dump = s.dump; probe = s.probe } × HasRecords (system_of s.dump s.probe) t.records
    surveyed = elim s.both [
      | inl (same, taken, no_30) ↦ (
        same,
        admitted_pair v t s.dump s.probe s.dump_is s.probe_is same taken out,
        subst (λ (rs : List decoded.Record). HasRecords (system_of s.dump s.probe) rs) (sym out.records) (out.decoded (system_of s.dump s.probe) taken),
      )
      | inr (slot, noted, in_one, least) ↦ absurd (let none = out.none in cc)
    ]

    pub yes_of_outline : (o : Option Fault) → o ≡ None → IsJudgement t o → IsAudited buses dump_left probe_left Yes
    yes_of_outline o is judgement =
        audited Yes (
          surveyed.0,
          subst (λ rs. IsSound rs (system_of s.dump s.probe)) (out.roots ∙ s.roots)
              (free_is_sound record { roots = t.roots; dump = s.dump; probe = s.probe } t refl surveyed.2 surveyed.1 o is judgement),
        )

    pub no_of_outline : (o : Option Fault) (fault : Fault) → o ≡ Some fault → IsJudgement t o → IsAudited buses dump_left probe_left (No fault)
    no_of_outline o fault is judgement =
        let first = fault_is_first record { roots = t.roots; dump = s.dump; probe = s.probe } t refl surveyed.2 surveyed.1 o fault is judgement in
        audited (No fault) (subst (λ rs. IsRefused rs s.dump s.probe fault) (out.roots ∙ s.roots)
        (refused-of_first record { roots = t.roots; dump = s.dump; probe = s.probe } fault surveyed.1 first.0 first.1))
