use Rattle.std.proofs.Common.{◌≡◌, ℕ, lit<, List, Result, Ok, Err, sym, ◌∙◌, ap, subst}
use Rattle.std.specs.Prelude.{◌≢◌, MatchResult, IfSome}
use Rattle.pci_spec.specs.Text.{Block, IsDump, slots_of}
use Rattle.pci_spec.specs.System.{system_of}
use Rattle.pci_spec.specs.Decoded.{HasRecords}
use Rattle.pci_base.specs.declared.memory.Refused.{Refused}
use Rattle.pci_function.specs.declared.fault.Fault.{Fault}
use Rattle.pci_tree.specs.Admission.{IsAdmitted, IsOutlineFor}
use Rattle.pci_tree.specs.Outline.{Tree}
use Rattle.pci_spec.specs.Order.{phase_of}
use Rattle.pci_tree.specs.Refusals.{IsRefusalOf, IsPairRefusal}
use Rattle.pci_tree.specs.Roots.{buses_of}
use Rattle.pci_tree.specs.Survey.{Surveyed, IsSurveyOf, IsOutlineOf}
use Rattle.pci_tree.proofs.Pairings.{pair_refusal, admitted_pair}
use Rattle.pci_tree.proofs.PairOrder.{slots_refusal}
use Rattle.pci_tree.proofs.admit.outline_of.Goals as goal

same_from : (a b c d : List Block) → a ≡ c → b ≡ d → slots_of a ≡ slots_of b → slots_of c ≡ slots_of d
same_from a b c d e f same = sym (ap slots_of e) ∙ same ∙ ap slots_of f

taken_from : (v : Surveyed) (a b c d : List Block) → a ≡ c → b ≡ d → IsSurveyOf v (system_of a b) → IsSurveyOf v (system_of c d)
taken_from v a b c d e f is = subst (λ x. IsSurveyOf v (system_of x d)) e (subst (λ y. IsSurveyOf v (system_of a y)) f is)

-- what a survey of a dump and its probe ends with
ended : (v : Surveyed) (roots : List ℕ) (dump probe : List Block) → IsDump dump → IsDump probe → v.roots ≡ roots → slots_of dump ≡ slots_of probe → IsSurveyOf v (system_of dump probe)
    → IfSome v.fault (λ x. phase_of x ≢ 0) → (r : Result Tree (Refused Fault)) → MatchResult r (IsOutlineOf v) (IsRefusalOf v)
    → MatchResult r (IsOutlineFor record { roots = roots; dump = dump; probe = probe }) (IsPairRefusal roots dump probe)
ended v roots dump probe hd hp are same taken clear (Ok t) out =
    let equal : t.roots ≡ roots = out.roots ∙ are in
    record {
      admitted = subst (λ rs. IsAdmitted record { roots = rs; dump = dump; probe = probe }) equal (admitted_pair v t dump probe hd hp same taken out);
      roots = equal;
      records = subst (HasRecords (system_of dump probe)) (sym out.records) (out.decoded (system_of dump probe) taken);
    }
ended v roots dump probe hd hp are same taken clear (Err r) refused = pair_refusal v roots dump probe r hd hp are same taken clear refused

pub returns-in-Some : goal.returns-in-Some
returns-in-Some g c = (
  slots_refusal (buses_of c.args.roots) c.args.dump.now c.args.probe.now _ _ c.in-Some.slot c.blocks-2.ensures.dump c.blocks-3.ensures.dump c.blocks-2.ensures.value c.blocks-3.ensures.value
      c.in-Some.ensures.some c.in-Some.ensures.least,
  lit< tt,
)

pub returns : goal.returns
returns g c =
    ended _ (buses_of c.args.roots) c.args.dump.now c.args.probe.now
    c.blocks-2.ensures.dump c.blocks-3.ensures.dump
    (c.in_ok-add_all.ensures.roots ∙ ap (λ (v : Surveyed). v.roots) c.with-survey.ensures.value)
    (same_from _ _ c.args.dump.now c.args.probe.now c.blocks-2.ensures.value c.blocks-3.ensures.value c.in-None.ensures.none)
    (taken_from _ _ _ c.args.dump.now c.args.probe.now c.blocks-4.ensures.value c.blocks-5.ensures.value c.in_ok-add_all.ensures.taken) c.in_ok-add_all.ensures.open c.finish.result c.finish.ensures
