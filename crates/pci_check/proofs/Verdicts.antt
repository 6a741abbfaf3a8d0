-- What a judgement says of an admitted dump and its probe.
use Rattle.std.proofs.Common.{◌≡◌, ℕ, List, Option, None, Some, subst}
use Rattle.pci_spec.specs.System.{system_of}
use Rattle.pci_spec.specs.Decoded.{HasRecords}
use Rattle.pci_spec.specs.Order.{IsFirst, IsFirstThere}
use Rattle.pci_spec.specs.Sound.{IsSound, IsSingle, IsHome}
use Rattle.pci_spec.proofs.Sounding.{sound_without_faults}
use Rattle.pci_function.specs.declared.fault.Fault.{Fault}
use Rattle.pci_function.specs.Fault.{fault_of}
use Rattle.pci_tree.specs.Outline.{Tree}
use Rattle.pci_tree.specs.Admission.{Admission, IsAdmitted}
use Rattle.pci_check.proofs.FirstOfAll.{admitted_first}
use Rattle.pci_check.specs.Judgement.{IsFree, IsFirstInEach, IsJudgement}

module _ (a : Admission) (t : Tree) (roots : t.roots ≡ a.roots) (records : HasRecords (system_of a.dump a.probe) t.records) (admitted : IsAdmitted a) where
  -- where no fault was found
  pub free_is_sound : (o : Option Fault) → o ≡ None → IsJudgement t o → IsSound a.roots (system_of a.dump a.probe)
  free_is_sound o is judgement =
      let free : IsFree t = subst (IsJudgement t) is judgement in
      let found = free (system_of a.dump a.probe) record { system = admitted.system; records = records } in
      record {
        single = subst (λ (rs : List ℕ). IsSingle rs (system_of a.dump a.probe)) roots found.0;
        home = subst (λ (rs : List ℕ). IsHome rs (system_of a.dump a.probe)) roots found.1;
        nested = admitted.nested;
        profile = admitted.profile;
        chains = admitted.chains;
      }

  -- where one was
  pub fault_is_first : (o : Option Fault) (fault : Fault) → o ≡ Some fault → IsJudgement t o
      → IsFirst a.roots (system_of a.dump a.probe) (fault_of fault) × (IsSound a.roots (system_of a.dump a.probe) → ⊥)
      × IsFirstThere a.roots a.dump a.probe (fault_of fault)
  fault_is_first o fault is judgement =
      let each : IsFirstInEach t fault = subst (IsJudgement t) is judgement in
      let first : IsFirst a.roots (system_of a.dump a.probe) (fault_of fault) =
      subst (λ (rs : List ℕ). IsFirst rs (system_of a.dump a.probe) (fault_of fault)) roots
      (each (system_of a.dump a.probe) record { system = admitted.system; records = records }) in
      (first, λ sound. (sound_without_faults a.roots (system_of a.dump a.probe) admitted.system).0 sound (fault_of fault) first.there, admitted_first a (fault_of fault) admitted first)
