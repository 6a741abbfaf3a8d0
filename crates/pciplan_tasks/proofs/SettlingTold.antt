-- What is answered where something is settled, and where nothing is.
use Rattle.std.proofs.Common.{◌≡◌, ◌==◌, ℕ, List, [], ◌∷◌, Bool, true, Result, length, map, inl, inr, refl, eqb-true, arith}
use Rattle.std.specs.Result.{IfOk}
use Rattle.std.proofs.lemmas.Result.{IfOk-weaker}
use Rattle.pci_spec.specs.Slot.{Slot}
use Rattle.pci_spec.specs.Text.{Block}
use Rattle.pci_spec.specs.System.{system_of}
use Rattle.pci_spec.specs.Sound.{IsSound}
use Rattle.pci_spec.specs.Machine.{Write}
use Rattle.judge_spec.specs.Given.{nothing_given}
use Rattle.judge_spec.specs.Told.{ToldRange}
use Rattle.judge_spec.specs.ToldFault.{Fault}
use Rattle.settle_spec.specs.Sparing.{without_slots}
use Rattle.pci_base.specs.declared.memory.Refused.TheVariants as refusal
use Rattle.pci_faults.specs.Every.{AreBefore}
use Rattle.pci_first_fit.specs.Slots.{Demand}
use Rattle.pci_settle.specs.Requests.{request}
use Rattle.pci_settle.specs.Denied.{IsSpared}
use Rattle.pci_settle.specs.Endings.{IsRefusal, HasNoAssumed}
use Rattle.pci_settle.specs.FaultText.{settle_fault_text}
use Rattle.pci_settle.specs.declared.lack.SettleFault.{SettleFault}
use Rattle.pci_tree.specs.Admission.{Admission, IsAdmitted}
use Rattle.pciplan_tasks.specs.Answers.{answer_of, done_with, fault_answer_line, refused}
use Rattle.pciplan_tasks.specs.MapAnswers.{IsFirstLine}
use Rattle.pciplan_tasks.specs.SettleAnswers.{SettleAsked, IsReadyAsTold, IsSettlingOfPair, IsSettlingTold, settled_text, spare_remarks}
use Rattle.pciplan_tasks.specs.declared.reply.Reply.{Reply}
use Rattle.pciplan_tasks.specs.declared.task.Printed.{Printed}

pub settled_is_told : {A E : Type 0} (a : Admission) (d : Demand) (fixed : List Slot) (anew : Bool) (printed : Printed) (after : List Block) (writes : List Write) (closings : ℕ)
    (denied : List (Slot × ℕ)) (r : Result (Reply A) E) → IsAdmitted a → HasNoAssumed a
    → map (λ (b : Block). b.title) after ≡ map (λ (b : Block). b.title) a.dump → IsSound a.roots (system_of after a.probe)
    → IsSpared (request a.roots d fixed anew) a after writes closings denied
    → IfOk r (λ reply. answer_of reply ≡ done_with (spare_remarks denied) (settled_text printed a.dump writes after))
    → IfOk r (λ reply. IsSettlingOfPair record { request = request a.roots d fixed anew; printed = printed } a.dump a.probe (answer_of reply))
settled_is_told a d fixed anew printed after writes closings denied r admitted sized titles sound spared told =
    IfOk-weaker r (λ reply. answer_of reply ≡ done_with (spare_remarks denied) (settled_text printed a.dump writes after))
    (λ reply. IsSettlingOfPair record { request = request a.roots d fixed anew; printed = printed } a.dump a.probe (answer_of reply))
    (λ reply line. inl record {
      after = after;
      writes = writes;
      denied = denied;
      admitted = admitted;
      is = record { sized = sized; titles = titles; closings = closings; is = spared };
      sound = sound;
      line = line;
    }) told

pub refused_is_told : {A E : Type 0} (a : Admission) (d : Demand) (fixed : List Slot) (anew : Bool) (printed : Printed) (fault : SettleFault) (r : Result (Reply A) E) → IsAdmitted a
    → IsRefusal a (without_slots (request a.roots d fixed anew)) (refusal.Fault fault)
    → IfOk r (λ reply. answer_of reply ≡ refused (fault_answer_line (settle_fault_text fault)))
    → IfOk r (λ reply. IsSettlingOfPair record { request = request a.roots d fixed anew; printed = printed } a.dump a.probe (answer_of reply))
refused_is_told a d fixed anew printed fault r admitted stands told =
    IfOk-weaker r (λ reply. answer_of reply ≡ refused (fault_answer_line (settle_fault_text fault)))
    (λ reply. IsSettlingOfPair record { request = request a.roots d fixed anew; printed = printed } a.dump a.probe (answer_of reply))
    (λ reply line. inr (inr record { fault = fault; admitted = admitted; stands = stands; line = line })) told

pub ready_is_told : {A E : Type 0} (asked : SettleAsked) (dump probe : List Block) (r : Result (Reply A) E) → IsReadyAsTold asked.request.told asked.request.roots dump probe
    → IfOk r (λ reply. IsSettlingOfPair asked dump probe (answer_of reply)) → IfOk r (λ reply. IsSettlingTold asked dump probe (answer_of reply))
ready_is_told asked dump probe r ready told =
    IfOk-weaker r (λ reply. IsSettlingOfPair asked dump probe (answer_of reply)) (λ reply. IsSettlingTold asked dump probe (answer_of reply))
    (λ reply is. inl record { ready = ready; is = is }) told

pub not_ready_is_told : {A E : Type 0} (asked : SettleAsked) (dump probe : List Block) (faults : List Fault) (r : Result (Reply A) E)
    → AreBefore asked.request.told nothing_given asked.request.roots dump probe faults
    → IfOk r (λ reply. IsFirstLine faults (answer_of reply)) → IfOk r (λ reply. IsSettlingTold asked dump probe (answer_of reply))
not_ready_is_told asked dump probe faults r before told =
    IfOk-weaker r (λ reply. IsFirstLine faults (answer_of reply)) (λ reply. IsSettlingTold asked dump probe (answer_of reply))
    (λ reply line. inr record { faults = faults; before = before; line = line }) told

-- where a text tells of no range, nothing is told
pub none_told : (ranges : List ToldRange) → (length ranges == 0) ≡ true → ranges ≡ []
none_told [] none = refl
none_told (r ∷ ranges) none = absurd (let same : length (r ∷ ranges) ≡ 0 = eqb-true _ _ none in let no : ⊥ = omega (arith, same) in no)
