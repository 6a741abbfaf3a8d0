-- A dump and its probe have at most one text of the list of all faults.
use Rattle.std.proofs.Common.{◌≡◌, ℕ, ◌<◌, List, [], ◌∷◌, ◌++◌, sym, ◌∙◌, ap, subst, inl, inr, arith, Bool, true, false}
use Rattle.std.specs.List.{Contains}
use Rattle.pci_spec.specs.Text.{Block, IsDump, slots_of}
use Rattle.pci_spec.specs.System.{System, system_of}
use Rattle.pci_spec.specs.Fault.{Unreached, Clash, Split, SlotsDiffer, Orphan, IsThere}
use Rattle.pci_spec.specs.Fault as plain
use Rattle.pci_spec.specs.Order.{Judging, phase_key, phase_of}
use Rattle.pci_spec.specs.Mark.{AssumedRegister}
use Rattle.pci_spec.proofs.Members.{in_head, in_tail, IsMade, in_map_to}
use Rattle.judge_spec.specs.Given.{Given}
use Rattle.judge_spec.specs.Fault.{Known}
use Rattle.judge_spec.specs.Fault as untold
use Rattle.judge_spec.specs.FaultLines as untold_lines
use Rattle.judge_spec.specs.ToldClaims.{Told}
use Rattle.judge_spec.specs.ToldFault.{Fault, NotListed}
use Rattle.judge_spec.specs.ToldFault as told_fault
use Rattle.judge_spec.specs.ToldFaultLines.{IsEarlyThere, AreAllFaults}
use Rattle.judge_spec.specs.ToldLine.{fault_line}
use Rattle.judge_spec.specs.Why.{IsWhy}
use Rattle.judge_spec.specs.FaultsText.{IsBehind, AreReasoned, IsFaultsText, yes_line, off_behind}
use Rattle.judge_spec.specs.DeterminedLaws.{TextIsDetermined}
use Rattle.judge_spec.proofs.Determined.{why_is_determined}
use Rattle.judge_spec.proofs.DeterminedTexts.{same_slots, system_and_buses}
use Rattle.judge_spec.proofs.ToldDetermined.{told_list_is_determined}

-- behind a fault that is looked for before judging there are no lines
early_why : (assumed : List AssumedRegister) (told : Told) (given : Given) (roots : List ℕ) (s : System) (fault : plain.Fault) (lines : List ℕ)
    → phase_of fault < phase_key Judging → IsWhy assumed told given roots s (Known fault) lines → lines ≡ []
early_why assumed told given roots s fault lines = elim fault as (λ fault. phase_of fault < phase_key Judging → IsWhy assumed told given roots s (Known fault) lines → lines ≡ []) [
  | Unreached slot register space a bridge ↦ λ early h. absurd (let none : ⊥ = omega (arith, early) in none)
  | Clash bus space a first fr second sr ↦ λ early h. absurd (let none : ⊥ = omega (arith, early) in none)
  | Split space a first fr second sr ↦ λ early h. absurd (let none : ⊥ = omega (arith, early) in none)
  | _ ↦ λ early h. h.text ∙ ap (λ xs. xs ++ h.advice) h.shows ∙ h.fits
]

module _ (assumed : List AssumedRegister) (told : Told) (given : Given) (roots : List ℕ) (s : System) where
  abbrev HasOneBehind : Fault → Type 0
  HasOneBehind fault = (lines others : List ℕ) → IsBehind assumed told given roots s fault lines → IsBehind assumed told given roots s fault others → lines ≡ others

  one_reasoned : (faults : List Fault) → ((fault : Fault) → Contains faults fault → HasOneBehind fault) → (lines others : List ℕ)
      → AreReasoned assumed told given roots s faults lines → AreReasoned assumed told given roots s faults others → lines ≡ others
  one_reasoned [] one lines others h k = h ∙ sym k
  one_reasoned (fault ∷ rest) one lines others (behind, more, is, are, e) (other, later, also, too, f) =
      let here : behind ≡ other = one fault (in_head fault rest) behind other is also in
      let next : more ≡ later = one_reasoned rest (λ x has. one x (in_tail fault rest x has)) more later are too in
      e ∙ ap (λ xs. (fault_line fault ++ xs) ++ more) here ∙ ap (λ xs. (fault_line fault ++ other) ++ xs) next ∙ sym f

  one_text : (faults : List Fault) → ((fault : Fault) → Contains faults fault → HasOneBehind fault) → (asked : Bool) (text other : List ℕ)
      → IsFaultsText assumed told given roots s asked faults text → IsFaultsText assumed told given roots s asked faults other → text ≡ other
  one_text faults one false text other h k = h ∙ sym k
  one_text faults one true text other h k =
      h.is ∙ ap (λ xs. (yes_line faults ++ xs) ++ off_behind told s faults) (one_reasoned faults one h.lines k.lines h.reasoned k.reasoned) ∙ sym k.is

  early_has_one : (fault : plain.Fault) → phase_of fault < phase_key Judging → HasOneBehind (told_fault.Known (Known fault))
  early_has_one fault early lines others h k = early_why assumed told given roots s fault lines early h ∙ sym (early_why assumed told given roots s fault others early k)

  untold_has_one : ((fault : untold.Fault) (lines others : List ℕ) → IsWhy assumed told given roots s fault lines → IsWhy assumed told given roots s fault others → lines ≡ others)
      → (fault : Fault) → HasOneBehind fault
  untold_has_one one (told_fault.Known fault) lines others h k = one fault lines others h k
  untold_has_one one (NotListed slot) lines others h k = h ∙ sym k

-- what is there without what is told is there with it
early_is_there : (told : Told) (roots : List ℕ) (dump probe : List Block) (fault : plain.Fault) → IsThere roots dump probe fault → IsEarlyThere told roots dump probe fault
early_is_there told roots dump probe fault = elim fault as (λ fault. IsThere roots dump probe fault → IsEarlyThere told roots dump probe fault) [
  | Orphan slot ↦ λ there. inl there
  | _ ↦ λ there. there
]

module _ (assumed : List AssumedRegister) (told : Told) (given : Given) (roots : List ℕ) (dump probe : List Block) (is_dump : IsDump dump) (is_probe : IsDump probe) where
  abbrev HasOne : Fault → Type 0
  HasOne fault = HasOneBehind assumed told given roots (system_of dump probe) fault

  -- where a slot is alone no fault is one of judging
  of_slots : (known : List untold.Fault) → (slots_of dump ≡ slots_of probe → ⊥) → untold_lines.AreAllFaults given roots dump probe known → (fault : untold.Fault) → Contains known fault → HasOne (told_fault.Known fault)
  of_slots known differ (inl earlier) fault has =
      let made : IsMade Known earlier.early fault = in_map_to Known earlier.early fault (subst (λ (xs : List untold.Fault). Contains xs fault) earlier.are has) in
      subst (λ (x : untold.Fault). HasOne (told_fault.Known x)) made.is (early_has_one assumed told given roots (system_of dump probe) made.from (earlier.before made.from made.has))
  of_slots known differ (inr judged) fault has =
      absurd (differ (same_slots dump probe is_dump is_probe (λ slot alone. judged.none_earlier (SlotsDiffer slot) (omega arith) alone)))

  each_has_one : (faults : List Fault) → AreAllFaults told given roots dump probe faults → (fault : Fault) → Contains faults fault → HasOne fault
  each_has_one faults (inl slots) fault has =
      let made : IsMade told_fault.Known slots.known fault = in_map_to told_fault.Known slots.known fault (subst (λ (xs : List Fault). Contains xs fault) slots.are has) in
      subst HasOne made.is (of_slots slots.known slots.slots slots.all made.from made.has)
  each_has_one faults (inr (inl not)) fault has =
      let made : IsMade NotListed not.slots fault = in_map_to NotListed not.slots fault (subst (λ (xs : List Fault). Contains xs fault) not.are has) in
      subst HasOne made.is (λ lines others h k. h ∙ sym k)
  each_has_one faults (inr (inr (inl earlier))) fault has =
      let made : IsMade (λ f. told_fault.Known (Known f)) earlier.early fault = in_map_to (λ f. told_fault.Known (Known f)) earlier.early fault (subst (λ (xs : List Fault). Contains xs fault) earlier.are has) in
      subst HasOne made.is (early_has_one assumed told given roots (system_of dump probe) made.from (earlier.all.each made.from made.has).early)
  each_has_one faults (inr (inr (inr judged))) fault has =
      let is = system_and_buses dump probe is_dump is_probe roots (λ f early there. judged.none_earlier f early (early_is_there told roots dump probe f there)) in
      untold_has_one assumed told given roots (system_of dump probe) (λ f lines others h k. why_is_determined assumed told given roots (system_of dump probe) f lines others is.0 is.1 h k) fault

pub text_is_determined : TextIsDetermined
text_is_determined assumed told given roots dump probe asked text other is_dump is_probe h k =
    let same : k.faults ≡ h.faults = told_list_is_determined told given roots dump probe k.faults h.faults k.all h.all in
    one_text assumed told given roots (system_of dump probe) h.faults (each_has_one assumed told given roots dump probe is_dump is_probe h.faults h.all) asked text other h.is
    (subst (λ (xs : List Fault). IsFaultsText assumed told given roots (system_of dump probe) asked xs other) same k.is)
