-- What settling comes to, said of the texts and of the words.
use Rattle.std.proofs.Common.{◌≡◌, ◌≤◌, ◌⊎◌, ℕ, List, [], ◌∷◌, refl, map, take, ap, sym, subst, inl, inr, arith}
use Rattle.pci_spec.specs.Machine.{system_after}
use Rattle.pci_spec.specs.Machine as spec
use Rattle.pci_spec.specs.Sound.{IsSound}
use Rattle.settle_spec.specs.Sparing.{without_slots}
use Rattle.pci_base.specs.declared.memory.Refused.TheVariants as refused
use Rattle.pci_faults.specs.Every.{AreReadyForJudging}
use Rattle.pci_tree.specs.Admission.{Admission, IsAdmitted}
use Rattle.pci_place.specs.Above.{system_in}
use Rattle.pci_plan.specs.Writes.{write_value}
use Rattle.pci_settle.specs.Denied.{denied_value, IsSpared}
use Rattle.pci_settle.specs.Endings.{IsRefusal}
use Rattle.pci_settle.specs.Requests.{request}
use Rattle.pci_settle.specs.declared.lack.SettleFault.{SettleFault}
use Rattle.pci_settle.specs.declared.settle.Denied.{Denied}
use Rattle.pci_settle.specs.declared.settle.Settled.{Settled as SettledOfCode}
use Rattle.pciplan_c.specs.RegisterWrites.{write_value_of}
use Rattle.pciplan_tasks.specs.SettleAnswers.{IsReadyAsTold}
use Rattle.pciplan_c.specs.Texts.{AreTexts, IsUnreadOf}
use Rattle.pciplan_c.specs.declared.refusal.Refusal.TheVariants.{Root, Dump, Probe}
use Rattle.pciplan_c.specs.declared.register_write.RegisterWrite.{RegisterWrite}
use Rattle.pciplan_c.specs.declared.unread.Unread.{Unread}
use Rattle.pciplan_c.specs.declared.unread.Unread.TheVariants as unread
use Rattle.pciplan_c.specs.DeniedSpares.{denied_value_of}
use Rattle.pciplan_c.specs.SettleWords.{HaveSettleMeaning, IsAskedBy, IsRequestOfWords, said_demand, said_of_asked}
use Rattle.pciplan_c.specs.SettleAnswers.{asked_request, AreSettled, IsAskedWith, IsNotSettled, IsSettledAsAsked, IsSettleSafeFrom, IsUnreadBehind}
use Rattle.pciplan_c.specs.declared.denied_spare.DeniedSpare.{DeniedSpare}
use Rattle.pciplan_c.specs.declared.ending.HeldBack.{HeldBack}
use Rattle.pciplan_c.specs.declared.ending.HeldBack.TheVariants as held_back
use Rattle.pciplan_c.specs.declared.settling.SettleHeldBack.{SettleHeldBack}
use Rattle.pciplan_c.specs.declared.settling.SettleHeldBack.TheVariants as withheld
use Rattle.pciplan_c.specs.declared.settle_words.Asked.{Asked}
use Rattle.pciplan_c.specs.declared.settle_words.SettleWords.{SettleWords}
use Rattle.pciplan_c.specs.ToldTexts.{told_ranges}
use Rattle.pciplan_c.proofs.ToldParts.{none_also, ready_with}
use Rattle.pciplan_c.proofs.Wants.{said_meaning}

-- ---- why the texts aren't admitted, where the words have a meaning

pub have_meaning : {A : Type 0} (words : SettleWords) (asked : Asked A) → IsAskedBy words asked → HaveSettleMeaning words
have_meaning words asked by = said_meaning words (said_of_asked asked) by.said

pub unread_behind : {A : Type 0} (roots dump probe : List ℕ) (words : SettleWords) (asked : Asked A) (why : Unread)
    → IsAskedWith roots dump probe words asked → IsUnreadOf roots dump probe why → IsUnreadBehind roots dump probe words why
unread_behind roots dump probe words asked (unread.Refused Root) asks is = is
unread_behind roots dump probe words asked (unread.Refused (Dump fault)) asks is = (have_meaning words asked asks.by, is)
unread_behind roots dump probe words asked (unread.Refused (Probe fault)) asks is = (have_meaning words asked asks.by, is)
unread_behind roots dump probe words asked (unread.NotAdmitted fault) asks is =
    (have_meaning words asked asks.by, is, none_also roots dump probe words.also.now asked.told fault asks.told is)

-- ---- what is admitted

-- words that were read ask for this
request_of_words : {A : Type 0} (roots dump probe : List ℕ) (a : Admission) (words : SettleWords) (asked : Asked A) → IsAskedWith roots dump probe words asked
    → IsRequestOfWords a.roots a.dump words (asked_request a asked)
request_of_words roots dump probe a words asked asks = record {
  said = said_of_asked asked;
  are = asks.by.said;
  told = asked.told;
  told_text = asks.told.text;
  is = ap (λ anew. request a.roots (said_demand (said_of_asked asked) asked.told a.dump) asked.fixed.items anew) asks.by.anew;
}

-- the two are ready to be judged with what is told
ready_as_told : {A : Type 0} (roots dump probe : List ℕ) (a : Admission) (words : SettleWords) (asked : Asked A) → AreTexts roots dump probe a
    → IsAskedWith roots dump probe words asked → IsReadyAsTold (asked_request a asked).told a.roots a.dump a.probe
ready_as_told roots dump probe a words asked texts asks = elim asks.told.ready [
  | inl none ↦ inl none
  | inr ready ↦ inr (subst (λ buses. AreReadyForJudging (told_ranges asked.told) buses a.dump a.probe) (sym texts.buses)
      (ready_with roots dump probe asked.told a.dump a.probe texts.dump_text texts.probe_text ready))
]

-- a stop is sound once all that close are made, and from a sound start at any time
abbrev AreStops : Admission → ℕ → List spec.Write → Type 0
AreStops a closing made =
    (k : ℕ) → (closing ≤ k) ⊎ IsSound a.roots (system_in a)
    → IsSound a.roots (system_after (system_in a) (take k made))

stops_from : (a : Admission) (closing safe_from : ℕ) (made : List spec.Write) → IsSettleSafeFrom a closing safe_from
    → AreStops a closing made → (k : ℕ) → safe_from ≤ k → IsSound a.roots (system_after (system_in a) (take k made))
stops_from a closing safe_from made (inl sound) stops k past = stops k (inr sound.0)
stops_from a closing safe_from made (inr none) stops k past = let all = none.1 in stops k (inl (omega (arith, all, past)))

module _ {A : Type 0} (roots dump probe : List ℕ) (words : SettleWords) (asked : Asked A) (a : Admission) (texts : AreTexts roots dump probe a)
    (admitted : IsAdmitted a) (asks : IsAskedWith roots dump probe words asked) where
  pub are_settled : {B : Type 0} (settled : SettledOfCode B) → IsSettledAsAsked a asked settled → (denied : List DeniedSpare) (items : List RegisterWrite) (safe_from : ℕ)
      → IsSettleSafeFrom a settled.writes.closings safe_from → map denied_value_of denied ≡ map denied_value settled.denied.items
      → map write_value_of items ≡ map write_value settled.writes.all.items → AreSettled roots dump probe words denied items safe_from
  are_settled settled is denied items safe_from safe spares are = record {
    start = a;
    texts = texts;
    admitted = admitted;
    request = asked_request a asked;
    asked = request_of_words roots dump probe a words asked asks;
    ready = ready_as_told roots dump probe a words asked texts asks;
    are = record {
      sized = is.sized;
      after = settled.dump;
      closing = settled.writes.closings;
      is = subst (λ ds. IsSpared (asked_request a asked) a settled.dump (map write_value_of items) settled.writes.closings ds) (sym spares)
          (subst (λ ws. IsSpared (asked_request a asked) a settled.dump ws settled.writes.closings (map denied_value settled.denied.items)) (sym are) is.is);
      safe = safe;
      stops = λ k past. subst (λ ws. IsSound a.roots (system_after (system_in a) (take k ws))) (sym are)
          (stops_from a settled.writes.closings safe_from (map write_value settled.writes.all.items) safe is.stops k past);
    };
  }

  pub not_settled : (fault : SettleFault) → IsRefusal a (without_slots (asked_request a asked)) (refused.Fault fault)
      → IsNotSettled roots dump probe words fault
  not_settled fault stands = record {
    start = a;
    texts = texts;
    admitted = admitted;
    request = asked_request a asked;
    asked = request_of_words roots dump probe a words asked asks;
    ready = ready_as_told roots dump probe a words asked texts asks;
    stands = stands;
  }

-- ---- windows as C has them

abbrev pub denied_of_c : Denied → DeniedSpare
denied_of_c d = record {
  bus = d.slot.bus;
  device = d.slot.device;
  function = d.slot.function;
  offset = d.register;
}

pub denied_as_settled : (denied : List Denied) → map denied_value_of (map denied_of_c denied) ≡ map denied_value denied
denied_as_settled [] = refl
denied_as_settled (d ∷ denied) = ap (λ rest. denied_value d ∷ rest) (denied_as_settled denied)

-- ---- what is held back for want of memory

held_of : SettleHeldBack → HeldBack
held_of (withheld.HeldBack held) = held
held_of (withheld.Denied needed) = held_back.Memory

pub held_memory : (held : HeldBack) → withheld.HeldBack held ≡ withheld.HeldBack held_back.Memory → held ≡ held_back.Memory
unfolding held_of
held_memory held is = ap held_of is
