-- What is told beside two texts, and what stands in the way of it.
use Rattle.std.proofs.Common.{◌≡◌, ℕ, ◌<◌, List, [], ◌∷◌, map, refl, sym, ◌∙◌, ap, subst, inl, inr, arith}
use Rattle.std.specs.List.{Contains}
use Rattle.pci_spec.specs.Fault as plain
use Rattle.pci_spec.specs.Fault.{Orphan, SlotsDiffer, Unreached, Clash, Split, IsThere, fault_number}
use Rattle.pci_spec.specs.Order.{Judging, phase_key, phase_of}
use Rattle.pci_spec.specs.Slot.{Slot}
use Rattle.pci_spec.specs.Text.{Block, IsDump, IsTextOf}
use Rattle.pci_spec.proofs.Members.{in_head}
use Rattle.pci_spec.proofs.Spelling.{text_same}
use Rattle.judge_spec.specs.Fault as untold
use Rattle.judge_spec.specs.Given.{Given}
use Rattle.judge_spec.specs.Told.{ToldRange}
use Rattle.judge_spec.specs.ToldClaims.{Told}
use Rattle.judge_spec.specs.ToldFault.{Fault, Known, NotListed}
use Rattle.judge_spec.specs.ToldFaultLines.{AreOfSlots, IsEarlyThere}
use Rattle.judge_spec.specs.ToldText.{told_text}
use Rattle.judge_spec.proofs.DeterminedTexts.{same_slots}
use Rattle.pci_function.specs.declared.fault.Fault as code
use Rattle.pci_function.specs.Fault.{fault_of}
use Rattle.pci_faults.specs.Every.{AreBefore, AreReadyForJudging}
use Rattle.pciplan_c.specs.Texts.{IsNotAdmitted}
use Rattle.pciplan_c.specs.declared.refusal.Refusal.TheVariants.{Root, Dump, Probe}
use Rattle.pciplan_c.specs.declared.unread.Unread.TheVariants as unread
use Rattle.pciplan_c.specs.SettleAnswers.{IsAskedWith, IsNoSettlingOf}
use Rattle.pciplan_c.specs.SettleWords.{HaveSettleMeaning, IsAskedBy, asked_with_told}
use Rattle.pciplan_c.specs.ToldTexts.{AreReadyTexts, AreRangesTold, IsEarlyFirst, IsWhyNoRangesTold, told_ranges}
use Rattle.pciplan_c.specs.declared.no_writes.NoWrites.{NoWrites}
use Rattle.pciplan_c.specs.declared.no_writes.NoWrites.TheVariants.{BadWord, Unread, Also, NotReady, NotPlanned, NotSettled}
use Rattle.pciplan_c.specs.declared.settle_words.Asked.{Asked}
use Rattle.pciplan_c.specs.declared.settle_words.SettleWords.{SettleWords}

-- ---- a fault before judging is the first

known_first : (early : List plain.Fault) → ((fault : plain.Fault) → Contains early fault → phase_of fault < phase_key Judging)
    → (map (λ fault. Known (untold.Known fault)) early ≡ [] → ⊥) → IsEarlyFirst (map (λ fault. Known (untold.Known fault)) early)
known_first [] each some = some refl
known_first (fault ∷ rest) each some = each fault (in_head fault rest)

slots_first : (early : List plain.Fault) → ((fault : plain.Fault) → Contains early fault → phase_of fault < phase_key Judging)
    → (map Known (map untold.Known early) ≡ [] → ⊥) → IsEarlyFirst (map Known (map untold.Known early))
slots_first [] each some = some refl
slots_first (fault ∷ rest) each some = each fault (in_head fault rest)

listed_first : (slots : List Slot) → (map NotListed slots ≡ [] → ⊥) → IsEarlyFirst (map NotListed slots)
listed_first [] some = some refl
listed_first (slot ∷ rest) some = tt

module _ (told : Told) (given : Given) (roots : List ℕ) (dump probe : List Block) (is_dump : IsDump dump) (is_probe : IsDump probe) where
  of_slots : (faults : List Fault) → AreOfSlots given roots dump probe faults → (faults ≡ [] → ⊥) → IsEarlyFirst faults
  of_slots faults slots some = elim slots.all [
    | inl earlier ↦ (
        let are : faults ≡ map Known (map untold.Known earlier.early) = slots.are ∙ ap (map Known) earlier.are in
        subst (λ fs. IsEarlyFirst fs) (sym are) (slots_first earlier.early earlier.before (λ none. some (are ∙ none)))
        )
    | inr judged ↦ absurd (slots.slots (same_slots dump probe is_dump is_probe (λ slot alone. judged.none_earlier (SlotsDiffer slot) (omega arith) alone)))
  ]

  pub early_first : (faults : List Fault) → AreBefore told given roots dump probe faults → (faults ≡ [] → ⊥) → IsEarlyFirst faults
  early_first faults (inl slots) some = of_slots faults slots some
  early_first faults (inr (inl not)) some =
      subst (λ fs. IsEarlyFirst fs) (sym not.are) (listed_first not.slots (λ none. some (not.are ∙ none)))
  early_first faults (inr (inr earlier)) some =
      subst (λ fs. IsEarlyFirst fs) (sym earlier.are) (known_first earlier.early (λ fault has. (earlier.all.each fault has).early) (λ none. some (earlier.are ∙ none)))

-- ---- nothing is told of two texts that have a fault without it

one_dump : (bytes : List ℕ) (blocks others : List Block) → IsTextOf bytes blocks → IsTextOf bytes others → blocks ≡ others
one_dump bytes blocks others h k = text_same blocks others h.0.each k.0.each (sym h.1 ∙ k.1)

pub ready_with : (roots dump probe : List ℕ) (told : List ToldRange) (listed read_back : List Block) → IsTextOf dump listed → IsTextOf probe read_back
    → AreReadyTexts roots dump probe told → AreReadyForJudging (told_ranges told) roots listed read_back
ready_with roots dump probe told listed read_back of_dump of_probe ready =
    subst (λ blocks. AreReadyForJudging (told_ranges told) roots blocks read_back) (one_dump dump ready.listed listed ready.dump_text of_dump)
    (subst (λ blocks. AreReadyForJudging (told_ranges told) roots ready.listed blocks) (one_dump probe ready.read_back read_back ready.probe_text of_probe) ready.ready)

early_is_there : (told : Told) (roots : List ℕ) (dump probe : List Block) (fault : plain.Fault) → IsThere roots dump probe fault → IsEarlyThere told roots dump probe fault
early_is_there told roots dump probe fault = elim fault as (λ fault. IsThere roots dump probe fault → IsEarlyThere told roots dump probe fault) [
  | Orphan slot ↦ λ there. inl there
  | _ ↦ λ there. there
]

before_judging : (fault : plain.Fault) → fault_number fault < 60 → phase_of fault < phase_key Judging
before_judging (Unreached slot register space address bridge) low = omega (arith, low)
before_judging (Clash bus space address first first_register second second_register) low = omega (arith, low)
before_judging (Split space address first first_register second second_register) low = omega (arith, low)
before_judging _ low = omega arith

pub none_also : (roots dump probe also : List ℕ) (told : List ToldRange) (fault : code.Fault) → AreRangesTold roots dump probe also told
    → IsNotAdmitted roots dump probe fault → also ≡ []
none_also roots dump probe also told fault are has = elim are.ready [
  | inl none ↦ are.text.1 ∙ ap told_text none
  | inr ready ↦ absurd ((ready_with roots dump probe told has.listed has.read_back has.dump_text has.probe_text ready).none_earlier (fault_of fault)
      (before_judging (fault_of fault) has.early) (early_is_there (told_ranges told) roots has.listed has.read_back (fault_of fault) has.first.there))
]

-- ---- what is told where words have a meaning

pub asked_with : {A : Type 0} (roots dump probe : List ℕ) (words : SettleWords) (asked : Asked A) (told : List ToldRange) → IsAskedBy words asked
    → AreRangesTold roots dump probe words.also.now told → IsAskedWith roots dump probe words (asked_with_told asked told)
asked_with roots dump probe words asked told by are = record {
  by = record { said = by.said; anew = by.anew };
  told = are;
}

pub untold_settling : (roots dump probe : List ℕ) (words : SettleWords) (why : NoWrites) → HaveSettleMeaning words
    → IsWhyNoRangesTold roots dump probe words.also.now why → IsNoSettlingOf roots dump probe words why
untold_settling roots dump probe words (BadWord bad) said is = absurd is
untold_settling roots dump probe words (Unread (unread.Refused Root)) said is = is
untold_settling roots dump probe words (Unread (unread.Refused (Dump fault))) said is = (said, is)
untold_settling roots dump probe words (Unread (unread.Refused (Probe fault))) said is = (said, is)
untold_settling roots dump probe words (Unread (unread.NotAdmitted fault)) said is = absurd is
untold_settling roots dump probe words (Also fault) said is = (said, is)
untold_settling roots dump probe words (NotReady why) said is = (said, is)
untold_settling roots dump probe words (NotPlanned fault) said is = absurd is
untold_settling roots dump probe words (NotSettled fault) said is = absurd is
