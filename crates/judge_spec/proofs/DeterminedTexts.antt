-- A dump and its probe have at most one list of all faults, and with nothing given and told at most one text of it.
use Rattle.std.proofs.Common.{◌≡◌, ℕ, ◌<◌, List, [], ◌∷◌, ◌++◌, ◌⊎◌, map, refl, sym, ◌∙◌, ap, subst, inl, inr, arith, Bool, true, false}
use Rattle.std.specs.Prelude.{IsTrue}
use Rattle.std.specs.List.{Contains, AllPairs}
use Rattle.pci_spec.specs.Slot.{Slot, slot_number}
use Rattle.pci_spec.specs.Text.{Block, IsDump, slots_of}
use Rattle.pci_spec.specs.System.{System, IsSystem, system_of}
use Rattle.pci_spec.specs.Bus.{IsNested}
use Rattle.pci_spec.specs.Fault.{Unreached, Clash, Split, SlotsDiffer, BusRange, Orphan, IsInOne, IsThere}
use Rattle.pci_spec.specs.Fault as plain
use Rattle.pci_spec.specs.FaultsText as plain_text
use Rattle.pci_spec.specs.Order.{Judging, phase_key, phase_of, precedes, is_before, looking_key, image_at}
use Rattle.pci_spec.specs.Mark.{AssumedRegister}
use Rattle.pci_spec.specs.Why as why
use Rattle.pci_spec.proofs.Firsts.{no}
use Rattle.pci_spec.proofs.Members.{in_nil, in_cons_cases, in_head, in_tail, in_map_from, pairs_nil, pairs_cons, pairs_head, pairs_tail}
use Rattle.pci_spec.proofs.Nesting.{nested_without_bus_faults}
use Rattle.pci_spec.proofs.Pairing.{IsSystem-of_dumps, there-of_in}
use Rattle.pci_spec.proofs.Regions.{region_decided, precedes-cases}
use Rattle.pci_spec.proofs.Rising.{pairs_of_rising}
use Rattle.judge_spec.specs.Given.{Given}
use Rattle.judge_spec.specs.Fault.{Fault, Known}
use Rattle.judge_spec.specs.AllFaults.{judging_key}
use Rattle.judge_spec.specs.FaultLines.{AreEarlier, AreJudged, AreAllFaults}
use Rattle.judge_spec.specs.DeterminedLaws.{ListIsDetermined, PlainListIsDetermined, PlainTextIsDetermined}
use Rattle.judge_spec.proofs.OneList.{same_list}
use Rattle.judge_spec.proofs.Determined.{plain_why_is_determined}

-- ---- lists in the order of their keys

pub precedes_one_way : (xs ys : List ℕ) → precedes xs ys ≡ true → precedes ys xs ≡ true → ⊥
precedes_one_way [] ys h k = no h
precedes_one_way (x ∷ xs) [] h k = no h
precedes_one_way (x ∷ xs) (y ∷ ys) h k = elim (precedes-cases x y xs ys h) [
  | inl up ↦ elim (precedes-cases y x ys xs k) [ inl down ↦ omega (arith, up, down) | inr same ↦ (let e = same.0 in omega (arith, up, e)) ]
  | inr same ↦ elim (precedes-cases y x ys xs k) [ inl down ↦ (let e = same.0 in omega (arith, down, e)) | inr also ↦ precedes_one_way xs ys same.1 also.1 ]
]

pub plain_list_is_determined : PlainListIsDetermined
plain_list_is_determined roots dump probe faults others all also =
    same_list (λ (e f : plain.Fault). IsTrue (is_before (image_at (system_of dump probe)) e f))
    (λ e f up down. precedes_one_way (looking_key (image_at (system_of dump probe)) e) (looking_key (image_at (system_of dump probe)) f) up down)
    faults others all.rising also.rising
    (λ e has. also.complete e (all.each e has)) (λ e has. all.complete e (also.each e has))

module _ (given : Given) (roots : List ℕ) (dump probe : List Block) where
  -- of faults that are looked for before judging there is one, which those of judging rule out
  not_both : (faults others : List Fault) → AreEarlier roots dump probe faults → AreJudged given roots dump probe others → ⊥
  not_both faults others earlier judged = elim earlier.early as (λ early. ((early ≡ []) → ⊥) → ((e : plain.Fault) → Contains early e → (phase_of e < phase_key Judging) × IsThere roots dump probe e) → ⊥) [
    | [] ↦ λ some of. some refl
    | e ∷ rest ↦ λ some of. (let first = of e (in_head e rest) in judged.none_earlier e first.0 first.1)
  ] earlier.some (λ e has. (earlier.before e has, (earlier.all.each e has).there))

  one_list : (faults others : List Fault) → AreAllFaults given roots dump probe faults → AreAllFaults given roots dump probe others → faults ≡ others
  one_list faults others (inl h) (inl k) =
      h.are ∙ ap (λ (early : List plain.Fault). map Known early) (plain_list_is_determined roots dump probe h.early k.early h.all k.all) ∙ sym k.are
  one_list faults others (inl h) (inr k) = absurd (not_both faults others h k)
  one_list faults others (inr h) (inl k) = absurd (not_both others faults k h)
  one_list faults others (inr h) (inr k) =
      same_list (λ (e f : Fault). IsTrue (precedes (judging_key e) (judging_key f))) (λ e f up down. precedes_one_way (judging_key e) (judging_key f) up down)
      faults others h.all.rising k.all.rising
      (λ e has. k.all.complete e (h.all.each e has)) (λ e has. h.all.complete e (k.all.each e has))

pub list_is_determined : ListIsDetermined
list_is_determined given roots dump probe faults others all also = one_list given roots dump probe faults others all also

-- ---- dumps in which no slot is alone

pub pairs_of_map : {X Y : Type 0} (R : Y → Y → Type 0) (f : X → Y) (xs : List X) → AllPairs R (map f xs) → AllPairs (λ x y. R (f x) (f y)) xs
pairs_of_map R f [] pairs = pairs_nil (λ x y. R (f x) (f y))
pairs_of_map R f (x ∷ xs) pairs =
    pairs_cons (λ x y. R (f x) (f y)) x xs (λ y has. pairs_head R (f x) (map f xs) (f y) pairs (in_map_from f xs y has))
    (pairs_of_map R f xs (pairs_tail R (f x) (map f xs) pairs))

pub slot_decided : (slots : List Slot) (t : Slot) → Contains slots t ⊎ (Contains slots t → ⊥)
slot_decided [] t = inr (λ has. in_nil t has)
slot_decided (s ∷ slots) t = elim (region_decided s t 0 0) [
  | inl same ↦ inl (subst (λ (x : Slot). Contains (s ∷ slots) x) same.0 (in_head s slots))
  | inr differ ↦ elim (slot_decided slots t) [
    | inl later ↦ inl (in_tail s slots t later)
    | inr never ↦ inr (λ has. elim (in_cons_cases s slots t has) [ inl here ↦ differ (here, refl) | inr later ↦ never later ])
  ]
]

abbrev IsLower : Slot → Slot → Type 0
IsLower s t = slot_number s < slot_number t

slots_rise : (blocks : List Block) → IsDump blocks → AllPairs IsLower (slots_of blocks)
slots_rise blocks is = pairs_of_map (λ m n. m < n) slot_number (slots_of blocks) (pairs_of_rising (map slot_number (slots_of blocks)) is.rising)

module _ (dump probe : List Block) (is_dump : IsDump dump) (is_probe : IsDump probe) where
  pub same_slots : ((slot : Slot) → IsInOne dump probe slot → ⊥) → slots_of dump ≡ slots_of probe
  same_slots none =
      same_list IsLower (λ s t up down. omega (arith, up, down)) (slots_of dump) (slots_of probe) (slots_rise dump is_dump) (slots_rise probe is_probe)
      (λ s has. elim (slot_decided (slots_of probe) s) [ inl there ↦ there | inr not ↦ absurd (none s (inl (has, not))) ])
      (λ s has. elim (slot_decided (slots_of dump) s) [ inl there ↦ there | inr not ↦ absurd (none s (inr (not, has))) ])

  module _ (roots : List ℕ) where
    pub system_and_buses : ((fault : plain.Fault) → phase_of fault < phase_key Judging → IsThere roots dump probe fault → ⊥)
        → IsSystem (system_of dump probe) × IsNested roots (system_of dump probe)
    system_and_buses none =
        let same = same_slots (λ slot alone. none (SlotsDiffer slot) (omega arith) alone) in
        let system = IsSystem-of_dumps dump probe is_dump is_probe same in (
          system,
          nested_without_bus_faults roots (system_of dump probe) system
              (λ slot. (
                λ is. none (BusRange slot) (omega arith) (there-of_in roots dump probe (BusRange slot) same is),
                λ is. none (Orphan slot) (omega arith) (there-of_in roots dump probe (Orphan slot) same is),
              )),
        )

-- ---- with nothing given

module _ (assumed : List AssumedRegister) (roots : List ℕ) (s : System) where
  abbrev HasOnePlainWhy : plain.Fault → Type 0
  HasOnePlainWhy fault = (lines others : List ℕ) → why.IsWhy assumed roots s fault lines → why.IsWhy assumed roots s fault others → lines ≡ others

  one_plain_reasoned : (faults : List plain.Fault) → ((fault : plain.Fault) → Contains faults fault → HasOnePlainWhy fault) → (lines others : List ℕ)
      → plain_text.AreReasoned assumed roots s faults lines → plain_text.AreReasoned assumed roots s faults others → lines ≡ others
  one_plain_reasoned [] one lines others h k = h ∙ sym k
  one_plain_reasoned (fault ∷ rest) one lines others (behind, more, is, are, e) (other, later, also, too, f) =
      let here : behind ≡ other = one fault (in_head fault rest) behind other is also in
      let next : more ≡ later = one_plain_reasoned rest (λ x has. one x (in_tail fault rest x has)) more later are too in
      e ∙ ap (λ xs. (plain_text.fault_line fault ++ xs) ++ more) here ∙ ap (λ xs. (plain_text.fault_line fault ++ other) ++ xs) next ∙ sym f

  one_plain_text : (faults : List plain.Fault) → ((fault : plain.Fault) → Contains faults fault → HasOnePlainWhy fault) → (asked : Bool) (text other : List ℕ)
      → plain_text.IsFaultsText assumed roots s asked faults text → plain_text.IsFaultsText assumed roots s asked faults other → text ≡ other
  one_plain_text faults one false text other h k = h ∙ sym k
  one_plain_text faults one true text other h k =
      h.is ∙ ap (λ xs. (plain_text.yes_line faults ++ xs) ++ plain_text.off_behind s faults) (one_plain_reasoned faults one h.lines k.lines h.reasoned k.reasoned) ∙ sym k.is

-- a fault of judging is there only where a dump and a probe have the same slots, and behind another there are no lines
plain_has_one : (assumed : List AssumedRegister) (roots : List ℕ) (dump probe : List Block) → IsDump dump → IsDump probe
    → (fault : plain.Fault) → IsThere roots dump probe fault → HasOnePlainWhy assumed roots (system_of dump probe) fault
plain_has_one assumed roots dump probe is_dump is_probe fault there lines others =
    elim fault as (λ fault. IsThere roots dump probe fault → why.IsWhy assumed roots (system_of dump probe) fault lines → why.IsWhy assumed roots (system_of dump probe) fault others → lines ≡ others) [
      | Unreached slot register space a bridge ↦ λ there.
          plain_why_is_determined assumed roots (system_of dump probe) (Unreached slot register space a bridge) lines others (IsSystem-of_dumps dump probe is_dump is_probe there.0)
      | Clash bus space a first fr second sr ↦ λ there.
          plain_why_is_determined assumed roots (system_of dump probe) (Clash bus space a first fr second sr) lines others (IsSystem-of_dumps dump probe is_dump is_probe there.0)
      | Split space a first fr second sr ↦ λ there.
          plain_why_is_determined assumed roots (system_of dump probe) (Split space a first fr second sr) lines others (IsSystem-of_dumps dump probe is_dump is_probe there.0)
      | _ ↦ λ there h k. (h.text ∙ ap (λ xs. xs ++ h.advice) h.told ∙ h.fits) ∙ sym (k.text ∙ ap (λ xs. xs ++ k.advice) k.told ∙ k.fits)
    ] there

pub plain_text_is_determined : PlainTextIsDetermined
plain_text_is_determined assumed roots dump probe asked text other is_dump is_probe h k =
    let same : k.faults ≡ h.faults = plain_list_is_determined roots dump probe k.faults h.faults k.all h.all in
    one_plain_text assumed roots (system_of dump probe) h.faults
    (λ fault has. plain_has_one assumed roots dump probe is_dump is_probe fault (h.all.each fault has).there) asked text other h.is
    (subst (λ (xs : List plain.Fault). plain_text.IsFaultsText assumed roots (system_of dump probe) asked xs other) same k.is)
