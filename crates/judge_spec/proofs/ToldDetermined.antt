-- Two lists of all faults of a dump and its probe are equal, whatever is told.
use Rattle.std.proofs.Common.{◌≡◌, ℕ, ◌<◌, inl, inr, List, [], ◌∷◌, map, refl, arith, sym, ◌∙◌, ap}
use Rattle.std.specs.Prelude.{IsTrue}
use Rattle.std.specs.List.{Contains}
use Rattle.pci_spec.specs.Slot.{Slot, slot_number}
use Rattle.pci_spec.specs.Text.{Block}
use Rattle.pci_spec.specs.System.{system_of}
use Rattle.pci_spec.specs.Fault as plain
use Rattle.pci_spec.specs.Order.{precedes, looking_key, is_before, image_at}
use Rattle.pci_spec.proofs.Members.{in_head}
use Rattle.judge_spec.specs.Given.{Given}
use Rattle.judge_spec.specs.Fault as untold_fault
use Rattle.judge_spec.specs.AllFaults.{judging_key}
use Rattle.judge_spec.specs.ToldClaims.{Told}
use Rattle.judge_spec.specs.ToldFault.{Fault, Known, NotListed}
use Rattle.judge_spec.specs.ToldFaultLines.{AreOfSlots, AreOfNotListed, AreListed, AreEarlier, AreJudged, AreAllFaults}
use Rattle.judge_spec.specs.ToldJudgingLaws.{ToldListIsDetermined}
use Rattle.judge_spec.proofs.OneList.{same_list}
use Rattle.judge_spec.proofs.DeterminedTexts.{list_is_determined, precedes_one_way}

module _ (told : Told) (given : Given) (roots : List ℕ) (dump probe : List Block) where
  -- a slot that isn't listed rules out that all are
  not_listed_or_listed : (faults : List Fault) → AreOfNotListed told dump probe faults → AreListed told dump probe → ⊥
  not_listed_or_listed faults h listed = elim h.slots as (λ (slots : List Slot). (slots ≡ [] → ⊥) → ((slot : Slot) → Contains slots slot → ⊥) → ⊥) [
    | [] ↦ λ some none. some refl
    | slot ∷ rest ↦ λ some none. none slot (in_head slot rest)
  ] h.some (λ slot has. listed slot (h.all.each slot has))

  -- a fault that is looked for before judging rules out judging
  early_or_judged : (faults others : List Fault) → AreEarlier told roots dump probe faults → AreJudged told given roots dump probe others → ⊥
  early_or_judged faults others h judged = elim h.early as (λ (early : List plain.Fault). (early ≡ [] → ⊥) → ((f : plain.Fault) → Contains early f → ⊥) → ⊥) [
    | [] ↦ λ some none. some refl
    | f ∷ rest ↦ λ some none. none f (in_head f rest)
  ] h.some (λ f has. judged.none_earlier f (h.all.each f has).early (h.all.each f has).there)

  of_slots : (faults others : List Fault) → AreOfSlots given roots dump probe faults → AreOfSlots given roots dump probe others → faults ≡ others
  of_slots faults others h k = h.are ∙ ap (λ (l : List untold_fault.Fault). map Known l) (list_is_determined given roots dump probe h.known k.known h.all k.all) ∙ sym k.are

  of_not_listed : (faults others : List Fault) → AreOfNotListed told dump probe faults → AreOfNotListed told dump probe others → faults ≡ others
  of_not_listed faults others h k =
      h.are
      ∙ ap (λ (l : List Slot). map NotListed l) (same_list (λ (a b : Slot). slot_number a < slot_number b) (λ a b up down. omega (arith, up, down)) h.slots k.slots h.all.rising k.all.rising
      (λ a has. k.all.complete a (h.all.each a has)) (λ a has. h.all.complete a (k.all.each a has)))
      ∙ sym k.are

  of_earlier : (faults others : List Fault) → AreEarlier told roots dump probe faults → AreEarlier told roots dump probe others → faults ≡ others
  of_earlier faults others h k =
      h.are
      ∙ ap (λ (l : List plain.Fault). map (λ f. Known (untold_fault.Known f)) l) (same_list (λ (e f : plain.Fault). IsTrue (is_before (image_at (system_of dump probe)) e f))
      (λ e f up down. precedes_one_way (looking_key (image_at (system_of dump probe)) e) (looking_key (image_at (system_of dump probe)) f) up down)
      h.early k.early h.all.rising k.all.rising
      (λ e has. k.all.complete e (h.all.each e has)) (λ e has. h.all.complete e (k.all.each e has)))
      ∙ sym k.are

  of_judged : (faults others : List Fault) → AreJudged told given roots dump probe faults → AreJudged told given roots dump probe others → faults ≡ others
  of_judged faults others h k =
      h.are
      ∙ ap (λ (l : List untold_fault.Fault). map Known l) (same_list (λ (e f : untold_fault.Fault). IsTrue (precedes (judging_key e) (judging_key f))) (λ e f up down. precedes_one_way (judging_key e) (judging_key f) up down)
      h.judged k.judged h.all.rising k.all.rising
      (λ e has. k.all.complete e (h.all.each e has)) (λ e has. h.all.complete e (k.all.each e has)))
      ∙ sym k.are

  one_list : (faults others : List Fault) → AreAllFaults told given roots dump probe faults → AreAllFaults told given roots dump probe others → faults ≡ others
  one_list faults others (inl h) (inl k) = of_slots faults others h k
  one_list faults others (inl h) (inr (inl k)) = absurd (h.slots k.same)
  one_list faults others (inl h) (inr (inr (inl k))) = absurd (h.slots k.same)
  one_list faults others (inl h) (inr (inr (inr k))) = absurd (h.slots k.same)
  one_list faults others (inr (inl h)) (inl k) = absurd (k.slots h.same)
  one_list faults others (inr (inl h)) (inr (inl k)) = of_not_listed faults others h k
  one_list faults others (inr (inl h)) (inr (inr (inl k))) = absurd (not_listed_or_listed faults h k.listed)
  one_list faults others (inr (inl h)) (inr (inr (inr k))) = absurd (not_listed_or_listed faults h k.listed)
  one_list faults others (inr (inr (inl h))) (inl k) = absurd (k.slots h.same)
  one_list faults others (inr (inr (inl h))) (inr (inl k)) = absurd (not_listed_or_listed others k h.listed)
  one_list faults others (inr (inr (inl h))) (inr (inr (inl k))) = of_earlier faults others h k
  one_list faults others (inr (inr (inl h))) (inr (inr (inr k))) = absurd (early_or_judged faults others h k)
  one_list faults others (inr (inr (inr h))) (inl k) = absurd (k.slots h.same)
  one_list faults others (inr (inr (inr h))) (inr (inl k)) = absurd (not_listed_or_listed others k h.listed)
  one_list faults others (inr (inr (inr h))) (inr (inr (inl k))) = absurd (early_or_judged others faults k h)
  one_list faults others (inr (inr (inr h))) (inr (inr (inr k))) = of_judged faults others h k

pub told_list_is_determined : ToldListIsDetermined
told_list_is_determined told given roots dump probe faults others all also = one_list told given roots dump probe faults others all also
