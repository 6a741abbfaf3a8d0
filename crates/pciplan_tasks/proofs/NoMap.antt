-- The line in the place of a map, with nothing told.
use Rattle.std.proofs.Common.{◌≡◌, ℕ, ◌<◌, List, [], ◌∷◌, map, refl, ap, subst, ◌∙◌, arith, lit<, inl, inr}
use Rattle.pci_spec.specs.Slot.{Slot}
use Rattle.pci_spec.specs.Text.{Block, IsDump}
use Rattle.pci_spec.specs.Fault.{Orphan, Unreached, Clash, Split, SlotsDiffer, IsThere, fault_number}
use Rattle.pci_spec.specs.Fault as plain
use Rattle.pci_spec.specs.FaultLines as plain_lines
use Rattle.pci_spec.specs.Line as plain_line
use Rattle.pci_spec.specs.Order.{phase_of}
use Rattle.pci_spec.proofs.Members.{in_nil, in_head}
use Rattle.std.specs.List.{Contains}
use Rattle.judge_spec.specs.Given.{Given}
use Rattle.judge_spec.specs.Fault as untold
use Rattle.judge_spec.specs.ToldClaims.{nothing_told}
use Rattle.judge_spec.specs.ToldFault.{Fault, Known}
use Rattle.judge_spec.specs.ToldFaultLines.{IsEarlyThere, HasNotListed, AreAllFaults}
use Rattle.judge_spec.specs.ToldLine.{fault_text}
use Rattle.judge_spec.specs.Laws.{plain_known}
use Rattle.judge_spec.proofs.DeterminedTexts.{same_slots}
use Rattle.judge_spec.proofs.NothingToldLists.{same_told_list}
use Rattle.judge_spec.proofs.PlainLists.{first_of_list_is_first}
use Rattle.pci_faults.specs.Every.{AreBefore}
use Rattle.pciplan_tasks.specs.Answers.{Answer, fault_answer_line, refused}
use Rattle.pciplan_tasks.specs.FaultsLaws.{NoMapNamesTheFirst}
use Rattle.pciplan_tasks.specs.MapAnswers.{IsFirstLine}
use Rattle.pciplan_tasks.specs.PlanAnswers.{IsRefusedText}

-- ---- faults before judging

same_text : (f : plain.Fault) → phase_of f < 5 → fault_text (plain_known f) ≡ plain_line.fault_text f
same_text (Unreached slot register space address bridge) early = absurd (let none : ⊥ = omega (arith, early) in none)
same_text (Clash bus space address first fr second sr) early = absurd (let none : ⊥ = omega (arith, early) in none)
same_text (Split space address first fr second sr) early = absurd (let none : ⊥ = omega (arith, early) in none)
same_text _ early = refl

low_profile : (fault : plain.ProfileFault) → plain.profile_number fault < 60
low_profile plain.PaletteSnoop = lit< tt
low_profile _ = lit< tt

low_number : (f : plain.Fault) → phase_of f < 5 → fault_number f < 60
low_number (plain.OfProfile fault slot) early = low_profile fault
low_number (Unreached slot register space address bridge) early = absurd (let none : ⊥ = omega (arith, early) in none)
low_number (Clash bus space address first fr second sr) early = absurd (let none : ⊥ = omega (arith, early) in none)
low_number (Split space address first fr second sr) early = absurd (let none : ⊥ = omega (arith, early) in none)
low_number _ early = omega arith

module _ (asleep : List Slot) (given : Given) (roots : List ℕ) (dump probe : List Block) (is_dump : IsDump dump) (is_probe : IsDump probe) where
  there_plain : (f : plain.Fault) → IsEarlyThere (nothing_told asleep) roots dump probe f → IsThere roots dump probe f
  there_plain (Orphan slot) (inl there) = there
  there_plain (Orphan slot) (inr held) = absurd (in_nil held.r held.is_told)
  there_plain _ there = there

  some_slot : (slots : List Slot) → (slots ≡ [] → ⊥) → ((slot : Slot) → Contains slots slot → HasNotListed (nothing_told asleep) dump probe slot) → ⊥
  some_slot [] some each = some refl
  some_slot (slot ∷ rest) some each = let none = each slot (in_head slot rest) in in_nil none.r none.is_told

  some_early : (early : List plain.Fault) → (early ≡ [] → ⊥) → ((f : plain.Fault) → Contains early f → (phase_of f < 5) × IsThere roots dump probe f) → ((f : plain.Fault) → phase_of f < 5 → IsThere roots dump probe f → ⊥) → ⊥
  some_early [] some each none = some refl
  some_early (f ∷ rest) some each none = let is = each f (in_head f rest) in none f is.0 is.1

  -- where some are told one is there without what is told
  not_none : (faults : List Fault) → AreBefore (nothing_told asleep) given roots dump probe faults → ((f : plain.Fault) → phase_of f < 5 → IsThere roots dump probe f → ⊥) → ⊥
  not_none faults (inl h) none = h.slots (same_slots dump probe is_dump is_probe (λ slot alone. none (SlotsDiffer slot) (omega arith) alone))
  not_none faults (inr (inl h)) none = some_slot h.slots h.some h.all.each
  not_none faults (inr (inr h)) none = some_early h.early h.some (λ f has. (let line = h.all.each f has in (line.early, there_plain f line.there))) none

  in_all : (faults : List Fault) → AreBefore (nothing_told asleep) given roots dump probe faults → AreAllFaults (nothing_told asleep) given roots dump probe faults
  in_all faults (inl h) = inl h
  in_all faults (inr (inl h)) = inr (inl h)
  in_all faults (inr (inr h)) = inr (inr (inl h))

  -- the first of those without what is told is the one
  first_of : (early : List plain.Fault) (answer : Answer) → (early ≡ [] → ⊥) → ((f : plain.Fault) → Contains early f → phase_of f < 5) → plain_lines.AreAllFaults roots dump probe early
      → IsFirstLine (map Known (map untold.Known early)) answer → IsRefusedText roots dump probe answer
  first_of [] answer some before all line = absurd (some refl)
  first_of (f ∷ rest) answer some before all line =
      let early = before f (in_head f rest) in
      record {
        fault = f;
        first = first_of_list_is_first roots dump probe f rest is_dump is_probe all;
        early = low_number f early;
        line = line ∙ ap (λ text. refused (fault_answer_line text)) (same_text f early);
      }

pub no_map_names_the_first : NoMapNamesTheFirst
no_map_names_the_first asleep given roots dump probe answer is_dump is_probe h =
    let list = (same_told_list asleep given roots dump probe h.faults is_dump is_probe).0 (in_all asleep given roots dump probe is_dump is_probe h.faults h.before) in
    elim list.all [
      | inl earlier ↦ first_of asleep given roots dump probe is_dump is_probe earlier.early answer earlier.some earlier.before earlier.all
          (subst (λ (faults : List Fault). IsFirstLine faults answer) (list.are ∙ ap (map Known) earlier.are) h.line)
      | inr late ↦ absurd (not_none asleep given roots dump probe is_dump is_probe h.faults h.before late.none_earlier)
    ]
