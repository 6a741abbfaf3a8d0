-- What is said beside two texts, of what is found in them.
use Rattle.std.proofs.Common.{◌≡◌, ℕ, Bool, List, map, ◌∙◌, ap, subst, sym}
use Rattle.pci_spec.specs.Slot.{Slot}
use Rattle.pci_spec.specs.Text.{Block}
use Rattle.pci_spec.specs.System.{system_of}
use Rattle.judge_spec.specs.Given.{Given, LegacyBridge}
use Rattle.judge_spec.specs.Told.{ToldRange}
use Rattle.judge_spec.specs.ToldClaims.{Told}
use Rattle.pci_tree.specs.Roots.{buses_of}
use Rattle.pci_tree.specs.declared.roots.Roots.{Roots}
use Rattle.pci_claims.specs.Values.{legacy_value}
use Rattle.pciplan_tasks.specs.Also.{ranges_told}
use Rattle.pciplan_tasks.specs.Answers.{Answer}
use Rattle.pciplan_tasks.specs.FaultsAnswers.{AreToldTaking, IsFaultsAnswer, given_of, given_with, isa_by, isa_of, legacy_by, palette_by, snoop_of, taking_of, vga_of}
use Rattle.pciplan_tasks.specs.MapAnswers.{IsMapped, IsMapAnswerBy}
use Rattle.pciplan_tasks.specs.Saying.{AreBridgesBy}
use Rattle.pciplan_tasks.specs.TakenAnswers.{AreTakenByWords}
use Rattle.pciplan_tasks.specs.ToldAnswers.{AreAsleepFor, IsToldBeside}
use Rattle.pciplan_tasks.specs.declared.said.Bridges.{Bridges}
use Rattle.pciplan_tasks.specs.declared.task.Beside.{Beside}

-- what is given by the bridges of the dump
pub given_is : (beside : Beside) (dump : List Block) (given : Given) (legacy : List LegacyBridge) (isa : List Slot) (palette : List LegacyBridge)
    → given ≡ given_with beside.host legacy isa palette → legacy ≡ legacy_by (vga_of beside.words) (system_of dump dump) → isa ≡ isa_by (isa_of beside.words) (system_of dump dump)
    → palette ≡ palette_by (snoop_of beside.words) (vga_of beside.words) (system_of dump dump) → given ≡ given_of beside.host beside.words dump
given_is beside dump given legacy isa palette is same_legacy same_isa same_palette = is ∙ (λ i. given_with beside.host (same_legacy i) (same_isa i) (same_palette i))

-- what is told by those that are asleep
pub told_beside : (beside : Beside) (dump probe : List Block) (told : Told) (slots : List Slot) → told.ranges ≡ ranges_told beside.also → told.asleep ≡ slots
    → AreAsleepFor (ranges_told beside.also) beside.words dump probe slots → IsToldBeside beside dump probe told
told_beside beside dump probe told slots ranges asleep are = record {
  ranges = ranges;
  asleep = subst (λ (rs : List ToldRange). AreAsleepFor rs beside.words dump probe told.asleep) (sym ranges) (subst (AreAsleepFor (ranges_told beside.also) beside.words dump probe) (sym asleep) are);
}

-- ---- what is answered with it

-- what is said is what the command line says of the two texts
pub record IsSaidOf (beside : Beside) (dump probe : List Block) (told : Told) (given : Given) (roots : List ℕ) (slots : List Slot) : Type 0 where
  pub told_is : IsToldBeside beside dump probe told
  pub given_is : given ≡ given_of beside.host beside.words dump
  pub roots_are : roots ≡ buses_of beside.roots
  pub slots_are : slots ≡ taking_of beside.words (system_of dump dump)

pub said_is : {A : Type 0} (beside : Beside) (dump probe : List Block) (told : Told) (given : Given) (roots : Roots) (slots : List Slot) (found : Bridges A) (asleep : List Slot) → AreBridgesBy beside.words dump found
    → AreAsleepFor (ranges_told beside.also) beside.words dump probe asleep → told.ranges ≡ ranges_told beside.also → told.asleep ≡ asleep
    → given ≡ given_with beside.host (map legacy_value found.legacy.items) found.isa.items (map legacy_value found.palette.items) → roots ≡ beside.roots → slots ≡ found.taking.items
    → IsSaidOf beside dump probe told given (buses_of roots) slots
said_is beside dump probe told given roots slots found asleep bridges are ranges same_asleep same_given same_roots same_slots = record {
  told_is = told_beside beside dump probe told asleep ranges same_asleep are;
  given_is = given_is beside dump given (map legacy_value found.legacy.items) found.isa.items (map legacy_value found.palette.items) same_given bridges.legacy bridges.isa bridges.palette;
  roots_are = ap buses_of same_roots;
  slots_are = same_slots ∙ bridges.taking;
}

module _ (beside : Beside) (dump probe taken taken_probe : List Block) (told : Told) (given : Given) (roots : List ℕ) (slots : List Slot) (answer : Answer) (said : IsSaidOf beside dump probe told given roots slots)
    (are : AreTakenByWords beside.words dump probe taken taken_probe) where
  of_texts : (Means : Given → List ℕ → List Slot → Type 0) → Means given roots slots → Means (given_of beside.host beside.words dump) (buses_of beside.roots) (taking_of beside.words (system_of dump dump))
  of_texts Means means =
      subst (λ (g : Given). Means g (buses_of beside.roots) (taking_of beside.words (system_of dump dump))) said.given_is
      (subst (λ (r : List ℕ). Means given r (taking_of beside.words (system_of dump dump))) said.roots_are (subst (λ (s : List Slot). Means given roots s) said.slots_are means))

  pub faults_said : (why : Bool) → AreToldTaking told given roots slots why taken taken_probe answer → IsFaultsAnswer beside why dump probe answer
  faults_said why means = record {
    told = told;
    beside_them = said.told_is;
    is = record { taken = taken; taken_probe = taken_probe; are = are; means = of_texts (λ g r s. AreToldTaking told g r s why taken taken_probe answer) means };
  }

  pub map_said : IsMapped told given roots slots taken taken_probe answer → IsMapAnswerBy beside dump probe answer
  map_said means = record {
    told = told;
    beside_them = said.told_is;
    is = record { taken = taken; taken_probe = taken_probe; are = are; means = of_texts (λ g r s. IsMapped told g r s taken taken_probe answer) means };
  }
