-- What `faults` tells with nothing given and told, by the laws of the list.
use Rattle.std.proofs.Common.{◌≡◌, ℕ, List, [], ◌∷◌, map, option_map, refl, sym, ◌∙◌, ap, subst, rules, arith}
use Rattle.std.specs.Prelude.{◌↔◌}
use Rattle.pci_spec.specs.Slot.{Slot}
use Rattle.pci_spec.specs.Text.{Block, IsDump}
use Rattle.pci_spec.specs.System.{System, system_of}
use Rattle.pci_spec.specs.Fault as plain
use Rattle.pci_spec.specs.FaultLines as plain_lines
use Rattle.pci_spec.specs.Mark.{all_named}
use Rattle.pci_spec.proofs.Pairing.{IsSystem-of_dumps}
use Rattle.pci_check.specs.Audits as plain_sound
use Rattle.judge_spec.specs.Given.{nothing_given}
use Rattle.judge_spec.specs.Fault as untold
use Rattle.judge_spec.specs.Told.{ToldRange, IsTold}
use Rattle.judge_spec.specs.ToldClaims.{nothing_told}
use Rattle.judge_spec.specs.ToldFault.{Fault, Known, NotListed, IsIn}
use Rattle.judge_spec.specs.ToldFaultLines.{AreAllFaults}
use Rattle.judge_spec.specs.Laws.{plain_known}
use Rattle.judge_spec.proofs.Judging.{same_sound, sound_without_faults}
use Rattle.judge_spec.proofs.NothingTold.{same_told_faults, none_not_listed}
use Rattle.judge_spec.proofs.NothingToldLists.{known_twice, same_told_list}
use Rattle.judge_spec.proofs.PlainLists.{same_list, first_of_list_is_first}
use Rattle.judge_spec.proofs.PlainTexts.{same_text_of_all}
use Rattle.judge_spec.proofs.ToldDetermined.{told_list_is_determined}
use Rattle.judge_spec.proofs.ToldSounding.{told_sound_without_faults}
use Rattle.pci_faults.specs.Every.{AreSoundAsTold}
use Rattle.pci_claims.specs.Values.{host_value}
use Rattle.pciplan_tasks.specs.FaultsAnswers.{isa_by, legacy_by, list_answer, palette_by, vga_of}
use Rattle.pciplan_tasks.specs.FaultsLaws.{FirstLineIsVerdict, PlainWithNothingGiven, NothingSaidGivesNothing, NothingSaidTellsNothing}
use Rattle.pciplan_tasks.specs.Also.{ranges_told}
use Rattle.pciplan_tasks.specs.ToldAnswers.{AreAsleepFor}

none_known : (ps : List plain.Fault) → (ps ≡ []) ↔ (map plain_known ps ≡ [])
none_known [] = (λ e. refl, λ e. refl)
none_known (f ∷ rest) = (λ e. absurd (let no : ⊥ = cc in no), λ e. absurd (let no : ⊥ = cc in no))

same_answer : (ps : List plain.Fault) (text : List ℕ) → list_answer (map plain_known ps) text ≡ list_answer ps text
same_answer [] text = refl
same_answer (f ∷ rest) text = refl

first_line : (roots : List ℕ) (dump probe : List Block) (ps : List plain.Fault) → IsDump dump → IsDump probe → plain_lines.AreAllFaults roots dump probe ps
    → FirstLineIsVerdict roots dump probe ps
first_line roots dump probe [] is_dump is_probe all = tt {0}
first_line roots dump probe (f ∷ rest) is_dump is_probe all = first_of_list_is_first roots dump probe f rest is_dump is_probe all

-- ---- soundness

no_ranges : IsTold []
no_ranges = record { each = search (rules); order = search (rules); room = search (arith) }

none_in : (asleep : List Slot) (roots : List ℕ) (s : System) → ((fault : untold.Fault) → untold.IsIn nothing_given roots s fault → ⊥) → (fault : Fault) → IsIn (nothing_told asleep) nothing_given roots s fault → ⊥
none_in asleep roots s none (Known fault) there = none fault ((same_told_faults asleep nothing_given roots s fault).0 there)
none_in asleep roots s none (NotListed slot) there = none_not_listed asleep nothing_given roots s slot there

sound_plain : (asleep : List Slot) (roots : List ℕ) (dump probe : List Block) → IsDump dump → IsDump probe → AreSoundAsTold (nothing_told asleep) nothing_given roots dump probe ↔ plain_sound.ArePlainlySound roots dump probe
sound_plain asleep roots dump probe is_dump is_probe = (
  λ h.
      let s = system_of dump probe in
      let system = IsSystem-of_dumps dump probe is_dump is_probe h.slots in
      let none = (told_sound_without_faults (nothing_told asleep) nothing_given roots s no_ranges system).0 h.sound in
      (h.slots, (same_sound roots s system).0 ((sound_without_faults nothing_given roots s system).1 (λ fault there. none (Known fault) ((same_told_faults asleep nothing_given roots s fault).1 there)))),
  λ h.
      let s = system_of dump probe in
      let system = IsSystem-of_dumps dump probe is_dump is_probe h.0 in
      let none = (sound_without_faults nothing_given roots s system).0 ((same_sound roots s system).1 h.1) in
      record {
        slots = h.0;
        sound = (told_sound_without_faults (nothing_told asleep) nothing_given roots s no_ranges system).1 (none_in asleep roots s none);
      },
)

-- ---- the list and its text

told_of_plain : (asleep : List Slot) (roots : List ℕ) (dump probe : List Block) (ps : List plain.Fault) → IsDump dump → IsDump probe → plain_lines.AreAllFaults roots dump probe ps
    → AreAllFaults (nothing_told asleep) nothing_given roots dump probe (map plain_known ps)
told_of_plain asleep roots dump probe ps is_dump is_probe all =
    (same_told_list asleep nothing_given roots dump probe (map plain_known ps) is_dump is_probe).1 record {
      untold_faults = map untold.Known ps;
      all = (same_list roots dump probe (map untold.Known ps) is_dump is_probe).1 record { plain_faults = ps; all = all; are = refl };
      are = known_twice ps;
    }

pub plain_with_nothing_given : PlainWithNothingGiven
plain_with_nothing_given asleep roots why dump probe answer is_dump is_probe told =
    let plain_text = (same_text_of_all (all_named probe) asleep roots dump probe why told.text is_dump is_probe).0 record { faults = told.faults; all = told.all; is = told.is } in
    let ps = plain_text.faults in
    let are = told_list_is_determined (nothing_told asleep) nothing_given roots dump probe told.faults (map plain_known ps) told.all (told_of_plain asleep roots dump probe ps is_dump is_probe plain_text.all) in
    let sound = sound_plain asleep roots dump probe is_dump is_probe in
    record {
      faults = ps;
      all = plain_text.all;
      first = first_line roots dump probe ps is_dump is_probe plain_text.all;
      none = (
        λ empty. sound.0 (told.none.0 (are ∙ (none_known ps).0 empty)),
        λ plain. (none_known ps).1 (sym are ∙ told.none.1 (sound.1 plain)),
      );
      text = told.text;
      is = plain_text.is;
      line = told.line ∙ ap (λ (fs : List Fault). list_answer fs told.text) are ∙ same_answer ps told.text;
    }

pub nothing_said_gives_nothing : NothingSaidGivesNothing
nothing_said_gives_nothing beside dump io memory vga isa snoop = λ i. record {
  io = option_map (λ list. map host_value list.items) (io i);
  memory = option_map (λ list. map host_value list.items) (memory i);
  legacy = legacy_by (vga i) (system_of dump dump);
  isa = isa_by (isa i) (system_of dump dump);
  palette = palette_by (snoop i) (vga_of beside.words) (system_of dump dump);
  unclaimed = [];
}

pub nothing_said_tells_nothing : NothingSaidTellsNothing
nothing_said_tells_nothing beside dump probe told none is =
    let ranges : told.ranges ≡ [] = is.ranges ∙ ap ranges_told none in
    let asleep : told.asleep ≡ [] = subst (λ (rs : List ToldRange). AreAsleepFor rs beside.words dump probe told.asleep) ranges is.asleep in
    λ i. record { ranges = ranges i; asleep = asleep i }
