-- What the program answers where all faults of two texts are to be listed, with what is given and told beside them.
use Rattle.std.specs.Prelude.{◌≡◌, ◌↔◌, ℕ, Bool, true, false, if◌then◌else◌, List, [], ◌∷◌, Option, None, Some, option_map, map}
use Rattle.pci_spec.specs.Slot.{Slot}
use Rattle.pci_spec.specs.Text.{Block}
use Rattle.pci_spec.specs.System.{System, system_of}
use Rattle.pci_spec.specs.Mark.{AssumedRegister, all_named}
use Rattle.judge_spec.specs.Given.{Given, LegacyBridge, TakingBridge}
use Rattle.judge_spec.specs.ToldClaims.{Told}
use Rattle.judge_spec.specs.ToldFault.{Fault}
use Rattle.judge_spec.specs.ToldFaultLines.{AreAllFaults}
use Rattle.judge_spec.specs.ToldLine.{list_text}
use Rattle.judge_spec.specs.FaultsText.{IsFaultsText}
use Rattle.judge_spec.specs.UnclaimedLaws.{with_taking}
use Rattle.judge_spec.specs.Words.{VgaWord, isa_bridges, legacy_bridges, palette_bridges}
use Rattle.judge_spec.specs.Taken.{taking_by}
use Rattle.pci_claims.specs.Values.{host_value}
use Rattle.pci_faults.specs.Every.{AreReadyForJudging, AreSoundAsTold, AreTakenFor}
use Rattle.pci_tree.specs.Outline.{Tree}
use Rattle.pci_tree.specs.Roots.{buses_of}
use Rattle.pci_why.specs.Lists.{IsReasonedTextOf}
use Rattle.pci_model.specs.declared.words.Words.{Words}
use Rattle.pci_model.specs.WordsValue.{words_value}
use Rattle.pciplan_tasks.specs.Answers.{Answer, done, refused}
use Rattle.pciplan_tasks.specs.ToldAnswers.{IsAnswerWithTold}
use Rattle.pciplan_tasks.specs.declared.task.Beside.{Beside}
use Rattle.pciplan_tasks.specs.declared.task.HostLists.{HostLists}

-- the bridges with legacy parts by a word: those of which the dump shows VGA Enable, where there is one
abbrev pub legacy_by : Option VgaWord → System → List LegacyBridge
legacy_by None s = []
legacy_by (Some word) s = legacy_bridges word s

abbrev pub vga_of : Option Words → Option VgaWord
vga_of None = None
vga_of (Some words) = (words_value words).vga

-- the bridges with ISA Enable, where the word for it counts
abbrev pub isa_by : Bool → System → List Slot
isa_by counts s = if counts then isa_bridges s else []

abbrev pub isa_of : Option Words → Bool
isa_of None = false
isa_of (Some words) = (words_value words).isa

-- the bridges with palette parts, where the word for them counts; the word for VGA says how they decode
abbrev pub palette_by : Bool → Option VgaWord → System → List LegacyBridge
palette_by counts word s = if counts then palette_bridges word s else []

abbrev pub snoop_of : Option Words → Bool
snoop_of None = false
snoop_of (Some words) = (words_value words).snoop

abbrev pub unclaimed_of : Option Words → Bool
unclaimed_of None = false
unclaimed_of (Some words) = (words_value words).unclaimed

-- the bridges that take what no region of their bus claims: none without words
abbrev pub taking_of : Option Words → System → List Slot
taking_of None s = []
taking_of (Some words) s = taking_by (words_value words) s

-- What is given by what the host sends and some bridges: those with legacy parts, with ISA Enable and with palette parts.
abbrev pub given_with : HostLists → List LegacyBridge → List Slot → List LegacyBridge → Given
given_with host legacy isa palette = record {
  io = option_map (λ list. map host_value list.items) host.io;
  memory = option_map (λ list. map host_value list.items) host.mem;
  legacy = legacy;
  isa = isa;
  palette = palette;
  unclaimed = [];
}

-- What is given beside a dump, but for what bridges take as nobody claims it. What reads back tells nothing of it, so the
-- dump stands for the probe too.
abbrev pub given_of : HostLists → Option Words → List Block → Given
given_of host words dump =
    given_with host (legacy_by (vga_of words) (system_of dump dump))
    (isa_by (isa_of words) (system_of dump dump))
    (palette_by (snoop_of words) (vga_of words) (system_of dump dump))

-- the text of a list, where it is of what was judged with reasons
abbrev pub IsListText :
    List AssumedRegister → Told → Given → Option Tree → Bool → List Fault → List ℕ → Type 0
IsListText assumed told given (Some judged) true faults text =
    IsReasonedTextOf assumed told given judged faults text
IsListText assumed told given _ _ faults text = text ≡ list_text faults

-- a list of no fault is a yes
abbrev pub list_answer : {X : Type 0} → List X → List ℕ → Answer
list_answer [] text = done text
list_answer (fault ∷ rest) text = refused text

-- `faults`: all of them, with reasons or without; none exactly where the two are sound. The titles of the probe tell of
-- which regions no place is known.
pub record AreTold (told : Told) (given : Given) (roots : List ℕ) (why : Bool)
    (dump probe : List Block) (answer : Answer) : Type 0 where
  pub faults : List Fault
  pub all : AreAllFaults told given roots dump probe faults
  pub none : (faults ≡ []) ↔ AreSoundAsTold told given roots dump probe
  pub text : List ℕ
  pub is : IsFaultsText (all_named probe) told given roots (system_of dump probe) why faults text
  pub line : answer ≡ list_answer faults text

-- What bridges at some slots take of what is judged. Of two texts that aren't judged nothing is taken.
pub record AreTakenByBridges (told : Told) (given : Given) (roots : List ℕ) (dump probe : List Block)
    (slots : List Slot) (bridges : List TakingBridge) : Type 0 where
  pub judged : AreTakenFor told given roots dump probe slots bridges
  pub unjudged : (AreReadyForJudging told roots dump probe → ⊥) → bridges ≡ []

-- The same where bridges at some slots take what no region of their bus claims.
pub record AreToldTaking (told : Told) (given : Given) (roots : List ℕ) (slots : List Slot)
    (why : Bool) (dump probe : List Block) (answer : Answer) : Type 0 where
  pub bridges : List TakingBridge
  pub taken : AreTakenByBridges told given roots dump probe slots bridges
  pub are : AreTold told (with_taking bridges given) roots why dump probe answer

-- of the two as words take them, beside what the dump as it is gives and what is told
abbrev pub IsFaultsAnswer : Beside → Bool → List Block → List Block → Answer → Type 0
IsFaultsAnswer beside why dump probe answer =
    IsAnswerWithTold beside
    (λ told. AreToldTaking told (given_of beside.host beside.words dump) (buses_of beside.roots)
    (taking_of beside.words (system_of dump dump)) why)
    dump probe answer
