-- The answer that lists all faults, by its list and its text.
use Rattle.std.proofs.Common.{◌≡◌, ℕ, ◌<◌, Bool, true, false, List, [], ◌∷◌, ◌++◌, Option, None, Some, map, refl, sym, ap, subst, ◌∙◌, append-nil, arith, if◌then◌else◌, inl, inr}
use Rattle.std.specs.Prelude.{◌↔◌, ◌==◌, MatchOption, not, length}
use Rattle.std.specs.List.{Contains, flat_map}
use Rattle.pci_spec.specs.Slot.{Slot}
use Rattle.pci_spec.specs.Text.{Block, IsDump}
use Rattle.pci_spec.specs.System.{System, system_of}
use Rattle.pci_spec.specs.Fault.{Unreached, Clash, Split, SlotsDiffer}
use Rattle.pci_spec.specs.Fault as plain
use Rattle.pci_spec.specs.Order.{phase_of}
use Rattle.pci_spec.specs.Mark.{AssumedRegister, all_named}
use Rattle.pci_spec.proofs.Members.{in_nil, in_cons_cases, in_head, in_tail}
use Rattle.pci_tree.specs.Admission.{Admission, IsOutlineFor}
use Rattle.pci_tree.specs.Outline.{Tree}
use Rattle.judge_spec.specs.Given.{Given}
use Rattle.judge_spec.specs.Fault as untold
use Rattle.judge_spec.specs.ToldClaims.{Told}
use Rattle.judge_spec.specs.ToldFault.{Fault, Known, NotListed, IsIn}
use Rattle.judge_spec.specs.ToldAllFaults.{IsNamed}
use Rattle.judge_spec.specs.ToldFaultLines.{AreAllFaults, AreOfSlots, AreJudged}
use Rattle.judge_spec.specs.ToldLine.{fault_line, list_text}
use Rattle.judge_spec.specs.Why.{IsWhy, all_off_lines}
use Rattle.judge_spec.specs.FaultsText.{IsBehind, AreReasoned, is_of_judging, is_judged, IsReasonedText, IsFaultsText}
use Rattle.judge_spec.proofs.DeterminedTexts.{same_slots}
use Rattle.pci_faults.specs.Every.{AreBefore, AreSoundAsTold}
use Rattle.pciplan_tasks.specs.Answers.{Answer}
use Rattle.pciplan_tasks.specs.FaultsAnswers.{IsListText, list_answer, AreTold}

-- ---- of faults before judging nothing more is told

-- a fault of a phase before judging
abbrev IsEarly : Fault → Type 0
IsEarly (Known (untold.Known f)) = phase_of f < 5
IsEarly (Known (untold.Outside slot register space address)) = ⊥
IsEarly (NotListed slot) = Unit {0}

abbrev AreEarly : List Fault → Type 0
AreEarly faults = (f : Fault) → Contains faults f → IsEarly f

module _ (assumed : List AssumedRegister) (told : Told) (given : Given) (roots : List ℕ) (s : System) where
  none_of_known : (f : plain.Fault) → phase_of f < 5 → IsWhy assumed told given roots s (untold.Known f) []
  none_of_known (Unreached slot register space address bridge) early = absurd (let none : ⊥ = omega (arith, early) in none)
  none_of_known (Clash bus space address first fr second sr) early = absurd (let none : ⊥ = omega (arith, early) in none)
  none_of_known (Split space address first fr second sr) early = absurd (let none : ⊥ = omega (arith, early) in none)
  none_of_known _ early = record { evidence = []; advice = []; shows = refl; fits = refl; text = refl }

  nothing_behind : (f : Fault) → IsEarly f → IsBehind assumed told given roots s f []
  nothing_behind (Known (untold.Known f)) early = none_of_known f early
  nothing_behind (Known (untold.Outside slot register space address)) early = absurd early
  nothing_behind (NotListed slot) early = refl

  lines_alone : (faults : List Fault) → AreEarly faults → AreReasoned assumed told given roots s faults (flat_map fault_line faults)
  lines_alone [] early = refl
  lines_alone (f ∷ rest) early = (
    [],
    flat_map fault_line rest,
    nothing_behind f (early f (in_head f rest)),
    lines_alone rest (λ g has. early g (in_tail f rest g has)),
    ap (λ line. line ++ flat_map fault_line rest) (sym (append-nil (fault_line f))),
  )

  unjudged_by : (f : Fault) (rest : List Fault) → IsEarly f → is_judged (f ∷ rest) ≡ false
  unjudged_by (Known (untold.Known f)) rest early = search (arith)
  unjudged_by (Known (untold.Outside slot register space address)) rest early = absurd early
  unjudged_by (NotListed slot) rest early = refl

  early_text : (faults : List Fault) (text : List ℕ) → (faults ≡ [] → ⊥) → AreEarly faults → text ≡ list_text faults → IsReasonedText assumed told given roots s faults text
  early_text [] text some early is = absurd (some refl)
  early_text (f ∷ rest) text some early is =
      let lines = flat_map fault_line (f ∷ rest) in
      record {
        lines = lines;
        reasoned = lines_alone (f ∷ rest) early;
        is = is ∙ sym (append-nil lines) ∙ ap (λ j. lines ++ (if j then all_off_lines told s else [])) (sym (unjudged_by f rest (early f (in_head f rest))));
      }

-- ---- what is told before judging is early, and some

-- each fault of a list is a known one, and those known are early
early_known : (known : List untold.Fault) → ((f : untold.Fault) → Contains known f → IsEarly (Known f)) → AreEarly (map Known known)
early_known [] low f has = absurd (in_nil f has)
early_known (k ∷ rest) low f has = elim (in_cons_cases (Known k) (map Known rest) f has) [
  | inl here ↦ subst IsEarly here (low k (in_head k rest))
  | inr later ↦ early_known rest (λ g at. low g (in_tail k rest g at)) f later
]

early_plain : (early : List plain.Fault) → ((f : plain.Fault) → Contains early f → phase_of f < 5) → AreEarly (map (λ f. Known (untold.Known f)) early)
early_plain [] low f has = absurd (in_nil f has)
early_plain (k ∷ rest) low f has = elim (in_cons_cases (Known (untold.Known k)) (map (λ f. Known (untold.Known f)) rest) f has) [
  | inl here ↦ subst IsEarly here (low k (in_head k rest))
  | inr later ↦ early_plain rest (λ g at. low g (in_tail k rest g at)) f later
]

early_slots : (slots : List Slot) → AreEarly (map NotListed slots)
early_slots [] f has = absurd (in_nil f has)
early_slots (slot ∷ rest) f has = elim (in_cons_cases (NotListed slot) (map NotListed rest) f has) [
  | inl here ↦ subst IsEarly here (tt {0})
  | inr later ↦ early_slots rest f later
]

none_mapped : {X Y : Type 0} (f : X → Y) (items : List X) → map f items ≡ [] → items ≡ []
none_mapped f [] e = refl
none_mapped f (x ∷ rest) e = absurd (let no : ⊥ = cc in no)

record AreFew (faults : List Fault) : Type 0 where
  some : faults ≡ [] → ⊥
  early : AreEarly faults

module _ (told : Told) (given : Given) (roots : List ℕ) (dump probe : List Block) (is_dump : IsDump dump) (is_probe : IsDump probe) where
  few_of_slots : (faults : List Fault) → AreOfSlots given roots dump probe faults → AreFew faults
  few_of_slots faults h = elim h.all [
    | inl earlier ↦ record {
      some = λ none. earlier.some (none_mapped untold.Known earlier.early (none_mapped Known (map untold.Known earlier.early) (sym (h.are ∙ ap (map Known) earlier.are) ∙ none)));
      early = subst AreEarly (sym (h.are ∙ ap (map Known) earlier.are)) (early_known (map untold.Known earlier.early) (known_early earlier.early earlier.before));
    }
    | inr late ↦ absurd (h.slots (same_slots dump probe is_dump is_probe (λ slot alone. late.none_earlier (SlotsDiffer slot) (omega arith) alone)))
  ] where
    known_early : (early : List plain.Fault) → ((f : plain.Fault) → Contains early f → phase_of f < 5) → (f : untold.Fault) → Contains (map untold.Known early) f → IsEarly (Known f)
    known_early [] low f has = absurd (in_nil f has)
    known_early (k ∷ rest) low f has = elim (in_cons_cases (untold.Known k) (map untold.Known rest) f has) [
      | inl here ↦ subst (λ f. IsEarly (Known f)) here (low k (in_head k rest))
      | inr later ↦ known_early rest (λ g at. low g (in_tail k rest g at)) f later
    ]

  few_before : (faults : List Fault) → AreBefore told given roots dump probe faults → AreFew faults
  few_before faults (inl h) = few_of_slots faults h
  few_before faults (inr (inl h)) = record {
    some = λ none. h.some (none_mapped NotListed h.slots (sym h.are ∙ none));
    early = subst AreEarly (sym h.are) (early_slots h.slots);
  }
  few_before faults (inr (inr h)) = record {
    some = λ none. h.some (none_mapped (λ f. Known (untold.Known f)) h.early (sym h.are ∙ none));
    early = subst AreEarly (sym h.are) (early_plain h.early (λ f has. (h.all.each f has).early));
  }

-- ---- what a list of all of judging names

named_there : (told : Told) (given : Given) (roots : List ℕ) (s : System) (f : untold.Fault) → IsNamed told given roots s f → IsIn told given roots s (Known f) × (is_of_judging f ≡ true)
named_there told given roots s (untold.Outside slot register space address) named = (named.there, refl)
named_there told given roots s (untold.Known (Unreached slot register space address bridge)) named = (named.there, refl)
named_there told given roots s (untold.Known (Clash bus space address first fr second sr)) named = (named.there, refl)
named_there told given roots s (untold.Known (Split space address first fr second sr)) named = (named.there, refl)
named_there told given roots s (untold.Known _) named = absurd named

all_there : (told : Told) (given : Given) (roots : List ℕ) (s : System) (judged : List untold.Fault) → ((f : untold.Fault) → Contains judged f → IsNamed told given roots s f)
    → (f : Fault) → Contains (map Known judged) f → IsIn told given roots s f
all_there told given roots s [] each f has = absurd (in_nil f has)
all_there told given roots s (k ∷ rest) each f has = elim (in_cons_cases (Known k) (map Known rest) f has) [
  | inl here ↦ subst (IsIn told given roots s) here (named_there told given roots s k (each k (in_head k rest))).0
  | inr later ↦ all_there told given roots s rest (λ g at. each g (in_tail k rest g at)) f later
]

all_judged : (told : Told) (given : Given) (roots : List ℕ) (s : System) (judged : List untold.Fault) → ((f : untold.Fault) → Contains judged f → IsNamed told given roots s f) → is_judged (map Known judged) ≡ true
all_judged told given roots s [] each = refl
all_judged told given roots s (f ∷ rest) each = (named_there told given roots s f (each f (in_head f rest))).1

-- ---- the answer

abbrev admission : List ℕ → List Block → List Block → Admission
admission roots dump probe = record { roots = roots; dump = dump; probe = probe }

abbrev IsJudgedOf : Told → Given → List ℕ → List Block → List Block → List Fault → Option Tree → Type 0
IsJudgedOf told given roots dump probe faults judged =
    MatchOption judged (AreBefore told given roots dump probe faults) (λ outline. AreJudged told given roots dump probe faults × IsOutlineFor (admission roots dump probe) outline)

text_is : (told : Told) (given : Given) (roots : List ℕ) (dump probe : List Block) (faults : List Fault) (judged : Option Tree) (why : Bool) (text : List ℕ) → IsDump dump → IsDump probe
    → IsJudgedOf told given roots dump probe faults judged → IsListText (all_named probe) told given judged why faults text → IsFaultsText (all_named probe) told given roots (system_of dump probe) why faults text
text_is told given roots dump probe faults None false text is_dump is_probe before is = is
text_is told given roots dump probe faults (Some t) false text is_dump is_probe late is = is
text_is told given roots dump probe faults None true text is_dump is_probe before is =
    let few = few_before told given roots dump probe is_dump is_probe faults before in
    early_text (all_named probe) told given roots (system_of dump probe) faults text few.some few.early is
text_is told given roots dump probe faults (Some t) true text is_dump is_probe (late, outline) is =
    let s = system_of dump probe in
    let there = subst (λ (fs : List Fault). (f : Fault) → Contains fs f → IsIn told given roots s f) (sym late.are) (all_there told given roots s late.judged late.all.each) in
    let reasoned = is s record { system = outline.admitted.system; records = outline.records } late.listed
    (λ f has. subst (λ r. IsIn told given r s f) (sym outline.roots) (there f has))
    (ap is_judged late.are ∙ all_judged told given roots s late.judged late.all.each) in
    subst (λ r. IsReasonedText (all_named probe) told given r s faults text) outline.roots reasoned

-- no fault is a yes
pub line_is : {X Y : Type 0} (f : X → Y) (items : List X) (empty : Bool) (text remarks : List ℕ) → empty ≡ (length items == 0) → remarks ≡ []
    → record { status = if not empty then 1 else 0; text = text; remarks = remarks } ≡ list_answer (map f items) text
line_is f [] empty text remarks e none = λ i. record { status = if not (e i) then 1 else 0; text = text; remarks = none i }
line_is f (x ∷ rest) empty text remarks e none =
    let some : (length (x ∷ rest) == 0) ≡ false = search (arith) in
    λ i. record { status = if not ((e ∙ some) i) then 1 else 0; text = text; remarks = none i }

-- a list of faults is empty where that of their values is
pub none_of_items : {X Y : Type 0} (f : X → Y) (items : List X) (P : Type 0) → (items ≡ []) ↔ P → (map f items ≡ []) ↔ P
none_of_items f [] P both = (λ e. both.0 refl, λ p. refl)
none_of_items f (x ∷ rest) P both = (λ e. absurd (let no : ⊥ = cc in no), λ p. absurd (let none = both.1 p in let no : ⊥ = cc in no))

pub all_told : (told : Told) (given : Given) (roots : List ℕ) (dump probe : List Block) (faults : List Fault) (judged : Option Tree) (why : Bool) (text : List ℕ) (answer : Answer) → IsDump dump → IsDump probe
    → AreAllFaults told given roots dump probe faults → (faults ≡ []) ↔ AreSoundAsTold told given roots dump probe → IsJudgedOf told given roots dump probe faults judged
    → IsListText (all_named probe) told given judged why faults text → answer ≡ list_answer faults text → AreTold told given roots why dump probe answer
all_told told given roots dump probe faults judged why text answer is_dump is_probe all none outline is line = record {
  faults = faults;
  all = all;
  none = none;
  text = text;
  is = text_is told given roots dump probe faults judged why text is_dump is_probe outline is;
  line = line;
}
