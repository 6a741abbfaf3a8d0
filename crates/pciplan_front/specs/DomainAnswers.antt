-- What `here` answers of a domain.
use Rattle.std.specs.Prelude.{◌≡◌, List, [], Option, None, Some, true}
use Rattle.pci_spec.specs.Text.{Block, text_of}
use Rattle.pci_spec.specs.NoProbe.{Any}
use Rattle.pci_spec.specs.ProbeOf.{ProbeFault, probe_fault, probe_fault_text, probe_of}
use Rattle.judge_spec.specs.ModelWords.{all_words}
use Rattle.pci_model.specs.WordsValue.{words_value}
use Rattle.pci_model.specs.declared.words.Words as model
use Rattle.pci_here.specs.Words.{domain_line}
use Rattle.pci_here.specs.declared.domain.Domain.{Domain}
use Rattle.pciplan_tasks.specs.Answers.{Answer, done, fault_answer_line, refused}
use Rattle.pciplan_tasks.specs.FaultsAnswers.{IsFaultsAnswer}
use Rattle.pciplan_tasks.specs.MapAnswers.{IsMapAnswerBy}
use Rattle.pciplan_tasks.specs.ProbeAnswers.{probe_answer}
use Rattle.pciplan_tasks.specs.declared.task.Also.TheVariants.{Told}
use Rattle.pciplan_tasks.specs.declared.task.Beside.{Beside}
use Rattle.pciplan_front.specs.declared.domain_reply.Judging.{Judging}
use Rattle.pciplan_front.specs.declared.domain_reply.Judging.TheVariants as judging
use Rattle.pciplan_front.specs.declared.here_asked.What.{What}
use Rattle.pciplan_front.specs.declared.here_asked.What.TheVariants.{Faults, Map, Dump, Probe, Words}

-- what is said beside a domain's two texts: its host buses, all words, and what the host sends; no third text
pub record IsBesideOf (d : Domain) (beside : Beside) : Type 0 where
  pub roots : beside.roots ≡ d.roots
  pub words : model.Words
  pub said : beside.words ≡ Some words
  pub all : words_value words ≡ all_words
  pub io : beside.host.io ≡ d.io
  pub mem : beside.host.mem ≡ d.mem
  pub also : beside.also ≡ Told []

-- what `faults` with reasons, or `map`, answers to a dump and its probe with what is said beside them
abbrev pub IsJudgedBy : Judging → Beside → List Block → List Block → Answer → Type 0
IsJudgedBy judging.Faults beside dump probe answer = IsFaultsAnswer beside true dump probe answer
IsJudgedBy judging.Map beside dump probe answer = IsMapAnswerBy beside dump probe answer

abbrev pub IsJudgedIn : Domain → Judging → List Block → List Block → Answer → Type 0
IsJudgedIn d judging dump probe answer =
    (beside : Beside) × IsBesideOf d beside × IsJudgedBy judging beside dump probe answer

-- what is answered by the probe that is derived, or the line of the fault for which none is
abbrev pub IsByProbe : Domain → (List Block → List Block → Answer → Type 0) → Option ProbeFault → Answer → Type 0
IsByProbe d Means None answer = Means d.dump (probe_of d.dump d.sizes) answer
IsByProbe d Means (Some fault) answer = answer ≡ refused (fault_answer_line (probe_fault_text fault))

-- the least size is assumed of any register
abbrev pub probe_fault_in : Domain → Option ProbeFault
probe_fault_in d = probe_fault Any d.dump d.sizes

abbrev pub IsAnswerIn : What → Domain → Answer → Type 0
IsAnswerIn Faults d answer = IsByProbe d (IsJudgedIn d judging.Faults) (probe_fault_in d) answer
IsAnswerIn Map d answer = IsByProbe d (IsJudgedIn d judging.Map) (probe_fault_in d) answer
IsAnswerIn Dump d answer = answer ≡ done (text_of d.dump)
IsAnswerIn Probe d answer = answer ≡ probe_answer Any d.dump d.sizes
IsAnswerIn Words d answer = answer ≡ done (domain_line d)

-- its status and its text; remarks may come to it
pub record IsAnswerToldIn (what : What) (d : Domain) (told : Answer) : Type 0 where
  pub answer : Answer
  pub is : IsAnswerIn what d answer
  pub same_status : told.status ≡ answer.status
  pub same_text : told.text ≡ answer.text

-- what is asked for where a domain is judged
abbrev pub what_judged : Judging → What
what_judged judging.Faults = Faults
what_judged judging.Map = Map
