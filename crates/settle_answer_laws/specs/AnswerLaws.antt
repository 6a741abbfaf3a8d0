-- Laws of settling by words, as it is answered: each dump between the printed writes is taken as sound where that after all is.
use Rattle.std.specs.Prelude.{◌≡◌, ◌⊎◌, ◌^◌, ◌<◌, ◌≤◌, ℕ, List, [], ◌++◌, Some, map, take}
use Rattle.std.specs.List.{Contains}
use Rattle.pci_spec.specs.Slot.{Slot}
use Rattle.pci_spec.specs.System.{IsSystem, system_of}
use Rattle.pci_spec.specs.Text.{Block, slots_of}
use Rattle.judge_spec.specs.Given.{Given}
use Rattle.judge_spec.specs.Told.{IsTold}
use Rattle.judge_spec.specs.ToldClaims.{Told}
use Rattle.judge_spec.specs.UnclaimedLaws.{with_taking}
use Rattle.judge_spec.specs.TakenDumps.{AreTakenAs}
use Rattle.settle_spec.specs.Lists.{RootRange}
use Rattle.pci_model.specs.declared.words.Words.{Words}
use Rattle.pci_model.specs.WordsValue.{words_value}
use Rattle.pci_model_settle.specs.ClaimLines.{LinesWithOrigins}
use Rattle.pci_model_settle.specs.Listed.{blocks_after, listed_write}
use Rattle.pci_model_settle.specs.OffDevices.{left_out}
use Rattle.pci_model_settle.specs.Unmoved.{AreUnmoved}
use Rattle.pci_settle.specs.Endings.{HasLarge}
use Rattle.pci_tree.specs.Admission.{Admission, IsAdmitted}
use Rattle.pci_tree.specs.Roots.{buses_of}
use Rattle.pciplan_tasks.specs.Answers.{Answer}
use Rattle.pciplan_tasks.specs.FaultsAnswers.{given_of}
use Rattle.pciplan_tasks.specs.SettleAnswers.{IsReadyAsTold, SettleAsked, demand_said, lists_said, settle_admission}
use Rattle.pciplan_tasks.specs.WordsSettling.{IsSettledTaken, IsSettlingByWords, TakenTexts, all_is_sent, asked_with, can_tell, kept_with_devices_at, left_that_fit, texts_without}
use Rattle.pciplan_tasks.specs.declared.task.Printed.{Printed}
use Rattle.pciplan_tasks.specs.declared.task.SettleRequest.{SettleRequest}
use Rattle.settle_answer_laws.specs.WordStops.{IsTakenSoundly, printed_after}

-- Two texts as words take them: which functions stay as they are, and which of these are left out.
pub record AreTextsTaken (w : Words) (r : SettleRequest) (dump probe : List Block) : Type 0 where
  pub taken : List Block
  pub taken_probe : List Block
  pub are : AreTakenAs (words_value w) dump probe taken taken_probe
  pub unmoved : List Slot
  pub stay : AreUnmoved (words_value w) (system_of dump probe) (system_of taken taken_probe) unmoved
  pub admitted : IsAdmitted record { roots = buses_of r.roots; dump = taken; probe = taken_probe }

module _ (w : Words) (r : SettleRequest) (printed : Printed) (dump probe : List Block) (x : AreTextsTaken w r dump probe) where
  abbrev pub texts : TakenTexts
  texts = record { dump = dump; probe = probe; taken = x.taken; taken_probe = x.taken_probe }

  -- those that are left out, where all ranges fit
  abbrev pub left_from : List Slot
  left_from =
      left_that_fit (can_tell (kept_with_devices_at w r (left_out x.unmoved dump x.taken x.taken_probe) texts))
      (left_out x.unmoved dump x.taken x.taken_probe)

  -- the ranges that nothing is placed on
  abbrev pub kept_in : LinesWithOrigins
  kept_in = kept_with_devices_at w r left_from texts

  -- what is asked of settling them
  abbrev pub asked_of : SettleAsked
  asked_of = asked_with (r.fixed.items ++ x.unmoved) kept_in.told r printed dump

  -- what is settled
  abbrev pub settled_texts : TakenTexts
  settled_texts = texts_without left_from texts

  abbrev pub admission_of : Admission
  admission_of = settle_admission asked_of settled_texts.taken settled_texts.taken_probe

-- They are settled so, off ranges that can be told. With what the user tells none of the faults that are looked for before
-- judging is there, and the dump after all writes has no fault.
pub record AreSettledByWords (w : Words) (r : SettleRequest) (printed : Printed) (dump probe : List Block)
    (answer : Answer) : Type 0 where
  pub texts_are : AreTextsTaken w r dump probe
  pub admitted : IsAdmitted (admission_of w r printed dump probe texts_are)
  pub ready : IsReadyAsTold (demand_said r dump).told (buses_of r.roots) texts_are.taken texts_are.taken_probe
  pub told : IsTold (kept_in w r printed dump probe texts_are).told
  pub settled : IsSettledTaken r (asked_of w r printed dump probe texts_are)
      (settled_texts w r printed dump probe texts_are) answer
  pub faultless : settled.ended.faults ≡ []

-- An answer of status 0 is one of such a settling.
abbrev pub DoneIsSettled : Type 0
DoneIsSettled =
    (w : Words) (r : SettleRequest) (printed : Printed) (dump probe : List Block) (answer : Answer)
    → IsSettlingByWords w r printed dump probe answer → answer.status ≡ 0
    → AreSettledByWords w r printed dump probe answer

-- What is asked is lawful, as the program's own types have it: two texts of the same functions, and lists of 64 bits. One thing
-- more is asked: no new window has 2^64 addresses or more with its spare.
pub record AreAskedLawfully (w : Words) (r : SettleRequest) (printed : Printed) (dump probe : List Block)
    (x : AreTextsTaken w r dump probe) : Type 0 where
  pub words : r.words ≡ Some w
  pub system : IsSystem (system_of dump probe)
  pub slots : slots_of dump ≡ slots_of probe
  pub high : (one : RootRange) → Contains (lists_said r.lists).prefetch one → one.range.last < 2 ^ 64
  pub small : HasLarge (admission_of w r printed dump probe x) (asked_of w r printed dump probe x).request → ⊥

module _ (w : Words) (r : SettleRequest) (printed : Printed) (dump probe : List Block) (answer : Answer) (x : AreSettledByWords w r printed dump probe answer) where
  -- what the dump after all writes is judged by
  abbrev pub told_then : Told
  told_then = x.settled.ended.judged.told

  abbrev pub given_then : Given
  given_then = with_taking x.settled.ended.judged.bridges (given_of all_is_sent r.words
      (blocks_after dump (map (listed_write dump) x.settled.writes)))

-- Each dump after so many printed writes is taken as a system that is sound with what the user tells, and with what is given
-- beside the dump after all writes, once all that close are made. From a dump that is taken so, each dump at all is.
abbrev pub AnswersCanStop : Type 0
AnswersCanStop =
    (w : Words) (r : SettleRequest) (printed : Printed) (dump probe : List Block) (answer : Answer) (n : ℕ)
    (x : AreSettledByWords w r printed dump probe answer) → AreAskedLawfully w r printed dump probe x.texts_are
    → (x.settled.is.closings ≤ n) ⊎ IsTakenSoundly (words_value w) (slots_of dump) (told_then w r printed dump probe answer x)
    (given_then w r printed dump probe answer x) (buses_of r.roots) (system_of dump probe)
    → IsTakenSoundly (words_value w) (slots_of dump) (told_then w r printed dump probe answer x)
    (given_then w r printed dump probe answer x) (buses_of r.roots) (printed_after dump probe (take n x.settled.writes))

-- What is given beside each such dump is what is given beside the dump itself: legacy parts, ISA Enable and palette parts of
-- bridges. What bridges take as nobody claims it is apart.
abbrev pub GivenStays : Type 0
GivenStays =
    (w : Words) (r : SettleRequest) (printed : Printed) (dump probe : List Block) (answer : Answer) (n : ℕ)
    (x : AreSettledByWords w r printed dump probe answer) → AreAskedLawfully w r printed dump probe x.texts_are
    → given_of all_is_sent r.words (blocks_after dump (map (listed_write dump) (take n x.settled.writes)))
    ≡ given_of all_is_sent r.words dump
