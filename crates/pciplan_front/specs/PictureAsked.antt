-- The picture of what a map is asked of.
use Rattle.std.specs.Prelude.{◌≡◌, ◌⊎◌, ◌<◌, ◌≤◌, ℕ, Option, Some, None, List, [], ◌∷◌, ◌++◌, true, codes, string_bytes}
use Rattle.std.specs.List.{flat_map}
use Rattle.std.specs.Io.KnownBytes.{Appends}
use Rattle.pci_spec.specs.Slot.{Slot}
use Rattle.pci_spec.specs.Text.{Block, slot_text}
use Rattle.pci_dump.specs.Begun.{AppendsBeginning}
use Rattle.pci_check.specs.Audits.{IsDumpOf}
use Rattle.pci_picture.specs.ByRoots.{IsDrawnByRootsOfShow}
use Rattle.pci_picture.specs.Whole.{IsPictureText}
use Rattle.pciplan_cli.specs.CarriedOut.{TextsByPath}
use Rattle.pciplan_cli.specs.Invocations.{IsInvocationOf, HasBadWords}
use Rattle.pciplan_cli.specs.declared.invocation.Invocation.{Invocation}
use Rattle.pciplan_tasks.specs.Also.{IsAlsoTold}
use Rattle.pciplan_tasks.specs.Answers.{Answer, AreRemarked, done_with}
use Rattle.pciplan_tasks.specs.Tasks.{IsAnswerTo, IsPairAnswer, IsTaskRefused}
use Rattle.pciplan_tasks.specs.declared.task.Beside.{Beside}
use Rattle.pciplan_tasks.specs.declared.task.Task.TheVariants as task
use Rattle.pciplan_front.specs.Went.{Went}

-- the words of the map behind those of a picture
abbrev pub map_words : List (List ℕ) → List (List ℕ)
map_words words = codes "map" ∷ words

-- the slot of a block, a blank, its title and a line feed; nothing where it has no title
abbrev pub title_line : Slot → Option (List ℕ) → List ℕ
title_line slot None = []
title_line slot (Some title) = slot_text slot ++ 32 ∷ (title ++ 10 ∷ [])

abbrev pub titles_text : List Block → List ℕ
titles_text blocks = flat_map (λ block. title_line block.slot block.title) blocks

-- a well-formed picture of the map, where there is one: each of its regions is the first line of the title of one box, which is marked
-- where one of the faults with reasons names the region. Behind it the title says what the region's function is called, by the titles of
-- the dump, and which faults name the region. What is out of place is drawn where the functions that `show` lists say. The words of
-- the picture are those of its legend, the lines of the faults, the tree of the functions, and what is written in the boxes
pub record IsDrawn (beside : Beside) (dump probe : List Block) (answer : Answer) : Type 0 where
  pub map : Answer
  pub is_map : IsPairAnswer (task.Map beside) dump probe map
  pub accepted : map.status ≡ 0
  pub shown : Answer
  pub is_shown : IsPairAnswer task.Show dump probe shown
  pub faults : Answer
  pub are_faults : IsPairAnswer (task.Faults beside true) dump probe faults
  pub text : List ℕ
  pub picture : IsPictureText text
  pub draws : IsDrawnByRootsOfShow shown.text (titles_text dump) map.text faults.text text
  pub line : answer ≡ done_with map.remarks text

-- the line `no ..` of the map, where there is none
pub record IsNotDrawn (beside : Beside) (dump probe : List Block) (answer : Answer) : Type 0 where
  pub is_map : IsPairAnswer (task.Map beside) dump probe answer
  pub refused : answer.status ≡ 1

abbrev pub IsDrawnOrNot : Beside → List Block → List Block → Answer → Type 0
IsDrawnOrNot beside dump probe answer = IsDrawn beside dump probe answer ⊎ IsNotDrawn beside dump probe answer

-- what is answered to the texts at the paths of a line of `map`
pub record IsPictureReply (line : Invocation) (dump second : TextsByPath) (reply : Answer) : Type 0 where
  pub beside : Beside
  pub asked : line.task ≡ task.Map beside
  pub told : IsAlsoTold beside.also
  pub dump_stands : dump.stands (string_bytes line.dump)
  pub second_stands : second.stands (string_bytes line.probe)
  pub is : IsAnswerTo IsDumpOf (IsDrawnOrNot beside) (dump.bytes_at (string_bytes line.dump))
      (second.bytes_at (string_bytes line.probe)) reply

-- that answer is written, and its remarks are told
pub record IsPictureDone (line : Invocation) (dump second : TextsByPath) (status : ℕ)
    (IsWritten AreTold : List ℕ → Type 0) : Type 0 where
  pub answer : Answer
  pub is : IsPictureReply line dump second answer
  pub named : status ≡ answer.status
  pub written : IsWritten answer.text
  pub remarked : AreTold answer.remarks

-- a beginning of it was written
pub record IsPictureBegun (line : Invocation) (dump second : TextsByPath)
    (IsWritten : List ℕ → Type 0) : Type 0 where
  pub answer : Answer
  pub is : IsPictureReply line dump second answer
  pub begun : IsWritten answer.text

-- the line is none of `map`, or a text at its paths is refused
abbrev pub IsPictureRefused : Invocation → TextsByPath → TextsByPath → Type 0
IsPictureRefused line dump second =
    ((beside : Beside) → line.task ≡ task.Map beside → ⊥)
    ⊎ IsTaskRefused line.task (dump.bytes_at (string_bytes line.dump))
    (second.bytes_at (string_bytes line.probe))

-- what `picture` did, by the words behind it
pub record IsPicture (words : List (List ℕ)) (dump second third : TextsByPath) (status : ℕ)
    (out err : Went) (HasFailed : Type 0) : Type 0 where
  pub done : status < 2
      → (line : Invocation) × IsInvocationOf (map_words words) third line
      × IsPictureDone line dump second status (Appends out.before out.after)
      (AreRemarked err.before err.after err.failed err.same)
  pub refused : status ≡ 2
      → HasBadWords (map_words words)
      ⊎ ((line : Invocation) × IsInvocationOf (map_words words) third line × IsPictureRefused line dump second)
  pub quiet : (status ≡ 2) ⊎ (status ≡ 3) → out.same
  pub begun : status ≡ 4
      → out.same
      ⊎ ((line : Invocation) × IsInvocationOf (map_words words) third line
      × IsPictureBegun line dump second (AppendsBeginning out.before out.after))
  pub failed : status ≡ 4 → HasFailed
  pub known : status ≤ 4
