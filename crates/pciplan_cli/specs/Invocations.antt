-- The command lines, by their words.
use Rattle.std.specs.Prelude.{◌≡◌, ◌⊎◌, List, ℕ, ⊤}
use Rattle.std.specs.String.{string_bytes}
use Rattle.pciplan_words.specs.CommandWords.{IsGiven, HasNoLine}
use Rattle.pciplan_words.specs.Forms.{form_in, plain_words}
use Rattle.pciplan_words.specs.declared.asked.Asked.{Asked}
use Rattle.pciplan_cli.specs.AlsoTexts.{IsAlsoAt, also_path, with_also}
use Rattle.pciplan_cli.specs.Asked.{IsTaskWith, IsRefusedWith}
use Rattle.pciplan_cli.specs.CarriedOut.{TextsByPath}
use Rattle.pciplan_tasks.specs.Statuses.{status_of}
use Rattle.pciplan_tasks.specs.declared.task.Also.{Also}
use Rattle.pciplan_tasks.specs.declared.task.Task.{Task}
use Rattle.pciplan_tasks.specs.declared.failure.Failure.{Failure}
use Rattle.pciplan_tasks.specs.declared.failure.Failure.TheVariants.{Usage, Memory}
use Rattle.pciplan_cli.specs.declared.invocation.Invocation.{Invocation}

-- the command line of the words, of which those that name a form of the writes are read first, with what the third text
-- at its path tells
pub record IsInvocationOf (words : List (List ℕ)) (third : TextsByPath) (line : Invocation) : Type 0 where
  pub asked : Asked
  pub given : IsGiven (plain_words words) asked (string_bytes line.dump) (string_bytes line.probe)
  pub untold : Task
  pub of_words : IsTaskWith (form_in words) asked untold
  pub also : Also
  pub told : IsAlsoAt third (also_path asked) also
  pub task : line.task ≡ with_also untold also

-- what the words say is refused
abbrev pub IsRefusedLine : List (List ℕ) → Failure → Type 0
IsRefusedLine words failure =
    (asked : Asked) × (dump : List ℕ) × (second : List ℕ)
    × IsGiven (plain_words words) asked dump second
    × IsRefusedWith (form_in words) asked failure

-- why words make none: no command line, or a word of one that is none; a want of memory can come at any words
abbrev pub AreWordsRefused : List (List ℕ) → Failure → Type 0
AreWordsRefused words Memory = ⊤
AreWordsRefused words Usage = HasNoLine (plain_words words) ⊎ IsRefusedLine words Usage
AreWordsRefused words failure = IsRefusedLine words failure

-- the words are refused: they are no command line, or a word of one is none, or two options exclude each other, or a form
-- of the writes is named to a command that has none
abbrev pub HasBadWords : List (List ℕ) → Type 0
HasBadWords words = (failure : Failure) × AreWordsRefused words failure × (status_of failure ≡ 2)
