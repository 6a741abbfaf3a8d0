-- The third text of a command line, which tells of ranges: its path, and what it says.
use Rattle.std.specs.Prelude.{◌≡◌, ℕ, List, [], Option, None, Some, option_map}
use Rattle.judge_spec.specs.Told.{ToldRange}
use Rattle.judge_spec.specs.ToldText.{IsToldTextOf}
use Rattle.pci_dump.specs.ToldFaults.{IsToldTextFault}
use Rattle.pciplan_words.specs.declared.asked.Asked.{Asked}
use Rattle.pciplan_words.specs.declared.asked.Asked.TheVariants as asked
use Rattle.pciplan_tasks.specs.Tasks.{IsFaultOfLeft}
use Rattle.pciplan_tasks.specs.declared.task.Also.{Also}
use Rattle.pciplan_tasks.specs.declared.task.Also.TheVariants.{Told, Refused}
use Rattle.pciplan_tasks.specs.declared.task.Task.{Task}
use Rattle.pciplan_tasks.specs.declared.task.Task.TheVariants as task
use Rattle.pciplan_cli.specs.CarriedOut.{TextsByPath}

-- the path of `--also`, which `faults`, `map` and `settle` alone have
abbrev pub also_path : Asked → Option (List ℕ)
also_path (asked.Faults words) = option_map (λ path. path.now) words.also
also_path (asked.Map words) = option_map (λ path. path.now) words.also
also_path (asked.Settle words) = option_map (λ path. path.now) words.also
also_path _ = None

-- the ranges whose text was left, where the bytes are told
pub record AreToldBy (left : Option (List ℕ)) (ranges : List ToldRange) : Type 0 where
  pub text : (bytes : List ℕ) → left ≡ Some bytes → IsToldTextOf bytes ranges
  pub only : (bytes : List ℕ) → left ≡ Some bytes → (others : List ToldRange)
      → IsToldTextOf bytes others → others ≡ ranges

-- what the text at a path tells, or its fault; nothing where there is no path
abbrev pub IsAlsoAt : TextsByPath → Option (List ℕ) → Also → Type 0
IsAlsoAt texts None also = also ≡ Told []
IsAlsoAt texts (Some path) (Told ranges) = texts.stands path × AreToldBy (texts.bytes_at path) ranges
IsAlsoAt texts (Some path) (Refused fault) =
    IsFaultOfLeft IsToldTextFault (texts.bytes_at path) fault

-- the task with what is told
abbrev pub with_also : Task → Also → Task
with_also (task.Faults beside why) also = task.Faults (record beside { also = also }) why
with_also (task.Map beside) also = task.Map (record beside { also = also })
with_also (task.Settle request printed) also = task.Settle (record request { also = also }) printed
with_also t also = t
