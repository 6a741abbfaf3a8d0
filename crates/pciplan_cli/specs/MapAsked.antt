-- The map that a command line asks for.
use Rattle.std.specs.Prelude.{◌≡◌}
use Rattle.pciplan_words.specs.declared.asked.MapWords.{MapWords}
use Rattle.pciplan_cli.specs.BesideWords.{beside_words, IsSaidBeside, IsRefusedBeside}
use Rattle.pciplan_tasks.specs.declared.task.Beside.{Beside}
use Rattle.pciplan_tasks.specs.declared.task.Task.{Task}
use Rattle.pciplan_tasks.specs.declared.task.Task.TheVariants as task
use Rattle.pciplan_tasks.specs.declared.failure.Failure.{Failure}

pub record IsMapOf (asked : MapWords) (t : Task) : Type 0 where
  pub said : Beside
  pub beside : IsSaidBeside
      (beside_words asked.root asked.model asked.host_io asked.host_mem) said
  pub is : t ≡ task.Map said

-- the first word that says nothing
abbrev pub IsMapRefused : MapWords → Failure → Type 0
IsMapRefused asked =
    IsRefusedBeside (beside_words asked.root asked.model asked.host_io asked.host_mem)
